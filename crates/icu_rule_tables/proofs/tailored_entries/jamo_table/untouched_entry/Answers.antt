-- The entry stays, or gives the mappings that are left.
use Rattle.std.proofs.Common.{◌≡◌, ◌∙◌, true, List, ap, sym, subst, rules}
use Rattle.std.proofs.lemmas.Result.{IfOk-weaker}
use Rattle.icu_table_provider.specs.builder.Building.{built_data}
use Rattle.icu_table_mappings.proofs.GrownListLemmas.{extends_itself}
use Rattle.icu_rule_meaning.specs.TailoredMappings.{SymbolicMapping}
use Rattle.icu_rule_steps.specs.symbolic_mappings.KeptMappings.{mappings_in}
use Rattle.icu_rule_steps.specs.symbolic_mappings.StoredMappings.{symbolic_mappings}
use Rattle.icu_rule_steps.specs.symbolic_mappings.TouchedCharacters.{has_own_mappings}
use Rattle.icu_rule_steps.proofs.symbolic_mappings.TouchedLemmas.{untouched_own}
use Rattle.icu_rule_tables.specs.tailored_entries.GivenMappings.{GivesMappings}
use Rattle.icu_rule_tables.proofs.tailored_entries.JamoTableLemmas.{jamo_given, suppressed_own}
use Rattle.icu_rule_tables.proofs.tailored_entries.jamo_table.untouched_entry.Goals as goal

pub returns-then-not-branch-clause-extends : goal.returns-then-not-branch-clause-extends
returns-then-not-branch-clause-extends g c = extends_itself (built_data c.args.builder.now)

pub returns-clause-entry : goal.returns-clause-entry
returns-clause-entry g c =
    let root = g.R.RootMappings.mappings_of in
    let t = c.args.sources.numbers.now in
    let held = c.args.mappings.now in
    let x = c.args.c in
    let new = built_data c.entry_of_mappings.new.builder in
    let lost : c.in_ok-was_suppressed.field-0 ≡ true = search rules in
    let own : has_own_mappings root held x ≡ true =
    suppressed_own root t held x c.in_ok-was_suppressed.field-0 c.requires.untouched c.requires.scalar c.in_ok-was_suppressed.ensures ∙ lost in
    let listed : symbolic_mappings c.as_slice.result.now ≡ mappings_in root held x =
    ap symbolic_mappings c.as_slice.ensures.value ∙ c.in_ok-own.ensures ∙ sym (untouched_own root held x c.requires.untouched) in
    IfOk-weaker c.entry_of_mappings.result _ _
    (λ e gives. jamo_given root t held new x c.args.rooted e own (subst (λ (ms : List SymbolicMapping). GivesMappings t new x ms e) listed gives))
    c.entry_of_mappings.ensures.gives
