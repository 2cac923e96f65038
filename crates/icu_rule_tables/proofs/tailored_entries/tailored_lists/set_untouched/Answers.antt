-- The character gets an entry of its mappings, which are those that no relation touched.
use Rattle.std.proofs.Common.{◌≡◌, ◌∙◌, List, ap, sym, subst}
use Rattle.icu_table_provider.specs.builder.Building.{built_data}
use Rattle.icu_rule_meaning.specs.TailoredMappings.{SymbolicMapping}
use Rattle.icu_rule_steps.specs.symbolic_mappings.KeptMappings.{mappings_in}
use Rattle.icu_rule_steps.specs.symbolic_mappings.StoredMappings.{symbolic_mappings}
use Rattle.icu_rule_steps.proofs.symbolic_mappings.TouchedLemmas.{untouched_own}
use Rattle.icu_rule_tables.specs.tailored_entries.GivenMappings.{GivesMappings}
use Rattle.icu_rule_tables.proofs.tailored_entries.TailoredCharacterLemmas.{one_set}
use Rattle.icu_rule_tables.proofs.tailored_entries.tailored_lists.set_untouched.Goals as goal

pub returns : goal.returns
returns g c =
    let root = g.R.RootMappings.mappings_of in
    let t = c.args.sources.numbers.now in
    let held = c.args.mappings.now in
    let x = c.args.c in
    let grown = built_data c.entry_of_mappings.new.builder in
    let listed : symbolic_mappings c.as_slice.result.now ≡ mappings_in root held x =
    ap symbolic_mappings c.as_slice.ensures.value ∙ c.in_ok-own.ensures ∙ sym (untouched_own root held x c.requires) in
    let gives : GivesMappings t grown x (mappings_in root held x) c.in_ok-entry.entry =
    subst (λ (ms : List SymbolicMapping). GivesMappings t grown x ms c.in_ok-entry.entry) listed c.in_ok-entry.ensures.gives in
    one_set root t held (built_data c.args.builder.now) grown (built_data c.set_entry.new.self) x c.in_ok-entry.entry
    c.in_ok-entry.ensures.extends c.set_entry.ensures gives
