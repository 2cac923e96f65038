-- A touched character has mappings of its own, another one if it was suppressed.
use Rattle.std.proofs.Common.{◌∙◌, sym}
use Rattle.std.specs.Prelude.{◌&&◌}
use Rattle.std.proofs.lemmas.Result.{IfOk-weaker}
use Rattle.icu_rule_meaning.specs.Rules.{have_character, is_scalar}
use Rattle.icu_rule_steps.specs.symbolic_mappings.TouchedCharacters.{has_root_context, suppressed_in, touched_in}
use Rattle.icu_rule_tables.proofs.tailored_entries.JamoTableLemmas.{own_touched, own_untouched}
use Rattle.icu_rule_tables.proofs.tailored_entries.jamo_table.has_own_mappings.Goals as goal

pub returns-then-is_touched : goal.returns-then-is_touched
returns-then-is_touched g c =
    let root = g.R.RootMappings.mappings_of in
    let held = c.args.mappings.now in
    sym (own_touched (touched_in held c.args.c) (is_scalar c.args.c)
    (have_character (suppressed_in held) c.args.c && has_root_context root held c.args.c) (sym c.is_touched.ensures ∙ c.if-is_touched.true))

pub returns : goal.returns
returns g c =
    let root = g.R.RootMappings.mappings_of in
    let held = c.args.mappings.now in
    IfOk-weaker c.was_suppressed.result _ _
    (λ b is. is ∙ sym (own_untouched (touched_in held c.args.c) (is_scalar c.args.c)
    (have_character (suppressed_in held) c.args.c && has_root_context root held c.args.c) (sym c.is_touched.ensures ∙ c.if-is_touched.false) c.requires))
    c.was_suppressed.ensures
