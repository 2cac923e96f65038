use Rattle.std.proofs.Common.{sym, ◌∙◌}
use Rattle.icu_table_check.proofs.ImplicitOverlapLemmas.{loaded_tailoring}
use Rattle.icu_table_check.proofs.check.implicit_overlaps.is_implicit_in_tailoring.Goals as goal

pub returns-then-not-is_fallback : goal.returns-then-not-is_fallback
returns-then-not-is_fallback c = λ t.
    loaded_tailoring c.args.tables c.args.c c.ce32_for_char-entry.result c.in-Some.tailoring c.in-Some.is c.ranges.c.0 c.ce32_for_char-entry.ensures
    (sym c.is_fallback.ensures ∙ c.if-not-is_fallback.true) (sym c.leads_to_implicit.ensures ∙ t)
