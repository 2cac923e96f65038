-- The group moves as a whole.
use Rattle.std.proofs.Common.{◌<◌, ◌≤◌, refl, rules}
use Rattle.icu_table_provider.specs.StoredTables.{reordering_of}
use Rattle.icu_rule_tables.specs.script_reordering.inner.CarriedSpans.{CarriesTo}
use Rattle.icu_rule_tables.proofs.script_reordering.SpanLemmas.{is_carried}
use Rattle.icu_rule_tables.proofs.script_reordering.span_checks.carried_end.Goals as goal

pub returns : goal.returns
returns c =
    let s = c.args.span in
    let some : s.start < s.end = search rules in
    let small : s.end ≤ 0xFF00 = search rules in
    let carries : CarriesTo (reordering_of c.args.reordering) s c.from-to.result = c.if-not-carries_to.ensures refl in
    let up : c.args.above ≤ c.reorder-least.result = search rules in
    let inside : c.reorder-greatest.result < 0xFF000000 = search rules in
    is_carried (reordering_of c.args.reordering) s c.from-to.result c.args.above c.reorder-least.result c.reorder-greatest.result some small carries
    c.reorder-least.ensures.value c.reorder-greatest.ensures.value up inside
