-- One group more is in its place.
use Rattle.std.proofs.Common.{◌≡◌, length, rules}
use Rattle.icu_table_provider.specs.StoredTables.{reordering_of}
use Rattle.icu_rule_tables.proofs.script_reordering.SpanLemmas.{one_more_span, all_spans}
use Rattle.icu_rule_tables.proofs.script_reordering.span_checks.puts_in_order.Goals as goal

pub loop-span-preserved : goal.loop-span-preserved
loop-span-preserved c =
    one_more_span c.args.order.now (reordering_of c.args.reordering) _ c.loop-span.span-index c.loop-span.above c.in-Some.next c.loop-span-test.true
    c.loop-span.invariant c.in-Some.ensures (search rules)

pub returns : goal.returns
returns c = λ h.
    let all : c.loop-span.span-index ≡ length c.args.order.now = search rules in
    all_spans c.args.order.now (reordering_of c.args.reordering) c.loop-span.span-index c.loop-span.above all c.loop-span.invariant
