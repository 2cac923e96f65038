-- What was appended, and then what the codes left put, is the whole.
use Rattle.std.proofs.Common.{◌≡◌, ◌++◌, drop}
use Rattle.std.specs.List.{flat_map}
use Rattle.icu_rule_tables.specs.script_reordering.ScriptOrders.{spans_of_code}
use Rattle.icu_rule_tables.proofs.script_reordering.code_orders.push_named.Given as goal

abbrev pub invariant-loop-code : goal.invariant-loop-code
invariant-loop-code l =
    l.order.items ++ flat_map (spans_of_code l.starts l.named l.spans) (drop l.code-index l.named)
    ≡ l.initial.order.items ++ flat_map (spans_of_code l.starts l.named l.spans) l.named
