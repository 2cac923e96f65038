use Rattle.std.proofs.Common.{◌≡◌, ◌∷◌, ◌++◌, take, reverse}
use Rattle.icu_rule_steps.proofs.symbolic_mappings.reading.push_consumed.Given as goal

abbrev pub invariant-loop-next : goal.invariant-loop-next
invariant-loop-next l = l.before.items ≡ take 2 (reverse (l.fn.c ∷ take l.next-index l.suffix) ++ l.fn.before.items)
