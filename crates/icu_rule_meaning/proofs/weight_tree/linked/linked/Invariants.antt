use Rattle.std.proofs.Common.{◌≡◌, take}
use Rattle.icu_rule_meaning.proofs.weight_tree.linked.linked.Given as goal

abbrev pub invariant-loop-w : goal.invariant-loop-w
invariant-loop-w l = l.made ≡ take l.w-index l.row
