-- Each weight of the root has its place among the numbers.
use Rattle.std.proofs.Common.{◌≡◌, Bool, true, false}
use Rattle.std.specs.Bool.{OnTrue}
use Rattle.icu_rule_meaning.specs.weight_tree.TreeBuilders.{tree_of}
use Rattle.icu_rule_weights.proofs.tailoring_numbers.KeptNeighbourLemmas.{keeps_neighbours}
use Rattle.icu_rule_weights.proofs.tailoring_numbers.tailoring_numbers.TailoringNumbers.if_ascending.Goals as goal

on_true : (P : Type 0) (b : Bool) → b ≡ true → OnTrue b P → P
on_true P true e p = p
on_true P false e p = cc

pub returns-then-ascend-clause-between : goal.returns-then-ascend-clause-between
returns-then-ascend-clause-between g c =
    keeps_neighbours (g.R.RootWeights.root c.args.root.now) c.args.self (tree_of c.args.tree.now) c.args.begun.now c.requires (on_true _ _ c.if-ascend.true c.in_ok-ascend.ensures)
