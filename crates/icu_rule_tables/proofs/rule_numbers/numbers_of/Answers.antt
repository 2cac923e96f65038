-- The tree is that of what was said.
use Rattle.std.proofs.Common.{subst}
use Rattle.icu_rule_meaning.specs.WeightTrees.{WeightTree}
use Rattle.icu_rule_meaning.specs.SymbolicOrders.{NumbersTree}
use Rattle.icu_rule_weights.specs.tailoring_numbers.Numberings.{numbering_of}
use Rattle.icu_rule_weights.specs.tailoring_numbers.RootNeighbours.{KeepsNeighbours}
use Rattle.icu_rule_root.specs.StoredRoots.{stored_root}
use Rattle.icu_rule_tables.proofs.rule_numbers.numbers_of.Goals as goal

pub returns-in-Ok-clause-ok : goal.returns-in-Ok-clause-ok
returns-in-Ok-clause-ok c =
    let numbers = c.in-Ok.numbers in
    record {
      numbered = subst (λ (tree : WeightTree). NumbersTree tree (numbering_of numbers)) c.tree.ensures c.in-Ok.ensures.numbers;
      between = subst (λ (tree : WeightTree). KeepsNeighbours (stored_root c.args.root.now) tree (numbering_of numbers)) c.tree.ensures c.in-Ok.ensures.between;
    }
