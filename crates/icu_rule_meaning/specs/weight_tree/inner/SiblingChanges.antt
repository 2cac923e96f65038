-- What changes make of siblings.
use Rattle.std.specs.Prelude.{List}
use Rattle.icu_rule_meaning.specs.declared.symbolic.SymbolicWeight.{SymbolicWeight}
use Rattle.icu_rule_meaning.specs.declared.symbolic.SymbolicWeight.TheVariants as weights
use Rattle.icu_rule_meaning.specs.WeightTrees.{with_rooted, with_behind}
use Rattle.icu_rule_meaning.specs.declared.weight_tree.change.Change.{Change}
use Rattle.icu_rule_meaning.specs.declared.weight_tree.change.Change.TheVariants.{PutRooted, PutBehind}

-- siblings after a change
abbrev pub changed : Change → List SymbolicWeight → List SymbolicWeight
changed (PutRooted w) siblings = with_rooted w siblings
changed (PutBehind w new) siblings = with_behind w (weights.Tailored new) siblings
