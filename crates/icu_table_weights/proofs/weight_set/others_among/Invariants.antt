use Rattle.std.proofs.Common.{[], get_or}
use Rattle.icu_table_data.specs.CollectedWeights.{Adds}
use Rattle.icu_table_weights.specs.inner.Pages.{IsBelow, IsOther}
use Rattle.icu_table_weights.proofs.weight_set.others_among.Given as goal

-- the weights so far were added, but for those of three bytes
abbrev pub invariant-loop-weight : goal.invariant-loop-weight
invariant-loop-weight l = Adds (IsBelow (λ k. IsOther (get_or l.weights k 0)) l.weight-index) [] l.others.items
