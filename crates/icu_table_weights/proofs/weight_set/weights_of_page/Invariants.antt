use Rattle.std.proofs.Common.{◌+◌, ◌*◌, [], get_or}
use Rattle.icu_table_data.specs.CollectedWeights.{Adds}
use Rattle.icu_table_weights.specs.inner.Pages.{IsBelow, IsOfWord}
use Rattle.icu_table_weights.proofs.weight_set.weights_of_page.Given as goal

-- the weights of the words so far were added
abbrev pub invariant-loop-place : goal.invariant-loop-place
invariant-loop-place l = Adds (IsBelow (λ place. IsOfWord (get_or l.words place 0) (l.least + place * 0x4000)) l.place) [] l.list.items
