use Rattle.std.proofs.Common.{◌+◌, ◌*◌}
use Rattle.icu_table_data.specs.CollectedWeights.{Adds}
use Rattle.icu_table_weights.specs.inner.Pages.{IsBelow, IsOfSetBit}
use Rattle.icu_table_weights.proofs.weight_set.add_weights_of.Given as goal

-- the weights of the bits so far were added
abbrev pub invariant-loop-bit : goal.invariant-loop-bit
invariant-loop-bit l = Adds (IsBelow (λ bit. IsOfSetBit l.word bit (l.first + bit * 256)) l.bit) l.fn.list.items l.list.items
