use Rattle.icu_collator.proofs.BackwardInStepLemmas.{LeavesBackward}
use Rattle.icu_collator.proofs.backward_in_step.order_backward.Given as goal

-- the whole has the order of what is left, after these
abbrev pub invariant-pairs : goal.invariant-pairs
invariant-pairs g l = LeavesBackward g.L.EncodedText.text g.R.EncodedText.text l.form l.fn.left l.fn.right l.second l.third l.left l.right
