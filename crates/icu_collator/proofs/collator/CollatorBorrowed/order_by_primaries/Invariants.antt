use Rattle.std.proofs.Common.{ℕ, List}
use Rattle.icu_collator.specs.Collators.{collation_borrowed}
use Rattle.icu_collator.specs.inner.FirstPrimaries.{ReadsOn}
use Rattle.icu_collator.proofs.collator.CollatorBorrowed.order_by_primaries.Given as goal

-- the primaries that were read are the same in both texts
abbrev pub invariant-weights : goal.invariant-weights
invariant-weights g l = (read : List ℕ)
    × ReadsOn (collation_borrowed l.self) (g.L.EncodedText.text l.fn.left) read g.L.EncodedText.text l.one
    × ReadsOn (collation_borrowed l.self) (g.R.EncodedText.text l.fn.right) read g.R.EncodedText.text l.other
