use Rattle.std.proofs.Common.{[]}
use Rattle.icu_collator.specs.Collators.{collation_borrowed}
use Rattle.icu_collator.specs.inner.FirstPrimaries.{GivesPrimaries}
use Rattle.icu_collator.proofs.collator.CollatorBorrowed.next_primary.Given as goal

-- the elements that were passed over have no primaries
abbrev pub invariant-elements : goal.invariant-elements
invariant-elements g l = GivesPrimaries (collation_borrowed l.self) g.T.EncodedText.text l.fn.characters [] l.characters
