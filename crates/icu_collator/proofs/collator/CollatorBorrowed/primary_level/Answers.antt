-- The weights of the level are the primaries, reordered.
use Rattle.icu_collator.specs.Collators.{collation_borrowed}
use Rattle.icu_collator.proofs.InStepLemmas.{leading_read}
use Rattle.icu_collator.proofs.collator.CollatorBorrowed.primary_level.Goals as goal

pub returns : goal.returns
returns c = λ t u. leading_read (collation_borrowed c.args.self.now) t u c.reordering.result c.reordering.ensures
