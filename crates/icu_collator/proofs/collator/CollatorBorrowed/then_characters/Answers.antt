-- An order that isn't Equal decides.
use Rattle.std.proofs.Common.{refl}
use Rattle.icu_collator.proofs.OrdersInTurn.{ends, goes_on}
use Rattle.icu_collator.proofs.collator.CollatorBorrowed.then_characters.Goals as goal

pub returns-then-ne : goal.returns-then-ne
returns-then-ne g c = ends _ _ _ _ c.ne.ensures c.if-ne.true refl

pub returns : goal.returns
returns g c = goes_on _ _ _ _ _ c.ne.ensures c.if-ne.false refl c.compare_identical_level.ensures
