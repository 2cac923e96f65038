-- The first primaries decide.
use Rattle.std.proofs.Common.{◌≡◌, Option, Ordering, IfSome, subst}
use Rattle.icu_order_texts.specs.TextOrder.{text_order}
use Rattle.icu_collator.specs.Collators.{collation_borrowed}
use Rattle.icu_collator.proofs.collator.CollatorBorrowed.order_by_first_characters.Goals as goal

pub returns-in-Some : goal.returns-in-Some
returns-in-Some g c =
    let t = g.L.EncodedText.text c.args.left in
    let u = g.R.EncodedText.text c.args.right in
    let collation = collation_borrowed c.args.self.now in
    subst (λ (r : Option Ordering). IfSome r (λ o. o ≡ text_order collation t u)) c.in-Some.is
    (c.order_of_first_primaries.ensures.order t u c.requires.one c.requires.other)
