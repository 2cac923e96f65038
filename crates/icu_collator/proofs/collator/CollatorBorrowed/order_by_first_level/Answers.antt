-- What the cursors give on the primary level is what the texts have.
use Rattle.std.proofs.Common.{◌∙◌, [], ap}
use Rattle.unicode_normalization.specs.Forms.{nfd}
use Rattle.icu_element_reading.specs.TextElements.{Reading, elements_after}
use Rattle.icu_collator.specs.Collators.{collation_borrowed}
use Rattle.icu_collator.specs.declared.forward_levels.Level.TheVariants.{Primary}
use Rattle.icu_collator.proofs.FactsInStepLemmas.{level_read}
use Rattle.icu_collator.proofs.InStepLemmas.{leading_read}
use Rattle.icu_collator.proofs.collator.CollatorBorrowed.order_by_first_level.Goals as goal

pub compare_after_primaries-requires : goal.compare_after_primaries-requires
compare_after_primaries-requires g c =
    let collation = collation_borrowed c.args.self.now in
    let left = g.L.EncodedText.text in
    let right = g.R.EncodedText.text in
    let t = nfd (left c.args.left) in
    let u = nfd (right c.args.right) in
    level_read collation c.requires.plain left right c.new-one.result c.new-other.result (left c.args.left) (right c.args.right) (Primary c.reordering.result) c.in_ok-order.order
    (c.new-one.ensures.gives [] ∙ ap (λ (r : Reading). elements_after r [] t) c.requires.reading)
    (c.new-other.ensures.gives [] ∙ ap (λ (r : Reading). elements_after r [] u) c.requires.reading)
    (leading_read collation t u c.reordering.result c.reordering.ensures) (c.in_ok-order.ensures [] [])
