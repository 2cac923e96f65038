-- The readers give the elements of the texts.
use Rattle.std.proofs.Common.{◌∙◌, ap}
use Rattle.unicode_normalization.specs.Forms.{nfd}
use Rattle.icu_order_levels.specs.ListOrder.{segments_order}
use Rattle.icu_order_texts.specs.weighting.Handled.{stayed_elements}
use Rattle.icu_order_texts.specs.weighting.Levels.{segments}
use Rattle.icu_order_texts.specs.TextOrder.{handled_by, lists_by}
use Rattle.icu_collator.specs.Collators.{collation_borrowed}
use Rattle.icu_collator.specs.HandledRests.{steady_to_come}
use Rattle.icu_collator.specs.inner.SegmentsLeft.{reversed_segments}
use Rattle.icu_collator.proofs.collator.CollatorBorrowed.compare_steady_segments.Goals as goal

pub returns : goal.returns
unfolding lists_by
returns g c =
    let collation = collation_borrowed c.args.self.now in
    let t = nfd (g.L.EncodedText.text c.args.left) in
    c.compare_segments.ensures
    ∙ ap (λ ss. segments_order ss (reversed_segments (steady_to_come g.R.EncodedText.text) c.new-right.result))
    (c.new-left.ensures.segments ∙ ap (λ hs. segments (stayed_elements hs)) c.steady_text-2.ensures)
    ∙ ap (segments_order (segments (stayed_elements (handled_by collation t))))
    (c.new-right.ensures.segments ∙ ap (λ hs. segments (stayed_elements hs)) c.steady_text-4.ensures)
