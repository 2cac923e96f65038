-- What was read is what the texts have.
use Rattle.std.proofs.Common.{◌∙◌, List, ap₂}
use Rattle.icu_order_levels.specs.ListOrder.{segments_order}
use Rattle.icu_order_texts.specs.TextOrder.{lists_by}
use Rattle.icu_order_texts.specs.weighting.Handled.{HandledElement, stayed_elements}
use Rattle.icu_order_texts.specs.weighting.Levels.{segments}
use Rattle.icu_collator.proofs.collator.CollatorBorrowed.compare_backward_level.Goals as goal

pub returns-in-Some : goal.returns-in-Some
unfolding lists_by
returns-in-Some g c =
    let read = rw c.in-Some.is at c.requires in
    c.compare_segments.ensures
    ∙ ap₂ segments_order c.new-left.ensures.segments c.new-right.ensures.segments
    ∙ ap₂ (λ (hs ks : List HandledElement). segments_order (segments (stayed_elements hs)) (segments (stayed_elements ks))) read.0 read.1
