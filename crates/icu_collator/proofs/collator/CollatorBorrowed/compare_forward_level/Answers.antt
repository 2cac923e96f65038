-- What was read is what the texts have.
use Rattle.std.proofs.Common.{◌∙◌, List, ap₂}
use Rattle.icu_order_levels.specs.ListOrder.{list_order}
use Rattle.icu_order_texts.specs.weighting.Handled.{HandledElement}
use Rattle.icu_collator.specs.inner.LevelWeights.{level_weights}
use Rattle.icu_collator.proofs.collator.CollatorBorrowed.compare_forward_level.Goals as goal

pub returns-in-Some : goal.returns-in-Some
returns-in-Some g c =
    let read = rw c.in-Some.is at c.requires in
    c.order.ensures
    ∙ ap₂ (λ (hs ks : List HandledElement). list_order (level_weights c.args.level hs) (level_weights c.args.level ks)) read.0 read.1
