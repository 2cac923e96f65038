use Rattle.std.proofs.Common.{ap, ◌∙◌}
use Rattle.unicode_normalization.specs.Order.{is_ordered}
use Rattle.icu_text_decomposition.specs.inner.FrontMarks.{front_marks}
use Rattle.icu_text_decomposition.proofs.FrontMarkLemmas.{front-mark}
use Rattle.icu_text_decomposition.proofs.ordered_parts.OrderedParts.stays.Goals as goal

pub returns-else-self : goal.returns-else-self
returns-else-self g c = λ h.
    ap (λ l. is_ordered (front_marks l)) c.requires.at ∙ ap is_ordered (front-mark c.args.mark _ c.requires.is_mark) ∙ c.are_in_order.ensures h
