use Rattle.std.proofs.Common.{ap, ◌∙◌, refl, sym}
use Rattle.icu_text_decomposition.specs.inner.FrontMarks.{past_marks}
use Rattle.icu_text_decomposition.specs.inner.Parts.{parts_left}
use Rattle.icu_text_decomposition.proofs.FrontMarkLemmas.{never_past}
use Rattle.icu_text_decomposition.proofs.ordered_parts.OrderedParts.begin_run.Goals as goal

pub returns-in_err-mark-clause-next : goal.returns-in_err-mark-clause-next
returns-in_err-mark-clause-next g c = absurd (
    never_past _ _ c.args.c _ c.requires.at c.requires.is_mark
    (sym c.new-pass.ensures.left ∙ c.in_err-mark.ensures.none refl)
    (c.in_err-mark.ensures.past refl ∙ ap (λ r. past_marks (parts_left g.T.EncodedText.text r)) c.new-pass.ensures.run))

pub returns-in_err-mark-clause-some : goal.returns-in_err-mark-clause-some
returns-in_err-mark-clause-some g c = absurd (
    never_past _ _ c.args.c _ c.requires.at c.requires.is_mark
    (sym c.new-pass.ensures.left ∙ c.in_err-mark.ensures.none refl)
    (c.in_err-mark.ensures.past refl ∙ ap (λ r. past_marks (parts_left g.T.EncodedText.text r)) c.new-pass.ensures.run))
