-- The cursors give the elements of the texts.
use Rattle.std.proofs.Common.{◌∙◌, [], ap}
use Rattle.unicode_normalization.specs.Forms.{nfd}
use Rattle.icu_element_reading.specs.TextElements.{Reading, elements_after}
use Rattle.icu_collator.specs.Collators.{collation_borrowed}
use Rattle.icu_collator.proofs.BackwardInStepLemmas.{backward_found}
use Rattle.icu_collator.proofs.collator.CollatorBorrowed.compare_backward_in_step.Goals as goal

pub returns : goal.returns
returns g c =
    let t = g.L.EncodedText.text c.args.left in
    let u = g.R.EncodedText.text c.args.right in
    backward_found (collation_borrowed c.args.self.now) c.in_ok-form.ensures.plain g.L.EncodedText.text g.R.EncodedText.text
    c.new-one.result c.new-other.result t u c.in_ok-form.form c.order_backward.result
    (c.new-one.ensures.gives [] ∙ ap (λ (r : Reading). elements_after r [] (nfd t)) c.cursor_tables-tables.ensures)
    (c.new-other.ensures.gives [] ∙ ap (λ (r : Reading). elements_after r [] (nfd u)) c.cursor_tables-tables.ensures)
    c.in_ok-form.ensures.form (c.order_backward.ensures [] [])
