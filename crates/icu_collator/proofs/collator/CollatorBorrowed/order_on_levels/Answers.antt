-- Both texts are read in step by what is kept of their characters.
use Rattle.std.proofs.Common.{◌∙◌, [], ap}
use Rattle.unicode_normalization.specs.Forms.{nfd}
use Rattle.icu_element_reading.specs.TextElements.{Reading, elements_after}
use Rattle.icu_collator.specs.Collators.{collation_borrowed}
use Rattle.icu_collator.specs.declared.forward_levels.Level.TheVariants.{Primary}
use Rattle.icu_collator.proofs.FactsInStepLemmas.{facts_order}
use Rattle.icu_collator.proofs.InStepLemmas.{leading_read}
use Rattle.icu_collator.proofs.collator.CollatorBorrowed.order_on_levels.Goals as goal

pub returns : goal.returns
returns g c =
    let collation = collation_borrowed c.args.self.now in
    let left = g.L.EncodedText.text in
    let right = g.R.EncodedText.text in
    let t = left c.args.left in
    let u = right c.args.right in
    facts_order collation c.requires.plain left right c.new-one.result c.new-other.result t u (Primary c.reordering.result) c.args.form c.order_in_step.result
    (c.new-one.ensures.gives [] ∙ ap (λ (r : Reading). elements_after r [] (nfd t)) c.requires.reading)
    (c.new-other.ensures.gives [] ∙ ap (λ (r : Reading). elements_after r [] (nfd u)) c.requires.reading)
    (leading_read collation (nfd t) (nfd u) c.reordering.result c.reordering.ensures) c.requires.form (c.order_in_step.ensures [] [])
