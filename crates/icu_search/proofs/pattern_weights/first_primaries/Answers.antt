use Rattle.std.proofs.Common.{◌≡◌, length, take, sym, ap, ◌∙◌}
use Rattle.std.specs.Prelude.{chars}
use Rattle.unicode_normalization.specs.Forms.{nfd}
use Rattle.unicode_normalization.proofs.IterLemmas.{Spells-chars}
use Rattle.icu_collator.specs.Collators.{collation_borrowed}
use Rattle.icu_element_reading.specs.TextElements.{Reading, elements_of}
use Rattle.icu_order_texts.specs.weighting.Forms.{last_variable_by}
use Rattle.icu_order_texts.specs.TextOrder.{reading_by}
use Rattle.icu_search.specs.inner.FirstWeights.{counted_primaries}
use Rattle.icu_search.proofs.FirstWeightLemmas.{primaries_counted}
use Rattle.icu_search.proofs.pattern_weights.first_primaries.Goals as goal

pub returns : goal.returns
returns c =
    let collation = collation_borrowed c.args.collator.now in
    let last = last_variable_by collation in
    let text = chars c.args.pattern.now in
    let read = c.in_ok-elements.ensures text (Spells-chars _ _ c.utf8.pattern c.chars.ensures.rest) in
    let is : c.as_slice.result.now ≡ elements_of (reading_by collation) (nfd text) =
    c.as_slice.ensures.value ∙ read ∙ ap (λ (r : Reading). elements_of r (nfd text)) c.reading_of_collator.ensures in
    ap (take (length c.in_ok-primaries.primaries.items)) (primaries_counted collation text ∙ ap (counted_primaries last) (sym is))
    ∙ c.in_ok-primaries.ensures last c.requires.sure c.requires.variable
