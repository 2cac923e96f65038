use Rattle.std.proofs.Common.{◌≡◌, ◌∙◌, ap}
use Rattle.std.specs.Prelude.{chars}
use Rattle.unicode_normalization.specs.Forms.{nfd}
use Rattle.unicode_normalization.proofs.IterLemmas.{Spells-chars}
use Rattle.icu_collator.specs.Collators.{collation_borrowed}
use Rattle.icu_element_reading.specs.TextElements.{Reading, elements_of}
use Rattle.icu_order_texts.specs.TextOrder.{reading_by}
use Rattle.icu_search.proofs.FirstWeightLemmas.{counted_weights}
use Rattle.icu_search.proofs.pattern_weights.weight_count.Goals as goal

pub returns : goal.returns
returns c =
    let collation = collation_borrowed c.args.collator.now in
    let text = chars c.args.text.now in
    let read = c.in_ok-elements.ensures text (Spells-chars _ _ c.utf8.text c.chars.ensures.rest) in
    let is : c.as_slice.result.now ≡ elements_of (reading_by collation) (nfd text) =
    c.as_slice.ensures.value ∙ read ∙ ap (λ (r : Reading). elements_of r (nfd text)) c.reading_of_collator.ensures in
    cc (c.counted.ensures, c.last_variable.ensures, counted_weights collation text c.as_slice.result.now is)
