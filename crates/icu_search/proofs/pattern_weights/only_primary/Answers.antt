use Rattle.std.proofs.Common.{◌≡◌, ◌<◌, ◌≤◌, List, [], ◌∷◌, length, get_or, ◌∙◌, ap, sym, arith}
use Rattle.std.specs.Prelude.{chars}
use Rattle.unicode_normalization.specs.Forms.{nfd}
use Rattle.unicode_normalization.proofs.IterLemmas.{Spells-chars}
use Rattle.icu_table_entries.specs.Elements.{Element}
use Rattle.icu_collator.specs.Collators.{collation_borrowed}
use Rattle.icu_element_reading.specs.TextElements.{Reading, elements_of}
use Rattle.icu_order_texts.specs.TextOrder.{reading_by}
use Rattle.icu_search.proofs.pattern_weights.only_primary.Goals as goal

only_item : (xs : List Element) (x : Element) → 1 ≤ length xs → length xs < 2 → x ≡ get_or xs 0 x → xs ≡ x ∷ []
only_item [] x some few is = absurd (omega (arith, some))
only_item (y ∷ []) x some few is = ap (λ (z : Element). z ∷ []) (sym is)
only_item (y ∷ z ∷ zs) x some few is = absurd (omega (arith, few))

pub returns-in-len1 : goal.returns-in-len1
returns-in-len1 c =
    let text = chars c.args.text.now in
    let read = c.in_ok-elements.ensures text (Spells-chars _ _ c.utf8.text c.chars.ensures.rest) in
    let is : c.as_slice.result.now ≡ elements_of (reading_by (collation_borrowed c.args.collator.now)) (nfd text) =
    c.as_slice.ensures.value ∙ read ∙ ap (λ (r : Reading). elements_of r (nfd text)) c.reading_of_collator.ensures in
    record {
      element = c.only-item.result;
      elements = sym is ∙ only_item c.as_slice.result.now c.only-item.result c.in-len1.len_at_least c.in-len1.len_below c.only-item.is;
      primary = sym c.primary.ensures;
    }
