-- Texts are ordered as their keys are.
use Rattle.std.proofs.Common.{◌≡◌, ℕ, List, refl, sym, ap, ◌∙◌}
use Rattle.std.proofs.lemmas.Cmp.{nat_list_cmp_total}
use Rattle.std.specs.Ordering.{ordering_reverse}
use Rattle.icu_order_levels.specs.ListOrder.{list_order}
use Rattle.icu_order_levels.proofs.Order.{same_lists_order}
use Rattle.icu_table_provider.specs.well_formed.WellFormedTables.{IsWellFormedTables}
use Rattle.icu_element_reading.specs.TextElementLaws.{IsText}
use Rattle.icu_order_texts.specs.weighting.Collations.{Collation}
use Rattle.icu_order_texts.specs.TextOrder.{text_order, text_key}
use Rattle.icu_order_texts.proofs.TextOrders.{keys_keep}
use Rattle.icu_order_texts.specs.text_laws.OrderLaws.{IsOrderOfTexts}

module _ (collation : Collation) (well_formed : IsWellFormedTables collation.tables) where
  abbrev key : List ℕ → List ℕ
  key t = text_key collation t

  by_keys : (t u : List ℕ) → IsText t → IsText u → text_order collation t u ≡ list_order (key t) (key u)
  by_keys t u p q = sym (keys_keep collation well_formed t u p q)

  pub texts_ordered : IsOrderOfTexts collation
  texts_ordered = record {
    reflexive = λ t p. by_keys t t p p ∙ same_lists_order (key t) (key t) refl;
    swapped = λ t u p q. by_keys t u p q ∙ (nat_list_cmp_total.antisymm (key t) (key u) ∙ ap ordering_reverse (sym (by_keys u t q p)));
    transitive = λ t u v p q r e i. by_keys t v p r ∙ nat_list_cmp_total.trans (key t) (key u) (key v) (sym (by_keys t u p q) ∙ e) (sym (by_keys u v q r) ∙ i);
    equal = λ t u v p q r e. by_keys t v p r ∙ (nat_list_cmp_total.congr (key t) (key u) (key v) (sym (by_keys t u p q) ∙ e) ∙ sym (by_keys u v q r));
  }
