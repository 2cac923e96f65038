-- The identical level determines the decomposed text.
use Rattle.std.proofs.Common.{◌≡◌, ◌<◌, ◌↔◌, ℕ, List, map, Equal, ap}
use Rattle.std.specs.List.{AllByRecursion}
use Rattle.unicode_normalization.specs.Forms.{nfd}
use Rattle.icu_options.specs.declared.settings.Strength.TheVariants.{Identical}
use Rattle.icu_order_levels.specs.Identical.{identical_level, identical_rank}
use Rattle.icu_order_levels.specs.Keys.{Determines}
use Rattle.icu_order_levels.proofs.IdenticalOrder.{identical_order, same_from_ranks}
use Rattle.icu_order_levels.proofs.KeepLemmas.{tie}
use Rattle.icu_order_levels.proofs.Order.{tied_lists}
use Rattle.icu_table_data.proofs.CharLemmas.{scalar_below}
use Rattle.icu_table_data.proofs.ListLemmas.{weaker}
use Rattle.icu_table_provider.specs.well_formed.WellFormedTables.{IsWellFormedTables}
use Rattle.icu_element_reading.specs.TextElementLaws.{IsText}
use Rattle.icu_element_reading.specs.TextParts.{IsDecomposed}
use Rattle.icu_element_reading.proofs.DecomposedLemmas.{IsDecomposedText-nfd}
use Rattle.icu_order_texts.specs.weighting.Collations.{Collation}
use Rattle.icu_order_texts.specs.TextOrder.{text_order, text_key}
use Rattle.icu_order_texts.proofs.TextOrders.{equal_keys}
use Rattle.icu_order_texts.specs.text_laws.IdenticalLaws.{decomposed_order}
use Rattle.icu_order_texts.specs.text_laws.OrderLaws.{AreEquivalent}
use Rattle.icu_order_texts.proofs.text_laws.EquivalentLemmas.{equivalent_tie, identical_equivalent}

in_range : (t : List ℕ) → IsText t → AllByRecursion (λ c. c < 0x110000) (nfd t)
in_range t text = weaker IsDecomposed (λ c. c < 0x110000) (λ c d. scalar_below c d.scalar) (nfd t) (IsDecomposedText-nfd t text)

module _ (t u : List ℕ) (p : IsText t) (q : IsText u) where
  pub levels_order_texts : Determines (identical_level (nfd t)) (identical_level (nfd u)) (decomposed_order t u)
  levels_order_texts = λ s r a b. identical_order (nfd t) (nfd u) s r (in_range t p) (in_range u q) a b

  pub levels_determine_texts : (identical_level (nfd t) ≡ identical_level (nfd u)) ↔ AreEquivalent t u
  levels_determine_texts = (
    λ same. same_from_ranks (nfd t) (nfd u)
        (tied_lists (map identical_rank (nfd t)) (map identical_rank (nfd u))
        (tie (identical_level (nfd t)) (identical_level (nfd u)) (decomposed_order t u) levels_order_texts same)),
    λ same. ap identical_level same,
  )

module _ (collation : Collation) (is : collation.settings.strength ≡ Identical) (t u : List ℕ) where
  pub identical_texts : (text_order collation t u ≡ Equal) ↔ AreEquivalent t u
  identical_texts = (λ e. identical_equivalent collation t u is e, λ e. equivalent_tie collation t u e)

  pub identical_keys : IsWellFormedTables collation.tables → IsText t → IsText u → (text_key collation t ≡ text_key collation u) ↔ AreEquivalent t u
  identical_keys well_formed p q =
      let keys = equal_keys collation well_formed t u p q in (λ e. identical_texts.0 (keys.1 e), λ e. keys.0 (identical_texts.1 e))
