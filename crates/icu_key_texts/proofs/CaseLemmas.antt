-- The case bits of the elements of texts, by tables that meet the conditions.
use Rattle.std.proofs.Common.{ℕ, ◌<◌, false, List, arith}
use Rattle.std.specs.List.{AllByRecursion}
use Rattle.unicode_normalization.specs.Forms.{nfd}
use Rattle.icu_order_levels.specs.declared.forms.CaseForm.TheVariants.{LowerFirst}
use Rattle.icu_table_entries.specs.Elements.{Element}
use Rattle.icu_table_data.proofs.ListLemmas.{weaker}
use Rattle.icu_table_provider.specs.well_formed.WellFormedTables.{IsWellFormedTables}
use Rattle.icu_element_reading.specs.TextElements.{elements_of}
use Rattle.icu_element_reading.specs.TextElementLaws.{IsText}
use Rattle.icu_order_texts.specs.weighting.Collations.{Collation}
use Rattle.icu_order_texts.specs.weighting.Forms.{last_variable_by}
use Rattle.icu_order_texts.specs.weighting.Handled.{HandledElement, stayed, shifted_primary}
use Rattle.icu_order_texts.specs.TextOrder.{reading_by, handled_by}
use Rattle.icu_order_texts.proofs.ElementHalves.{has_rank}
use Rattle.icu_order_texts.proofs.HandledLemmas.{HoldsOf, handled_hold}
use Rattle.icu_order_texts.proofs.TextSources.{IsSource, text_sources}
use Rattle.icu_order_texts.specs.weighting.HandledSources.{HasCase}

module _ (collation : Collation) (well_formed : IsWellFormedTables collation.tables) where
  open collation use {tables as all, settings}

  case_below : (x : Element) → IsSource all x → x.lower < 0xC000
  case_below x s = let rank = has_rank all well_formed LowerFirst x s in omega (arith, rank)

  has_case : (h : HandledElement) → HoldsOf (IsSource all) (λ p. Unit {0}) h → HasCase h
  has_case (stayed x) s = case_below x s
  has_case (shifted_primary p) s = tt

  pub text_has_case : (t : List ℕ) → IsText t → AllByRecursion HasCase (handled_by collation (nfd t))
  text_has_case t text =
      weaker (HoldsOf (IsSource all) (λ p. Unit {0})) HasCase has_case (handled_by collation (nfd t))
      (handled_hold (IsSource all) (λ p. Unit {0}) settings.alternate_handling (last_variable_by collation) (λ x s v. tt) false
      (elements_of (reading_by collation) (nfd t)) (text_sources collation well_formed t text))
