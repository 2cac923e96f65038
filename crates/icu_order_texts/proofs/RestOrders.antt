-- Texts with a common beginning are in the order of what follows it.
use Rattle.std.proofs.Common.{◌≡◌, ◌⊎◌, ℕ, false, List, [], ◌∷◌, ◌++◌, ap, sym, ◌∙◌, append-nil, inr, true}
use Rattle.unicode_normalization.specs.Forms.{nfd}
use Rattle.icu_order_levels.specs.CommonBeginnings.{HasFront}
use Rattle.icu_order_levels.proofs.FrontLemmas.{front_does_not_count}
use Rattle.icu_table_provider.specs.CollatorTables.{reorder}
use Rattle.icu_element_reading.specs.TextElements.{Reading, elements_of, elements_after, elements_along}
use Rattle.icu_element_reading.proofs.boundaries.NfdLemmas.{nfd-nil, nfd-append}
use Rattle.icu_element_reading.proofs.boundaries.CutLemmas.{boundary_cut}
use Rattle.icu_order_texts.specs.weighting.Collations.{Collation}
use Rattle.icu_order_texts.specs.weighting.Forms.{form_by, last_variable_by, compression_of}
use Rattle.icu_order_texts.specs.weighting.Handled.{stayed_elements}
use Rattle.icu_order_texts.specs.weighting.Levels.{weights, primary_of, secondary_of, cases_in, tertiaries_in, quaternaries}
use Rattle.icu_order_texts.specs.TextOrder.{reading_by, handled_by, handled_elements, lists_by, text_order}
use Rattle.icu_order_texts.specs.TextCuts.{begins_with_primary, IsRest, CommonBeginningsDoNotCount}
use Rattle.icu_order_texts.proofs.AppendLemmas.{weights-append, cases_in-append, tertiaries_in-append, quaternaries-append, stayed_elements-append, handled-begun_anew}

-- a text that may be the rest of others is read and handled by itself
record StandsApart (collation : Collation) (beginning t : List ℕ) : Type 0 where
  characters : nfd (beginning ++ t) ≡ nfd beginning ++ nfd t
  elements : elements_of (reading_by collation) (nfd (beginning ++ t))
      ≡ elements_of (reading_by collation) (nfd beginning) ++ elements_of (reading_by collation) (nfd t)
  anew : (last_variable_by collation ≡ 0) ⊎ (begins_with_primary (elements_of (reading_by collation) (nfd t)) ≡ true)

pub no_elements : (reading : Reading) → elements_of reading (nfd []) ≡ []
unfolding elements_after elements_along
no_elements reading = ap (elements_of reading) nfd-nil

stands_apart : (collation : Collation) (beginning t : List ℕ) → IsRest collation t → StandsApart collation beginning t
stands_apart collation beginning [] h =
    let reading = reading_by collation in
    record {
      characters = ap nfd (append-nil beginning) ∙ sym (append-nil (nfd beginning)) ∙ ap (λ l. nfd beginning ++ l) (sym nfd-nil);
      elements = ap (λ l. elements_of reading (nfd l)) (append-nil beginning) ∙ sym (append-nil (elements_of reading (nfd beginning)))
          ∙ ap (λ es. elements_of reading (nfd beginning) ++ es) (sym (no_elements reading));
      anew = inr (ap begins_with_primary (no_elements reading));
    }
stands_apart collation beginning (c ∷ cs) h = record {
  characters = nfd-append c h.first h.more cs h.decomposes h.boundary.starter beginning;
  elements = boundary_cut (reading_by collation) c h.first h.more cs h.decomposes h.boundary [] beginning;
  anew = h.handled;
}

module _ (collation : Collation) (beginning t : List ℕ) (h : StandsApart collation beginning t) where
  handled_apart : handled_by collation (nfd (beginning ++ t)) ≡ handled_by collation (nfd beginning) ++ handled_by collation (nfd t)
  handled_apart =
      ap (handled_elements collation false) h.elements
      ∙ handled-begun_anew collation.settings.alternate_handling (last_variable_by collation) (elements_of (reading_by collation) (nfd beginning)) (elements_of (reading_by collation) (nfd t)) h.anew

  stayed_apart : stayed_elements (handled_by collation (nfd (beginning ++ t)))
      ≡ stayed_elements (handled_by collation (nfd beginning)) ++ stayed_elements (handled_by collation (nfd t))
  stayed_apart = ap stayed_elements handled_apart ∙ stayed_elements-append (handled_by collation (nfd beginning)) (handled_by collation (nfd t))

  has_front : HasFront (lists_by collation (nfd beginning)) (lists_by collation (nfd (beginning ++ t))) (lists_by collation (nfd t))
  unfolding lists_by
  has_front =
      let hs = handled_by collation (nfd beginning) in
      let ks = handled_by collation (nfd t) in
      let form = form_by collation in
      record {
        primaries = ap (weights primary_of primary_of) stayed_apart ∙ weights-append primary_of primary_of (stayed_elements hs) (stayed_elements ks);
        secondaries = ap (weights secondary_of secondary_of) stayed_apart ∙ weights-append secondary_of secondary_of (stayed_elements hs) (stayed_elements ks);
        cases = ap (cases_in (form_by collation).secondary (form_by collation).cases) stayed_apart
            ∙ cases_in-append form.secondary form.cases (stayed_elements hs) (stayed_elements ks);
        tertiaries = ap (tertiaries_in (form_by collation).tertiary) stayed_apart ∙ tertiaries_in-append form.tertiary (stayed_elements hs) (stayed_elements ks);
        quaternaries = ap (quaternaries (reorder collation.tables)) handled_apart ∙ quaternaries-append (reorder collation.tables) hs ks;
        characters = h.characters;
      }

pub common_beginnings : CommonBeginningsDoNotCount
unfolding text_order
common_beginnings collation forward beginning t u ht hu =
    front_does_not_count _ _ _ _ _
    (has_front collation beginning t (stands_apart collation beginning t ht))
    (has_front collation beginning u (stands_apart collation beginning u hu))
    (compression_of collation.tables) (form_by collation) forward
