-- Runs of characters of a text each of which has one primary weight by itself.
use Rattle.std.proofs.Common.{◌≡◌, ℕ, zero, suc, ◌+◌, ◌-◌, ◌<◌, ◌≤◌, false, List, [], ◌++◌, length, take, drop, refl, sym, ap, ◌∙◌, subst, arith, inl, inr}
use Rattle.std.specs.Prelude.{slice_range}
use Rattle.std.proofs.lemmas.Bool.{cases_lt}
use Rattle.std.proofs.lemmas.List.{length-drop, take_all}
use Rattle.unicode_normalization.specs.Forms.{nfd}
use Rattle.icu_element_reading.proofs.boundaries.NfdLemmas.{nfd-nil}
use Rattle.icu_element_reading.proofs.StepLemmas.{elements_after_nil}
use Rattle.icu_element_reading.specs.TextElements.{elements_of}
use Rattle.icu_table_entries.specs.Elements.{Element}
use Rattle.icu_order_texts.specs.weighting.Collations.{Collation}
use Rattle.icu_order_texts.specs.weighting.Forms.{last_variable_by}
use Rattle.icu_order_texts.specs.TextOrder.{reading_by}
use Rattle.icu_search_places.specs.Searches.{Search, is_match}
use Rattle.icu_search.specs.inner.CountedChars.{CountsAlone}
use Rattle.icu_search.specs.inner.FirstWeights.{counted_primaries}
use Rattle.icu_search.specs.inner.SearchCuts.{CutsAt, IsPieceFrom}
use Rattle.icu_search.specs.inner.TextRuns.{AreAlone}
use Rattle.icu_search.specs.inner.WeightsBehind.{DiffersBehind}
use Rattle.icu_search.proofs.CountedWalks.{cut_elements, no_weights, one_more_counted, weight_count}
use Rattle.icu_search.proofs.FirstWeightLemmas.{primaries_counted}
use Rattle.icu_search.proofs.TextCutLemmas.{none_matches}

module _ (c : Collation) (text : List ℕ) where
  pub alone_none : (start : ℕ) → start ≤ length text → AreAlone c text start start
  alone_none start within = record { within = within; alone = λ k from before. absurd (omega (arith, from, before)) }

  pub alone_within : (start stop first last : ℕ) → AreAlone c text start stop → start ≤ first → last ≤ stop → AreAlone c text first last
  alone_within start stop first last a from to = record {
    within = omega (arith, a.within, to);
    alone = λ k after before. a.alone k (omega (arith, after, from)) (omega (arith, before, to));
  }

  pub alone_more : (start at : ℕ) → at < length text → AreAlone c text start at → CountsAlone c text at 1 → AreAlone c text start (at + 1)
  alone_more start at inside a one = record {
    within = omega (arith, inside);
    alone = λ k after before. elim (cases_lt k at) as (λ _. CountsAlone c text k 1) [
      | inl earlier ↦ a.alone k after earlier
      | inr last ↦
          let here : at ≡ k = omega (arith, last, before) in
          subst (λ i. CountsAlone c text i 1) here one
    ];
  }

  empty : (start at : ℕ) → at ≡ start → slice_range text start at ≡ []
  empty start at same = let none : at - start ≡ 0 = omega (arith, same) in ap (λ n. take n (drop start text)) none

  -- before a character behind the first one the text is cut
  alone_cut : (start at : ℕ) → AreAlone c text start at → start < at → at < length text → CutsAt (reading_by c) text at
  alone_cut start at a after inside =
      let before : at - 1 < at = omega (arith, after) in
      let here : (at - 1) + 1 ≡ at = omega (arith, after) in
      elim (a.alone (at - 1) (omega (arith, after)) before).ends as (λ _. CutsAt (reading_by c) text at) [
        | inl end ↦ absurd (omega (arith, end, here, inside))
        | inr cut ↦ subst (CutsAt (reading_by c) text) here cut
      ]

  -- so many characters have as many weights
  pub alone_count : (n start : ℕ) → AreAlone c text start (start + n) → weight_count c (slice_range text start (start + n)) ≡ n
  alone_count zero start a = ap (weight_count c) (empty start (start + 0) (omega arith)) ∙ no_weights c
  alone_count (suc n) start a =
      let at = start + n in
      let next : start + suc n ≡ at + 1 = omega arith in
      let one = a.alone at (omega arith) (omega arith) in
      let shorter = alone_within start (start + suc n) start at a (omega arith) (omega arith) in
      let so_far = alone_count n start shorter in
      elim (cases_lt start at) as (λ _. weight_count c (slice_range text start (start + suc n)) ≡ suc n) [
        | inl after ↦
            let cut = alone_cut start at shorter after (omega (arith, a.within)) in
            omega (arith, ap (λ k. weight_count c (slice_range text start k)) next, one_more_counted c text start at (omega arith) cut, so_far, one.count)
        | inr first ↦
            let none : n ≡ 0 = omega (arith, first) in
            let here : at ≡ start = omega (arith, first) in
            omega (arith, ap (λ k. weight_count c (slice_range text start k)) next, ap (λ k. weight_count c (slice_range text k (at + 1))) here, one.count, none)
      ]

  abbrev own : List ℕ → List Element
  own l = elements_of (reading_by c) (nfd l)

  nothing_read : own [] ≡ []
  nothing_read = ap (elements_of (reading_by c)) nfd-nil ∙ elements_after_nil (reading_by c) []

  -- what follows a start is read as the run and what follows it
  pub alone_elements : (start at : ℕ) → start ≤ at → at < length text → AreAlone c text start at → own (drop start text) ≡ own (slice_range text start at) ++ own (drop at text)
  alone_elements start at ordered inside a =
      elim (cases_lt start at) as (λ _. own (drop start text) ≡ own (slice_range text start at) ++ own (drop at text)) [
        | inl after ↦ cut_elements c text start at ordered (alone_cut start at a after inside)
        | inr first ↦
            let here : at ≡ start = omega (arith, first, ordered) in
            sym (ap (λ k. own (drop k text)) here) ∙ sym (ap (λ (l : List Element). l ++ own (drop at text)) (ap own (empty start at here) ∙ nothing_read))
      ]

-- no match begins at an offset, if the weight behind a run differs
module _ (s : Search) (text : List ℕ) (start at : ℕ) (ordered : start ≤ at) (inside : at < length text) (a : AreAlone s.collation text start at)
    (differs : DiffersBehind s (drop at text) (at - start)) where
  size : length (counted_primaries (last_variable_by s.collation) (elements_of (reading_by s.collation) (nfd (slice_range text start at)))) ≡ at - start
  size =
      let here : start + (at - start) ≡ at = omega (arith, ordered) in
      let whole : AreAlone s.collation text start (start + (at - start)) = subst (AreAlone s.collation text start) (sym here) a in
      sym (ap length (primaries_counted s.collation (slice_range text start at)))
      ∙ ap (λ k. weight_count s.collation (slice_range text start k)) (sym here)
      ∙ alone_count s.collation text (at - start) start whole

  piece : IsPieceFrom (reading_by s.collation) text start (length text) (drop start text)
  piece = record {
    stop = length text;
    reaches = omega arith;
    within = omega arith;
    ends = inl refl;
    part_is = sym (take_all (length text - start) (drop start text) (omega (arith, length-drop start text)));
  }

  pub none_behind_run : (stop : ℕ) → start < stop → stop ≤ length text → is_match s text start stop ≡ false
  none_behind_run =
      none_matches s text start (length text) (drop start text) piece
      (λ part more begins. differs (drop start text) part more (elements_of (reading_by s.collation) (nfd (slice_range text start at))) (alone_elements s.collation text start at ordered inside a) size begins)
