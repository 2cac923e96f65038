-- As much of a text as decides its longest mapping.
use Rattle.std.proofs.Common.{◌≡◌, ℕ, ◌≤◌, true, false, List, [], ◌∷◌, ◌++◌, length, take, drop, None, sym, ap, ◌∙◌, inl, inr, arith, length-append}
use Rattle.std.proofs.lemmas.Bool.{true≢false}
use Rattle.std.proofs.lemmas.List.{take-append-drop, take_all}
use Rattle.icu_table_data.specs.Data.{Mapping, longest_mapping}
use Rattle.icu_element_matches.specs.MatchesAhead.{are_decided, IsDecidedFront}
use Rattle.icu_element_matches.proofs.ReadAheadLemmas.{are_decided-longer, longest_from-decided}

module _ (mappings : List Mapping) (text front : List ℕ) (is : IsDecidedFront mappings text front) where
  split : text ≡ front ++ drop (length front) text
  split = sym (take-append-drop (length front) text) ∙ ap (λ (l : List ℕ). l ++ drop (length front) text) (sym is.begins)

  pub front_fits : length front ≤ length text
  front_fits = omega (arith, ap length split, length-append front (drop (length front) text))

  -- the text has the longest mapping that its front has
  pub longest_by_front : longest_mapping mappings text ≡ longest_mapping mappings front
  longest_by_front = elim is.decides [
    | inl decided ↦ ap (longest_mapping mappings) split ∙ longest_from-decided None mappings front (drop (length front) text) decided
    | inr whole ↦ ap (longest_mapping mappings) (sym whole)
  ]

  pub decided_by_front : are_decided mappings front ≡ true → are_decided mappings text ≡ true
  decided_by_front decided = ap (are_decided mappings) split ∙ are_decided-longer mappings front (drop (length front) text) decided

  -- what isn't decided is all of the text
  pub whole_front : are_decided mappings front ≡ false → front ≡ text
  whole_front open_end = elim is.decides [
    | inl decided ↦ absurd (true≢false (sym decided ∙ open_end))
    | inr whole ↦ whole
  ]

-- all of a text
pub whole_is_front : (mappings : List Mapping) (text front : List ℕ) → front ≡ text → IsDecidedFront mappings text front
whole_is_front mappings text front whole = record {
  begins = whole ∙ sym (take_all (length front) text (omega (arith, ap length whole)));
  decides = inr whole;
}

-- a beginning that decides
pub front_decides : (mappings : List Mapping) (text front : List ℕ) (n : ℕ) → front ≡ take n text → length front ≡ n → are_decided mappings front ≡ true → IsDecidedFront mappings text front
front_decides mappings text front n begins len decided = record {
  begins = begins ∙ ap (λ k. take k text) (sym len);
  decides = inl decided;
}
