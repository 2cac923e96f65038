-- The longest mapping that begins a text, where no mapping begins with more of the text than was met.
use Rattle.std.proofs.Common.{◌≡◌, ℕ, Bool, true, false, not, ◌&&◌, ◌||◌, List, [], ◌∷◌, ◌++◌, Option, Some, None, refl, sym, ap, ◌∙◌, inl, inr, bytes_eq}
use Rattle.std.specs.Prelude.{nat_eq}
use Rattle.std.specs.List.{starts_with}
use Rattle.std.proofs.lemmas.Bool.{and_parts, cases_Bool, false≢true}
use Rattle.icu_table_data.specs.Data.{Mapping, mapping_entry, better, longest_from, longest_mapping}
use Rattle.icu_element_matches.specs.MatchesAhead.{is_decided, are_decided}

pub implied : (a b : Bool) → (not a || b) ≡ true → a ≡ true → b ≡ true
implied true b h e = h
implied false b h e = cc

pub second_false : (a b : Bool) → (a && b) ≡ false → a ≡ true → b ≡ false
second_false true b h e = h
second_false false b h e = cc

-- a mapping that neither is these characters and one more, nor goes on after them, begins the text exactly if it begins
-- these
same_begins : (met : List ℕ) (c : ℕ) (rest mapping : List ℕ) → is_decided mapping (met ++ c ∷ []) ≡ true → bytes_eq mapping (met ++ c ∷ []) ≡ false → starts_with nat_eq (met ++ c ∷ rest) mapping ≡ starts_with nat_eq met mapping
unfolding is_decided
same_begins met c rest [] h k = refl
same_begins [] c rest (y ∷ []) h k = elim (cases_Bool (nat_eq y c)) [
  | inl same ↦ absurd (false≢true (sym k ∙ rw same refl))
  | inr differs ↦ rw differs refl
]
same_begins [] c rest (y ∷ (z ∷ zs)) h k = elim (cases_Bool (nat_eq y c)) [
  | inl same ↦ absurd (false≢true (rw same at h))
  | inr differs ↦ rw differs refl
]
same_begins (x ∷ xs) c rest (y ∷ ys) h k = elim (cases_Bool (nat_eq y x)) [
  | inl same ↦ ap (λ b. nat_eq y x && b) (same_begins xs c rest ys (implied (nat_eq y x) (is_decided ys (xs ++ c ∷ [])) h same) (second_false (nat_eq y x) (bytes_eq ys (xs ++ c ∷ [])) k same))
  | inr differs ↦ rw differs refl
]

not_this : (mapping : Mapping) (mappings : List Mapping) (chars : List ℕ) → mapping_entry (mapping ∷ mappings) chars ≡ None → (bytes_eq mapping.chars chars ≡ false) × (mapping_entry mappings chars ≡ None)
unfolding mapping_entry
not_this mapping mappings chars h = elim (cases_Bool (bytes_eq mapping.chars chars)) [
  | inl same ↦ let no : Some mapping.entry ≡ None = rw same at h in cc
  | inr differs ↦ (differs, rw differs at h)
]

same_longest : (best : Option Mapping) (mappings : List Mapping) (met : List ℕ) (c : ℕ) (rest : List ℕ) → are_decided mappings (met ++ c ∷ []) ≡ true → mapping_entry mappings (met ++ c ∷ []) ≡ None → longest_from best mappings (met ++ c ∷ rest) ≡ longest_from best mappings met
unfolding longest_from
same_longest best [] met c rest h k = refl
same_longest best (x ∷ xs) met c rest h k =
    let decided = and_parts (is_decided x.chars (met ++ c ∷ [])) (are_decided xs (met ++ c ∷ [])) h in
    let other = not_this x xs (met ++ c ∷ []) k in
    rw (same_begins met c rest x.chars decided.0 other.0) (same_longest (better best x met) xs met c rest decided.1 other.1)

-- where no mapping begins with one character more, the longest one begins what was met
pub longest_of_met : (mappings : List Mapping) (met : List ℕ) (c : ℕ) (rest : List ℕ) → are_decided mappings (met ++ c ∷ []) ≡ true → mapping_entry mappings (met ++ c ∷ []) ≡ None → longest_mapping mappings (met ++ c ∷ rest) ≡ longest_mapping mappings met
longest_of_met mappings met c rest h k = same_longest None mappings met c rest h k
