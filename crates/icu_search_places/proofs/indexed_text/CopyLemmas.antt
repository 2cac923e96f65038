-- A text that is written character by character, and how sorted lists are searched.
use Rattle.std.proofs.Common.{◌≡◌, ℕ, ◌+◌, ◌<◌, Bool, true, false, ◌==◌, List, [], ◌∷◌, ◌++◌, Ok, Err, length, map, drop, get_or, sym, ap, ◌∙◌, subst, arith, inl, inr, append_assoc}
use Rattle.std.specs.Prelude.{IsUtf8, chars, encode_utf8, Result, is_ok, IsPermutation, IsSorted}
use Rattle.std.specs.Cmp.{ranks, nat_cmp_total}
use Rattle.std.specs.declared.cmp.Ordering.TheVariants.{Less, Equal, Greater}
use Rattle.std.specs.Char.{IsScalar}
use Rattle.std.specs.List.Sorted.{IsSearchInRange, IsBinarySearchResult}
use Rattle.std.specs.Ordering.{nat_cmp, MatchOrdering}
use Rattle.std.proofs.lemmas.Bool.{cases_lt}
use Rattle.std.proofs.lemmas.Bool.Decides.{nat_tests}
use Rattle.std.proofs.lemmas.List.{append-nil, drop_more}
use Rattle.std.proofs.lemmas.List.Elements.{All-from_get_or}
use Rattle.std.proofs.lemmas.List.Folds.{list_any_at, list_any_none}
use Rattle.std.proofs.lemmas.List.Sorted.{list_any-IsPermutation, searchable_from_sorted}
use Rattle.std.proofs.lemmas.Str.{chars-append, chars_from_encodes, IsUtf8-encode}
use Rattle.icu_search_places.specs.indexed_text.OffsetSets.{has_offset}

chars_of_one : (c : ℕ) → IsScalar c → chars (encode_utf8 c) ≡ c ∷ []
chars_of_one c is = sym (chars_from_encodes (c ∷ []) (encode_utf8 c) (IsUtf8-encode c is) (append-nil (encode_utf8 c)))

pub one_char_more : (old new : List ℕ) (c : ℕ) → IsUtf8 old → IsScalar c → new ≡ old ++ encode_utf8 c → chars new ≡ chars old ++ c ∷ []
one_char_more old new c sound is pushed =
    ap chars pushed ∙ chars-append old (encode_utf8 c) sound ∙ ap (λ (l : List ℕ). chars old ++ l) (chars_of_one c is)

-- ---- sets of offsets

is_there : (y x : ℕ) → nat_cmp y x ≡ Equal → (y == x) ≡ true
is_there y x e = let same : y ≡ x = subst (λ o. MatchOrdering o (y < x) (y ≡ x) (x < y)) e (ranks y x) in grind (arith, nat_tests)

is_below : (y x : ℕ) → nat_cmp y x ≡ Less → (y == x) ≡ false
is_below y x e = let less : y < x = subst (λ o. MatchOrdering o (y < x) (y ≡ x) (x < y)) e (ranks y x) in grind (arith, nat_tests)

is_above : (y x : ℕ) → nat_cmp y x ≡ Greater → (y == x) ≡ false
is_above y x e = let more : x < y = subst (λ o. MatchOrdering o (y < x) (y ≡ x) (x < y)) e (ranks y x) in grind (arith, nat_tests)

pub among : (xs : List ℕ) (x : ℕ) (r : Result ℕ ℕ) → IsSearchInRange r (length xs) → IsBinarySearchResult (λ y. nat_cmp y x) xs r → IsSorted nat_cmp xs → is_ok r ≡ has_offset xs x
among xs x (Ok i) inside h up = sym (list_any_at (λ o. o == x) xs i 0 inside (is_there (get_or xs i 0) x (h 0)))
among xs x (Err i) inside h up =
    let p = h (searchable_from_sorted nat_cmp_total (λ y. y) xs x up) in
    sym (list_any_none (λ o. o == x) xs (All-from_get_or (λ o. (o == x) ≡ false) xs 0 (λ k within. elim (cases_lt k i) [
      | inl before ↦ is_below (get_or xs k 0) x (p.0 k 0 (omega arith) before)
      | inr after ↦ is_above (get_or xs k 0) x (p.1 k 0 after within)
    ])))

pub one_mark_more : (set sorted : List ℕ) (offsets : List ℕ) (i item : ℕ) (old new : List Bool) (mark : Bool) → IsPermutation set sorted → i < length offsets → item ≡ get_or offsets i 0
    → mark ≡ has_offset sorted item → new ≡ old ++ mark ∷ [] → old ++ map (has_offset set) (drop i offsets) ≡ map (has_offset set) offsets
    → new ++ map (has_offset set) (drop (i + 1) offsets) ≡ map (has_offset set) offsets
one_mark_more set sorted offsets i item old new mark same inside here is pushed so_far =
    let f = has_offset set in
    let mark_is : mark ≡ f (get_or offsets i 0) = is ∙ sym (list_any-IsPermutation (λ o. o == item) set sorted same) ∙ ap f here in
    ap (λ (l : List Bool). l ++ map f (drop (i + 1) offsets)) pushed ∙ append_assoc old (mark ∷ []) (map f (drop (i + 1) offsets))
    ∙ ap (λ b. old ++ b ∷ map f (drop (i + 1) offsets)) mark_is ∙ ap (λ (l : List ℕ). old ++ map f l) (sym (drop_more offsets i 0 inside)) ∙ so_far
