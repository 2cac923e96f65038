-- Behind the first character of a canonical decomposition none leads, by a computation over all characters.
use Rattle.std.proofs.Common.{◌≡◌, ℕ, ◌+◌, ◌-◌, ◌/◌, ◌%◌, ◌<◌, Bool, true, false, not, ◌&&◌, ◌||◌, ◌==◌, List, [], ◌∷◌, refl, sym, ap, ◌∙◌, inl, inr, arith}
use Rattle.std.specs.List.{list_all}
use Rattle.std.proofs.lemmas.Bool.{cases_Bool, cases_eq, cond-false, and_from, and_right, or_left, or_right, le-leb, true_from_ne_false}
use Rattle.ucd_table.specs.Rows.{Range, in_ranges}
use Rattle.ucd_table.proofs.Stepped.{Stepped, zip_stepped, of_ranges}
use Rattle.ucd_table.proofs.Facts.{tree_value, tree_of, tree_value-tree_of}
use Rattle.ucd_table.proofs.RangedFacts.{points_ok, values_ok, Stepped-at_values, Stepped-at_points}
use Rattle.ucd_table.proofs.Computing.{tables}
use Rattle.ucd_normal.specs.declared.forms.Form.TheVariants.{Nfd, Nfc}
use Rattle.ucd_normal.specs.declared.forms.QuickCheck.{QuickCheck}
use Rattle.ucd_normal.specs.CanonicalCombiningClass.{canonical_combining_class as class_of}
use Rattle.ucd_normal.specs.Decomposition.{or_itself, expand, canonical_decomposition}
use Rattle.ucd_normal.specs.QuickCheck.{quick_check}
use Rattle.ucd_normal.proofs.CanonicalCombiningClassLemmas.{canonical_combining_class_stepped}
use Rattle.ucd_normal.proofs.DecompositionLemmas.{decomposition_stepped, expand_stepped, canonical_decomposition_stepped}
use Rattle.ucd_normal.proofs.QuickCheckLemmas.{quick_check_stepped}
use Rattle.unicode_normalization.specs.Decompose.{decompose}
use Rattle.unicode_normalization.specs.Hangul.{is_syllable, decompose_hangul}
use Rattle.unicode_normalization.proofs.DecomposeLemmas.{decompose-syllable, length-from_decompose}
use Rattle.unicode_normalization.proofs.HangulLemmas.{decompose_hangul-two, decompose_hangul-three}
use Rattle.icu_search_places.specs.SearchPlaces.{may_compose, leads}

abbrev leads_by : (ℕ → ℕ) → (ℕ → QuickCheck) → ℕ → Bool
leads_by class quick c = class c == 0 && not (may_compose (quick c) || c == 0xFB5 || c == 0xFB7)

-- none of the characters behind the first one leads
abbrev none_behind : (ℕ → Bool) → List ℕ → Bool
none_behind leading [] = true
none_behind leading (d ∷ ds) = list_all (λ c. not (leading c)) ds

leads_by_tree : ℕ → Bool
unfolding tables canonical_combining_class_stepped quick_check_stepped
leads_by_tree =
    leads_by (tree_value canonical_combining_class_stepped.default (tree_of class_of canonical_combining_class_stepped))
    (tree_value (quick_check_stepped Nfc).default (tree_of (quick_check Nfc) (quick_check_stepped Nfc)))

leads_as_tree : leads_by class_of (quick_check Nfc) ≡ leads_by_tree
unfolding leads_by_tree
leads_as_tree =
    λ i. leads_by (tree_value-tree_of class_of canonical_combining_class_stepped i) (tree_value-tree_of (quick_check Nfc) (quick_check_stepped Nfc) i)

by_tree_ok : (c : ℕ) → none_behind leads_by_tree (canonical_decomposition c) ≡ true
unfolding tables values_ok expand leads_by_tree canonical_decomposition_stepped expand_stepped decomposition_stepped canonical_combining_class_stepped quick_check_stepped
by_tree_ok = Stepped-at_values canonical_decomposition canonical_decomposition_stepped (none_behind leads_by_tree) refl

table_ok : (c : ℕ) → none_behind leads (canonical_decomposition c) ≡ true
table_ok c = ap (λ (leading : ℕ → Bool). none_behind leading (canonical_decomposition c)) leads_as_tree ∙ by_tree_ok c

-- ---- Hangul syllables

abbrev jamo_ranges : List Range
jamo_ranges = (0x1161, 0x1175) ∷ (0x11A8, 0x11C2) ∷ []

abbrev passes : Bool → Bool → Bool
passes inside test = not inside || test

jamo_compose : (c : ℕ) → passes (in_ranges jamo_ranges c) (may_compose (quick_check Nfc c)) ≡ true
unfolding tables points_ok quick_check_stepped
jamo_compose c =
    let inside : Stepped (in_ranges jamo_ranges) = of_ranges jamo_ranges refl in
    let both : Stepped (λ c. passes (in_ranges jamo_ranges c) (may_compose (quick_check Nfc c))) =
    zip_stepped (λ inside v. passes inside (may_compose v)) (in_ranges jamo_ranges) (quick_check Nfc) inside (quick_check_stepped Nfc) in
    true_from_ne_false _ (λ fails. let clash = Stepped-at_points _ both (λ b. b) (λ _ _. false) refl c fails in cc)

follows : (c : ℕ) → in_ranges jamo_ranges c ≡ true → not (leads c) ≡ true
follows c inside =
    let may : may_compose (quick_check Nfc c) ≡ true = ap (λ b. passes b (may_compose (quick_check Nfc c))) (sym inside) ∙ jamo_compose c in
    ap not (and_right (class_of c == 0) _ (ap (λ b. not (b || c == 0xFB5 || c == 0xFB7)) may))

vowel_follows : (v : ℕ) → v < 21 → not (leads (0x1161 + v)) ≡ true
unfolding in_ranges
vowel_follows v small =
    follows (0x1161 + v) (or_left _ _ (and_from _ _ (le-leb 0x1161 (0x1161 + v) (omega arith)) (le-leb (0x1161 + v) 0x1175 (omega (arith, small)))))

trailing_follows : (t : ℕ) → t < 28 → (t ≡ 0 → ⊥) → not (leads (0x11A7 + t)) ≡ true
unfolding in_ranges
trailing_follows t small some =
    follows (0x11A7 + t)
    (or_right _ _ (or_left _ _ (and_from _ _ (le-leb 0x11A8 (0x11A7 + t) (omega (arith, some))) (le-leb (0x11A7 + t) 0x11C2 (omega (arith, small))))))

vowel_small : (s : ℕ) → (s - 0xAC00) % 588 / 28 < 21
vowel_small s = omega arith

trailing_small : (s : ℕ) → (s - 0xAC00) % 28 < 28
trailing_small s = omega arith

syllable_ok : (s : ℕ) → none_behind leads (decompose_hangul s) ≡ true
syllable_ok s =
    let v = (s - 0xAC00) % 588 / 28 in
    let t = (s - 0xAC00) % 28 in
    let vowel = vowel_follows v (vowel_small s) in
    elim (cases_eq t 0) [
      | inl two ↦ ap (none_behind leads) (decompose_hangul-two s two) ∙ and_from _ _ vowel refl
      | inr three ↦ ap (none_behind leads) (decompose_hangul-three s three) ∙ and_from _ _ vowel (and_from _ _ (trailing_follows t (trailing_small s) three) refl)
    ]

-- ---- any character

itself_ok : (c : ℕ) (ds : List ℕ) → none_behind leads ds ≡ true → none_behind leads (or_itself c ds) ≡ true
itself_ok c [] h = refl
itself_ok c (d ∷ ds) h = h

other_ok : (c : ℕ) → is_syllable c ≡ false → none_behind leads (decompose Nfd c) ≡ true
unfolding decompose
other_ok c other = ap (none_behind leads) (cond-false _ _ _ other) ∙ itself_ok c (canonical_decomposition c) (table_ok c)

all_ok : (c : ℕ) → none_behind leads (decompose Nfd c) ≡ true
all_ok c =
    elim (cases_Bool (is_syllable c)) [
      | inl syllable ↦ ap (none_behind leads) (decompose-syllable Nfd c syllable) ∙ syllable_ok c
      | inr other ↦ other_ok c other
    ]

-- the characters that a character decomposes to, none of which leads but the first one
pub record Decomposes (c : ℕ) : Type 0 where
  pub first : ℕ
  pub more : List ℕ
  pub is : decompose Nfd c ≡ first ∷ more
  pub behind : list_all (λ d. not (leads d)) more ≡ true

decomposes_by : (c : ℕ) (ds : List ℕ) → ds ≡ decompose Nfd c → Decomposes c
decomposes_by c [] same = let some = (length-from_decompose Nfd c [] same).0 in absurd (omega (arith, some))
decomposes_by c (d ∷ ds) same = record { first = d; more = ds; is = sym same; behind = ap (none_behind leads) same ∙ all_ok c }

pub decomposes : (c : ℕ) → Decomposes c
decomposes c = decomposes_by c (decompose Nfd c) refl
