-- Letters that are known to stand for themselves, and Hangul syllables.
use Rattle.std.proofs.Common.{nat_lt, ◌≡◌, ℕ, ◌+◌, ◌-◌, ◌/◌, ◌%◌, ◌≤◌, ◌<◌, true, List, [], ◌∷◌, ◌++◌, refl, ap, ◌∙◌, arith, zero-le, inl, inr}
use Rattle.std.specs.List.{list_all}
use Rattle.std.proofs.lemmas.Bool.{and_from, and_parts, ltb-true, cases_eq}
use Rattle.ucd_normal.specs.declared.forms.Form.TheVariants.{Nfd}
use Rattle.unicode_normalization.specs.Decompose.{decompose}
use Rattle.unicode_normalization.specs.Forms.{nfd}
use Rattle.unicode_normalization.specs.Hangul.{is_syllable}
use Rattle.unicode_normalization.specs.Order.{is_starter}
use Rattle.unicode_normalization.proofs.DecomposeLemmas.{decompose-final, decompose-syllable, is_final-jamo}
use Rattle.unicode_normalization.proofs.FormsLemmas.{is_final-Nfd, quick_check-below}
use Rattle.unicode_normalization.proofs.HangulLemmas.{is_syllable-true, decompose_hangul-two, decompose_hangul-three}
use Rattle.unicode_normalization.proofs.TableFacts.{class_of_latin, class_of_jamo}
use Rattle.icu_element_reading.specs.TextElements.{Reading, last_two, elements_after}
use Rattle.icu_element_reading.specs.boundaries.Alone.{elements_of_char, elements_by_char, is_alone, context_after}
use Rattle.icu_element_reading.proofs.boundaries.NfdLemmas.{nfd-starters}
use Rattle.icu_element_reading.proofs.boundaries.AloneLemmas.{lone_starter, letter_of_starters}

-- below U+00C0, where a char is one byte of Latin-1 that has no decomposition
pub low_letter : (reading : Reading) (before : List ℕ) (c : ℕ) (cs : List ℕ) → c < 0xC0 → is_alone reading c ≡ true
    → elements_after reading before (nfd (c ∷ cs)) ≡ elements_of_char reading.tables c ++ elements_after reading (last_two before (c ∷ [])) (nfd cs)
low_letter reading before c cs low alone =
    lone_starter reading before c cs (decompose-final Nfd c (is_final-Nfd c (quick_check-below Nfd c low))) (class_of_latin c zero-le (omega (arith, low))) alone

-- a conjoining jamo
pub jamo : (reading : Reading) (before : List ℕ) (c : ℕ) (cs : List ℕ) → 0x1100 ≤ c → c < 0x1200 → is_alone reading c ≡ true
    → elements_after reading before (nfd (c ∷ cs)) ≡ elements_of_char reading.tables c ++ elements_after reading (last_two before (c ∷ [])) (nfd cs)
jamo reading before c cs low high alone =
    lone_starter reading before c cs (decompose-final Nfd c (is_final-jamo Nfd c low high)) (class_of_jamo c low high) alone

-- the jamo of a syllable are starters
pub syllable_starters : (c : ℕ) → is_syllable c ≡ true → list_all is_starter (decompose Nfd c) ≡ true
syllable_starters c h =
    let range = is_syllable-true c h in
    let l = class_of_jamo (0x1100 + (c - 0xAC00) / 588) (omega arith) (omega arith) in
    let v = class_of_jamo (0x1161 + (c - 0xAC00) % 588 / 28) (omega arith) (omega arith) in
    let t = class_of_jamo (0x11A7 + (c - 0xAC00) % 28) (omega arith) (omega arith) in
    ap (list_all is_starter) (decompose-syllable Nfd c h)
    ∙ elim (cases_eq ((c - 0xAC00) % 28) 0) [
      | inl two ↦ ap (list_all is_starter) (decompose_hangul-two c two) ∙ and_from _ _ l (and_from _ _ v refl)
      | inr three ↦ ap (list_all is_starter) (decompose_hangul-three c three) ∙ and_from _ _ l (and_from _ _ v (and_from _ _ t refl))
    ]

-- a syllable whose jamo stand alone: nothing is read ahead
pub syllable : (reading : Reading) (before : List ℕ) (c : ℕ) (cs : List ℕ) → is_syllable c ≡ true → list_all (is_alone reading) (decompose Nfd c) ≡ true
    → elements_after reading before (nfd (c ∷ cs)) ≡ elements_by_char reading.tables (decompose Nfd c) ++ elements_after reading (context_after before (decompose Nfd c)) (nfd cs)
syllable reading before c cs h alone = letter_of_starters reading before c (decompose Nfd c) cs refl (syllable_starters c h) alone

-- characters below U+00C0 stand for themselves
pub low_text : (ds cs : List ℕ) → list_all (λ c. nat_lt c 0xC0) ds ≡ true → nfd (ds ++ cs) ≡ ds ++ nfd cs
low_text [] cs h = refl
low_text (d ∷ ds) cs h =
    let parts = and_parts (nat_lt d 0xC0) _ h in
    let low : d < 0xC0 = ltb-true d 0xC0 parts.0 in
    let starter : is_starter d ≡ true = class_of_latin d zero-le (omega (arith, low)) in
    nfd-starters d (d ∷ []) (ds ++ cs) (decompose-final Nfd d (is_final-Nfd d (quick_check-below Nfd d low))) (rw starter refl)
    ∙ ap (λ (l : List ℕ). d ∷ l) (low_text ds cs parts.1)
