-- A decomposed text has scalar values alone, and none of the four marks that decompose to others.
use Rattle.std.proofs.Common.{◌≡◌, ℕ, ◌+◌, ◌-◌, ◌/◌, ◌%◌, ◌<◌, ◌≤◌, Bool, true, false, not, ◌&&◌, ◌==◌, List, [], ◌∷◌, flat_map, refl, sym, ap, ◌∙◌, inl, inr, arith, ne_eqb}
use Rattle.std.proofs.lemmas.Bool.{cases_Bool, cases_eq, and_parts, and_from}
use Rattle.std.proofs.lemmas.List.Folds.{list_all-append}
use Rattle.std.proofs.lemmas.Bool.Decides.{nat_tests}
use Rattle.std.specs.Char.{IsScalar}
use Rattle.std.proofs.Math.Utf8.{scalar, low_scalar}
use Rattle.std.specs.List.{AllByRecursion, list_all}
use Rattle.ucd_table.proofs.Facts.{tree_value, tree_of, tree_value-tree_of}
use Rattle.ucd_table.proofs.RangedFacts.{points_ok, Stepped-at_points}
use Rattle.ucd_table.proofs.Computing.{tables}
use Rattle.ucd_normal.specs.declared.forms.Form.TheVariants.{Nfd}
use Rattle.ucd_normal.specs.Decomposition.{decomposition, or_itself, expand}
use Rattle.ucd_normal.proofs.DecompositionLemmas.{decomposition_stepped}
use Rattle.ucd_normal.proofs.CompositionLemmas.{is_empty}
use Rattle.ucd_normal.proofs.Computing.{ucd_normal}
use Rattle.unicode_normalization.specs.Decompose.{decompose}
use Rattle.unicode_normalization.specs.Forms.{decomposed, normalize, nfd}
use Rattle.unicode_normalization.specs.Hangul.{is_syllable, decompose_hangul}
use Rattle.unicode_normalization.proofs.TableFacts.{Entry, pick, full, by_rows}
use Rattle.unicode_normalization.proofs.DecomposeLemmas.{decompose-syllable, decompose-other, decompose-mapped, is_empty-full, is_empty-true}
use Rattle.unicode_normalization.proofs.HangulLemmas.{is_syllable-true, decompose_hangul-two, decompose_hangul-three}
use Rattle.unicode_normalization.proofs.OrderLemmas.{list_all-canonical_order}
use Rattle.icu_element_reading.specs.TextParts.{is_replaced, IsDecomposed, IsDecomposedText}

abbrev is_text : ℕ → Bool
is_text c = scalar c && not (is_replaced c)

abbrev parts_by : (ℕ → Entry) → ℕ → List ℕ
parts_by entries = expand (λ y. pick Nfd (entries y)) 3

by_tree : ℕ → Entry
unfolding tables decomposition_stepped points_ok
by_tree = tree_value decomposition_stepped.default (tree_of decomposition decomposition_stepped)

same_table : decomposition ≡ by_tree
unfolding by_tree
same_table = tree_value-tree_of decomposition decomposition_stepped

abbrev gives_text : (ℕ → Entry) → ℕ → Entry → Bool
gives_text entries c entry = list_all is_text (parts_by entries c)

mapped_text : (c : ℕ) → is_empty (pick Nfd (decomposition c)) ≡ false → list_all is_text (full by_rows Nfd c) ≡ true
unfolding by_tree expand tables points_ok decomposition_stepped
mapped_text c some =
    ap (λ t. gives_text t c (decomposition c)) same_table
    ∙ Stepped-at_points decomposition decomposition_stepped (λ e. is_empty (pick Nfd e)) (gives_text by_tree) refl c some

low_text : (c : ℕ) → 0x1100 ≤ c → c < 0xD800 → is_text c ≡ true
low_text c low high = and_from _ _ (low_scalar c high) (grind (arith, nat_tests))

hangul_text : (c : ℕ) → is_syllable c ≡ true → list_all is_text (decompose_hangul c) ≡ true
hangul_text c h =
    let range = is_syllable-true c h in
    let l = low_text (0x1100 + (c - 0xAC00) / 588) (omega arith) (omega arith) in
    let v = low_text (0x1161 + (c - 0xAC00) % 588 / 28) (omega arith) (omega arith) in
    let t = low_text (0x11A7 + (c - 0xAC00) % 28) (omega arith) (omega arith) in
    elim (cases_eq ((c - 0xAC00) % 28) 0) [
      | inl two ↦ ap (list_all is_text) (decompose_hangul-two c two) ∙ and_from _ _ l (and_from _ _ v refl)
      | inr three ↦ ap (list_all is_text) (decompose_hangul-three c three) ∙ and_from _ _ l (and_from _ _ v (and_from _ _ t refl))
    ]

-- the four marks have mappings
abbrev is_unmapped : ℕ → Bool
is_unmapped c = is_empty (pick Nfd (decomposition c))

mapped_340 : is_unmapped 0x340 ≡ false
unfolding ucd_normal
mapped_340 = refl

mapped_341 : is_unmapped 0x341 ≡ false
unfolding ucd_normal
mapped_341 = refl

mapped_343 : is_unmapped 0x343 ≡ false
unfolding ucd_normal
mapped_343 = refl

mapped_344 : is_unmapped 0x344 ≡ false
unfolding ucd_normal
mapped_344 = refl

clash : (c n : ℕ) → is_unmapped c ≡ true → is_unmapped n ≡ false → (c == n) ≡ false
clash c n unmapped mapped =
    elim (cases_eq c n) [
      | inl same ↦ let both : true ≡ false = sym unmapped ∙ ap is_unmapped same ∙ mapped in cc
      | inr differ ↦ ne_eqb c n differ
    ]

unmapped_text : (c : ℕ) → IsScalar c → is_unmapped c ≡ true → is_text c ≡ true
unmapped_text c s u =
    and_from _ _ s (rw (clash c 0x340 u mapped_340, clash c 0x341 u mapped_341, clash c 0x343 u mapped_343, clash c 0x344 u mapped_344) refl)

decompose_text : (c : ℕ) → IsScalar c → list_all is_text (decompose Nfd c) ≡ true
decompose_text c s =
    elim (cases_Bool (is_syllable c)) [
      | inl syllable ↦ ap (list_all is_text) (decompose-syllable Nfd c syllable) ∙ hangul_text c syllable
      | inr other ↦
          elim (cases_Bool (is_unmapped c)) [
            | inl none ↦
                ap (list_all is_text) (decompose-other Nfd c other ∙ ap (or_itself c) (is_empty-true (full by_rows Nfd c) (is_empty-full Nfd c ∙ none)))
                ∙ and_from _ _ (unmapped_text c s none) refl
            | inr some ↦ ap (list_all is_text) (decompose-mapped Nfd c other some) ∙ mapped_text c some
          ]
    ]

each_text : (cs : List ℕ) → AllByRecursion IsScalar cs → list_all is_text (flat_map (decompose Nfd) cs) ≡ true
each_text [] all = refl
each_text (c ∷ cs) all =
    list_all-append is_text (decompose Nfd c) (flat_map (decompose Nfd) cs) ∙ and_from _ _ (decompose_text c all.0) (each_text cs all.1)

decomposed_from : (cs : List ℕ) → list_all is_text cs ≡ true → AllByRecursion IsDecomposed cs
decomposed_from [] h = tt
decomposed_from (c ∷ cs) h =
    let parts = and_parts (is_text c) (list_all is_text cs) h in
    let one = and_parts _ _ parts.0 in (record { scalar = one.0; kept = one.1 }, decomposed_from cs parts.1)

-- what canonical decomposition gives
pub IsDecomposedText-nfd : (cs : List ℕ) → AllByRecursion IsScalar cs → IsDecomposedText (nfd cs)
unfolding normalize decomposed
IsDecomposedText-nfd cs all = decomposed_from (nfd cs) (list_all-canonical_order is_text _ (each_text cs all))
