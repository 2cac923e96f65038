-- How many members the lists of a text have.
use Rattle.std.proofs.Common.{◌≡◌, ◌≢◌, ℕ, suc, ◌+◌, Bool, true, false, ◌==◌, List, [], ◌∷◌, length, map, reverse, ap₂, if◌then◌else◌, refl, sym, ap, ◌∙◌, arith}
use Rattle.std.proofs.lemmas.List.{length-map, length-reverse}
use Rattle.std.proofs.lemmas.Bool.{eqb-true}
use Rattle.std.specs.List.{AllByRecursion}
use Rattle.icu_table_entries.specs.Elements.{Element}
use Rattle.icu_table_entries.specs.ElementConditions.{separator_primary, tertiary_of}
use Rattle.icu_order_texts.specs.weighting.Handled.{HandledElement, stayed, shifted_primary, stayed_elements}
use Rattle.icu_order_texts.specs.weighting.Levels.{weights, secondary_of, parted, segments, quaternary_weight, quaternaries}
use Rattle.icu_order_texts.proofs.HandledLemmas.{by_test, HoldsOf}

-- two ifs on one test
both_ifs : {X Y : Type 0} (R : X → Y → Type 0) (b : Bool) (x x' : X) (y y' : Y) → (b ≡ true → R x y) → (b ≡ false → R x' y') → R (if b then x else x') (if b then y else y')
both_ifs R true x x' y y' f g = f refl
both_ifs R false x x' y y' f g = g refl

abbrev AsMany : List ℕ → List ℕ → Type 0
AsMany xs ys = length xs ≡ length ys

one_more : (x y : ℕ) (xs ys : List ℕ) → AsMany xs ys → AsMany (x ∷ xs) (y ∷ ys)
one_more x y xs ys e = ap suc e

-- a level has as many weights whatever it has for each
pub as_many : (reads f g : Element → ℕ) (es : List Element) → length (weights reads f es) ≡ length (weights reads g es)
unfolding weights
as_many reads f g [] = refl
as_many reads f g (x ∷ xs) =
    both_ifs AsMany (reads x == 0) _ _ _ _ (λ _. as_many reads f g xs) (λ _. one_more (f x) (g x) _ _ (as_many reads f g xs))

-- two levels that read something of the same elements
abbrev pub ReadAlike : (Element → ℕ) → (Element → ℕ) → Element → Type 0
ReadAlike f g x = (f x == 0) ≡ (g x == 0)

pub alike_many : (f g has : Element → ℕ) (es : List Element) → AllByRecursion (ReadAlike f g) es → length (weights f has es) ≡ length (weights g has es)
unfolding weights
alike_many f g has [] h = refl
alike_many f g has (x ∷ xs) h =
    rw h.0 (both_ifs AsMany (g x == 0) _ _ _ _ (λ _. alike_many f g has xs h.1) (λ _. one_more (has x) (has x) _ _ (alike_many f g has xs h.1)))

-- ---- segments

abbrev pub total : List (List ℕ) → ℕ
total [] = 0
total (xs ∷ xss) = length xs + total xss

-- a merge separator has a secondary
abbrev pub PartsWithSecondary : Element → Type 0
PartsWithSecondary x = x.primary ≡ separator_primary → secondary_of x ≢ 0

abbrev CountsWith : List ℕ → List ℕ × List (List ℕ) → Type 0
CountsWith ws p = suc (length ws) ≡ total (p.0 ∷ p.1) + length (p.0 ∷ p.1)

-- each element with a secondary stands in a segment, or parts two
parts_count : (has : Element → ℕ) (es : List Element) → AllByRecursion PartsWithSecondary es → CountsWith (weights secondary_of has es) (parted es)
unfolding weights parted
parts_count has [] h = omega arith
parts_count has (x ∷ xs) h =
    let more : CountsWith (weights secondary_of has xs) (parted xs) = parts_count has xs h.1 in
    by_test (CountsWith (if secondary_of x == 0 then weights secondary_of has xs else has x ∷ weights secondary_of has xs))
    (x.primary == separator_primary) _ _
    (λ s. by_test (λ (ws : List ℕ). CountsWith ws ([], (parted xs).0 ∷ (parted xs).1)) (secondary_of x == 0) _ _
    (λ z. absurd (h.0 (eqb-true x.primary separator_primary s) (eqb-true (secondary_of x) 0 z)))
    (λ _. omega (arith, more)))
    (λ _. both_ifs CountsWith (x.secondary == 0) _ _ _ _ (λ _. more) (λ _. omega (arith, more)))

total_reversed : (xss : List (List ℕ)) → total (map reverse xss) ≡ total xss
total_reversed [] = refl
total_reversed (xs ∷ xss) = ap₂ (λ (a b : ℕ). a + b) (length-reverse xs) (total_reversed xss)

pub segments_count : (has : Element → ℕ) (es : List Element) → AllByRecursion PartsWithSecondary es
    → suc (length (weights secondary_of has es)) ≡ total (segments es) + length (segments es)
segments_count has es h =
    let p = parted es in
    parts_count has es h ∙ ap₂ (λ (a b : ℕ). a + b) (sym (total_reversed (p.0 ∷ p.1))) (sym (length-map (p.0 ∷ p.1) reverse))

-- ---- quaternaries

pub quaternaries_many : (P : Element → Type 0) (reorder : ℕ → ℕ) (has : Element → ℕ) (hs : List HandledElement) → AllByRecursion (HoldsOf P (λ p. ⊥)) hs
    → length (quaternaries reorder hs) ≡ length (weights tertiary_of has (stayed_elements hs))
unfolding weights quaternaries
quaternaries_many P reorder has [] h = refl
quaternaries_many P reorder has (stayed x ∷ hs) h =
    both_ifs AsMany (tertiary_of x == 0) _ _ _ _ (λ _. quaternaries_many P reorder has hs h.1) (λ _. one_more (quaternary_weight x) (has x) _ _ (quaternaries_many P reorder has hs h.1))
quaternaries_many P reorder has (shifted_primary p ∷ hs) h = absurd h.0
