-- The first bytes that two words have in common, by their lanes.
use Rattle.std.proofs.Common.{◌≡◌, ◌%◌, ◌-◌, ◌≤◌, ◌+◌, ◌^◌, ◌++◌, ◌∙◌, ℕ, suc, eqb, Bool, true, false, not, cond, List, [], ◌∷◌, map, length, take, drop, refl, sym, ap, ap₂, subst, arith, take-append-drop}
use Rattle.std.proofs.lemmas.List.{take-take}
use Rattle.std.proofs.lemmas.Simd.{mask_l-mod, tops_compared, trailing_mask_l}
use Rattle.std.proofs.lemmas.List.Sums.{prefix_len-le-length}
use Rattle.std.specs.List.{prefix_len}
use Rattle.icu_text_encodings.specs.inner.ListBeginnings.{HaveBeginning}
use mir.Syntax.{w8}
use lib.Count.{count_trailing_zeros}
use lib.Lanes.{zip2, mask_l, top}

abbrev differs : ℕ → ℕ → Bool
differs x y = not (eqb x y)

not_differing : (x y : ℕ) → differs x y ≡ false → x ≡ y
not_differing x y h = grind (arith)

itself : (bs : List Bool) → map (λ b. b) bs ≡ bs
itself [] = refl
itself (b ∷ bs) = ap (λ l. b ∷ l) (itself bs)

length-zip2 : (xs ys : List ℕ) → length (zip2 differs xs ys) ≤ length xs
length-zip2 [] ys = omega arith
length-zip2 (x ∷ xs) [] = omega arith
length-zip2 (x ∷ xs) (y ∷ ys) = let h = length-zip2 xs ys in omega arith

abbrev Alike : ℕ → List ℕ → List ℕ → Type 0
Alike n xs ys = take n xs ≡ take n ys

one_more : (n : ℕ) → suc n ≡ 1 + n
one_more n = omega arith

longer_alike : (x y : ℕ) (xs ys : List ℕ) (n : ℕ) (b : Bool) → differs x y ≡ b → Alike n xs ys → Alike (cond (not b) (1 + n) 0) (x ∷ xs) (y ∷ ys)
longer_alike x y xs ys n true h e = refl
longer_alike x y xs ys n false h e = subst (λ k. Alike k (x ∷ xs) (y ∷ ys)) (one_more n) (ap₂ (λ z zs. z ∷ zs) (not_differing x y h) e)

agreeing : (xs ys : List ℕ) → length xs ≡ length ys → Alike (prefix_len (λ b. not b) (zip2 differs xs ys)) xs ys
agreeing [] [] h = refl
agreeing [] (y ∷ ys) h = absurd (omega (arith, h))
agreeing (x ∷ xs) [] h = absurd (omega (arith, h))
agreeing (x ∷ xs) (y ∷ ys) h = longer_alike x y xs ys _ (differs x y) refl (agreeing xs ys (omega (arith, h)))

module _ (xs ys : List ℕ) (lanes : List ℕ) (long : length xs ≡ 8) (other_long : length ys ≡ 8)
    (compared : lanes ≡ zip2 (λ a b. cond (differs a b) (2 ^ 8 - 1) 0) xs ys) where
  abbrev marks : List Bool
  marks = zip2 differs xs ys

  few : length marks ≤ 8
  few = let h = length-zip2 xs ys in omega (arith, h, long)

  mask : mask_l (map (top 7) lanes) % 2 ^ 64 ≡ mask_l (map (λ b. b) marks)
  mask =
      ap (λ l. mask_l (map (top 7) l) % 2 ^ 64) compared
      ∙ ap (λ l. mask_l l % 2 ^ 64) (tops_compared w8 differs xs ys ∙ sym (itself marks))
      ∙ mask_l-mod (map (λ b. b) marks) 64 (omega (arith, ap length (itself marks), few))

  found : (mask_l (map (top 7) lanes) % 2 ^ 64 ≡ 0 → ⊥) → count_trailing_zeros 64 (mask_l (map (top 7) lanes) % 2 ^ 64) ≡ prefix_len (λ b. not b) marks
  found some =
      ap (count_trailing_zeros 64) mask
      ∙ trailing_mask_l (λ b. b) 64 marks (omega (arith, few)) (grind (arith, mask, some))

  pub some_in_word : (mask_l (map (top 7) lanes) % 2 ^ 64 ≡ 0 → ⊥) → Alike (count_trailing_zeros 64 (mask_l (map (top 7) lanes) % 2 ^ 64)) xs ys
  some_in_word some = subst (λ n. Alike n xs ys) (sym (found some)) (agreeing xs ys (long ∙ sym other_long))

  pub some_bound : (mask_l (map (top 7) lanes) % 2 ^ 64 ≡ 0 → ⊥) → count_trailing_zeros 64 (mask_l (map (top 7) lanes) % 2 ^ 64) ≤ 8
  some_bound some = let h = prefix_len-le-length (λ b. not b) marks in omega (arith, found some, h, few)

-- the common beginning of two lists goes on with that of their first words
pub word_head : (n : ℕ) (xs ys word other xs_rest ys_rest : List ℕ) → word ≡ take 8 xs → other ≡ take 8 ys → n ≤ 8 → take n word ≡ take n other
    → xs_rest ≡ drop n xs → ys_rest ≡ drop n ys → HaveBeginning xs ys xs_rest ys_rest
word_head n xs ys word other xs_rest ys_rest is other_is le same rest other_rest =
    let one : take n word ≡ take n xs = ap (take n) is ∙ take-take n 8 xs le in
    let two : take n other ≡ take n ys = ap (take n) other_is ∙ take-take n 8 ys le in (
      take n xs,
      sym (take-append-drop n xs) ∙ ap (λ l. take n xs ++ l) (sym rest),
      sym (take-append-drop n ys) ∙ ap (λ l. take n ys ++ l) (sym other_rest) ∙ ap (λ l. l ++ ys_rest) (sym two ∙ sym same ∙ one),
    )
