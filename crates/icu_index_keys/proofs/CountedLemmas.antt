-- Bytes with their count before them, and what stands behind them.
use Rattle.std.proofs.Common.{◌≡◌, ℕ, zero, suc, ◌+◌, ◌-◌, ◌*◌, ◌^◌, ◌<◌, ◌≤◌, Bool, true, false, List, [], ◌∷◌, ◌++◌, drop, length, length-append, nat_eq, nat_lt, take, if◌then◌else◌, refl, sym, ap, ◌∙◌, arith, append_assoc}
use Rattle.std.proofs.Math.Seq.{drop-append_seam, take-append_seam}
use Rattle.std.proofs.lemmas.Bool.Decides.{nat_tests}
use Rattle.std.proofs.lemmas.List.{drop-append-le, length-drop, take-append-le}
use Rattle.std.proofs.lemmas.Nat.{from_be_bytes-to_be_bytes_8}
use Rattle.std.specs.Int.{from_be_bytes, to_be_bytes, w64}
use Rattle.icu_index_keys.proofs.KeyPrefixLemmas.{prefix_is}
use Rattle.icu_index_keys.specs.inner.NameEntries.{IsCounted, behind_count, behind_counted, count_of, count_size, with_count, first_counted, gathered, prefix_of, written_count}

-- ---- the first eight bytes of more

gathered_more : (n v : ℕ) (xs more : List ℕ) → n ≤ length xs → gathered n v (xs ++ more) ≡ gathered n v xs
gathered_more zero v xs more h = refl
gathered_more (suc n) v [] more h = absurd (omega arith)
gathered_more (suc n) v (x ∷ xs) more h = gathered_more n (v * 256 + x) xs more (omega arith)

prefix_more : (xs more : List ℕ) → 8 ≤ length xs → prefix_of (xs ++ more) ≡ prefix_of xs
unfolding prefix_of
prefix_more xs more h = gathered_more 8 0 xs more h

-- ---- bytes that grow

pub size_some : (xs : List ℕ) → 1 ≤ count_size xs
size_some [] = omega arith
size_some (b ∷ bs) = at (nat_eq b 255) where
  at : (t : Bool) → 1 ≤ (if t then 9 else 1)
  at true = omega arith
  at false = omega arith

size_more : (xs more : List ℕ) → count_size xs ≤ length xs → count_size (xs ++ more) ≡ count_size xs
size_more [] more h = absurd (omega arith)
size_more (b ∷ bs) more h = refl

count_more : (xs more : List ℕ) → count_size xs ≤ length xs → count_of (xs ++ more) ≡ count_of xs
count_more [] more h = absurd (omega arith)
count_more (b ∷ bs) more h = at (nat_eq b 255) h where
  at : (t : Bool) → (if t then 9 else 1) ≤ suc (length bs) → (if t then prefix_of (bs ++ more) else b) ≡ (if t then prefix_of bs else b)
  at true h = prefix_more bs more (omega arith)
  at false h = refl

behind_more : (xs more : List ℕ) → count_size xs ≤ length xs → behind_count (xs ++ more) ≡ behind_count xs ++ more
behind_more [] more h = absurd (omega arith)
behind_more (b ∷ bs) more h = at (nat_eq b 255) h where
  at : (t : Bool) → (if t then 9 else 1) ≤ suc (length bs) → (if t then drop 8 (bs ++ more) else bs ++ more) ≡ (if t then drop 8 bs else bs) ++ more
  at true h = drop-append-le 8 bs more (omega arith)
  at false h = refl

behind_length : (xs : List ℕ) → count_size xs ≤ length xs → count_size xs + length (behind_count xs) ≡ length xs
behind_length [] h = absurd (omega arith)
behind_length (b ∷ bs) h = at (nat_eq b 255) h where
  at : (t : Bool) → (if t then 9 else 1) ≤ suc (length bs) → (if t then 9 else 1) + length (if t then drop 8 bs else bs) ≡ suc (length bs)
  at true h = omega (arith, length-drop 8 bs)
  at false h = omega arith

module _ (less : ℕ) (xs more : List ℕ) (is : IsCounted less xs) where
  size : count_size xs ≤ length xs
  size = omega (arith, is)

  within : count_of xs - less ≤ length (behind_count xs)
  within = omega (arith, is, behind_length xs size)

  pub all_more : count_of (xs ++ more) ≡ count_of xs
  all_more = count_more xs more size

  pub first_more : first_counted less (xs ++ more) ≡ first_counted less xs
  first_more =
      ap (λ n. take (n - less) (behind_count (xs ++ more))) (count_more xs more size)
      ∙ (ap (take (count_of xs - less)) (behind_more xs more size) ∙ take-append-le (count_of xs - less) (behind_count xs) more within)

  pub rest_more : behind_counted less (xs ++ more) ≡ behind_counted less xs ++ more
  rest_more =
      ap (λ n. drop (n - less) (behind_count (xs ++ more))) (count_more xs more size)
      ∙ (ap (drop (count_of xs - less)) (behind_more xs more size) ∙ drop-append-le (count_of xs - less) (behind_count xs) more within)

  pub counted_more : IsCounted less (xs ++ more)
  counted_more = omega (arith, is, size_more xs more size, count_more xs more size, length-append xs more)

-- ---- bytes with their count

eight : (ds : List ℕ) → length ds ≡ 8 → from_be_bytes w64 ds ≡ prefix_of ds
eight (a ∷ b ∷ c ∷ d ∷ e ∷ f ∷ g ∷ h ∷ []) l = prefix_is (a ∷ b ∷ c ∷ d ∷ e ∷ f ∷ g ∷ h ∷ [])
eight (a ∷ b ∷ c ∷ d ∷ e ∷ f ∷ g ∷ h ∷ i ∷ rest) l = absurd (omega arith)
eight (a ∷ b ∷ c ∷ d ∷ e ∷ f ∷ g ∷ []) l = absurd (omega arith)
eight (a ∷ b ∷ c ∷ d ∷ e ∷ f ∷ []) l = absurd (omega arith)
eight (a ∷ b ∷ c ∷ d ∷ e ∷ []) l = absurd (omega arith)
eight (a ∷ b ∷ c ∷ d ∷ []) l = absurd (omega arith)
eight (a ∷ b ∷ c ∷ []) l = absurd (omega arith)
eight (a ∷ b ∷ []) l = absurd (omega arith)
eight (a ∷ []) l = absurd (omega arith)
eight [] l = absurd (omega arith)

be_length : (n : ℕ) → length (to_be_bytes w64 n) ≡ 8
be_length n = refl

wide_is : (n : ℕ) (more : List ℕ) → n < 2 ^ 64 → prefix_of (to_be_bytes w64 n ++ more) ≡ n
wide_is n more h =
    prefix_more (to_be_bytes w64 n) more (omega (arith, be_length n))
    ∙ (sym (eight (to_be_bytes w64 n) (be_length n)) ∙ from_be_bytes-to_be_bytes_8 n h)

below : (n : ℕ) → nat_lt n 255 ≡ true → nat_eq n 255 ≡ false
below n h = grind (arith, nat_tests)

module _ (n : ℕ) (small : n < 2 ^ 64) (more : List ℕ) where
  written_is : count_of (written_count n ++ more) ≡ n
  written_is = at (nat_lt n 255) refl where
    at : (t : Bool) → nat_lt n 255 ≡ t → count_of ((if t then n ∷ [] else 255 ∷ to_be_bytes w64 n) ++ more) ≡ n
    at true e = rw (below n e) refl
    at false e = wide_is n more small

  written_size : count_size (written_count n ++ more) + length more ≡ length (written_count n ++ more)
  written_size = at (nat_lt n 255) refl where
    at : (t : Bool) → nat_lt n 255 ≡ t → count_size ((if t then n ∷ [] else 255 ∷ to_be_bytes w64 n) ++ more) + length more ≡ length ((if t then n ∷ [] else 255 ∷ to_be_bytes w64 n) ++ more)
    at true e = rw (below n e) (omega arith)
    at false e = omega (arith, length-append (to_be_bytes w64 n) more, be_length n)

  written_rest : behind_count (written_count n ++ more) ≡ more
  written_rest = at (nat_lt n 255) refl where
    at : (t : Bool) → nat_lt n 255 ≡ t → behind_count ((if t then n ∷ [] else 255 ∷ to_be_bytes w64 n) ++ more) ≡ more
    at true e = rw (below n e) refl
    at false e = ap (λ k. drop k (to_be_bytes w64 n ++ more)) (sym (be_length n)) ∙ drop-append_seam (to_be_bytes w64 n) more

module _ (less : ℕ) (xs : List ℕ) (small : length xs < 2 ^ 64) (more : List ℕ) where
  abbrev here : List ℕ
  here = drop less xs ++ more

  apart : with_count less xs ++ more ≡ written_count (length xs) ++ here
  apart = append_assoc (written_count (length xs)) (drop less xs) more

  pub all_is : count_of (with_count less xs ++ more) ≡ length xs
  all_is = ap count_of apart ∙ written_is (length xs) small here

  left_is : count_of (with_count less xs ++ more) - less ≡ length (drop less xs)
  left_is = ap (λ n. n - less) all_is ∙ sym (length-drop less xs)

  behind_is : behind_count (with_count less xs ++ more) ≡ here
  behind_is = ap behind_count apart ∙ written_rest (length xs) small here

  pub first_is : first_counted less (with_count less xs ++ more) ≡ drop less xs
  first_is =
      ap (λ n. take n (behind_count (with_count less xs ++ more))) left_is
      ∙ (ap (take (length (drop less xs))) behind_is ∙ take-append_seam (drop less xs) more)

  pub rest_is : behind_counted less (with_count less xs ++ more) ≡ more
  rest_is =
      ap (λ n. drop n (behind_count (with_count less xs ++ more))) left_is
      ∙ (ap (drop (length (drop less xs))) behind_is ∙ drop-append_seam (drop less xs) more)

  pub counted_there : IsCounted less (with_count less xs ++ more)
  counted_there =
      omega (arith, ap count_size apart, left_is, ap length apart, written_size (length xs) small here, length-append (drop less xs) more)
