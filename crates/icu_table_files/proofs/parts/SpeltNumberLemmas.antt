-- Numbers as bytes: lists with one more number, how long they are, and that they tell their numbers.
use Rattle.std.proofs.Common.{◌≡◌, ℕ, zero, suc, ◌+◌, ◌*◌, ◌<◌, ◌^◌, List, [], ◌∷◌, ◌++◌, length, get_or, refl, sym, ap, subst, ◌∙◌, append_assoc, append-nil, arith}
use Rattle.std.proofs.lemmas.Grind.{flat_map-append}
use Rattle.std.proofs.lemmas.List.{length-append}
use Rattle.std.proofs.lemmas.Nat.{from_be_bytes-to_be_bytes_2, from_be_bytes-to_be_bytes_4, from_be_bytes-to_be_bytes_8}
use Rattle.icu_table_files.proofs.fingerprint.WordForms.{cut}
use Rattle.std.specs.Int.{Width, w16, w32, w64, byte_len, from_be_bytes, to_be_bytes}
use Rattle.icu_table_files.specs.parts.SpeltParts.{AreBelow, bytes_of_numbers}

one_more : (w : Width) (xs : List ℕ) (x : ℕ) → bytes_of_numbers w (xs ++ x ∷ []) ≡ bytes_of_numbers w xs ++ to_be_bytes w x
one_more w xs x = flat_map-append (to_be_bytes w) xs (x ∷ []) ∙ ap (λ b. bytes_of_numbers w xs ++ b) (append-nil (to_be_bytes w x))

-- one number more is read
pub read_more : (w : Width) (xs after rest all : List ℕ) (x : ℕ) → to_be_bytes w x ++ after ≡ rest → bytes_of_numbers w xs ++ rest ≡ all → bytes_of_numbers w (xs ++ x ∷ []) ++ after ≡ all
read_more w xs after rest all x e f =
    ap (λ b. b ++ after) (one_more w xs x) ∙ (append_assoc (bytes_of_numbers w xs) (to_be_bytes w x) after ∙ (ap (λ r. bytes_of_numbers w xs ++ r) e ∙ f))

length_of_16 : (xs : List ℕ) → length (bytes_of_numbers w16 xs) ≡ 2 * length xs
length_of_16 [] = refl
length_of_16 (x ∷ xs) = omega (arith, length_of_16 xs)

length_of_32 : (xs : List ℕ) → length (bytes_of_numbers w32 xs) ≡ 4 * length xs
length_of_32 [] = refl
length_of_32 (x ∷ xs) = omega (arith, length_of_32 xs)

length_of_64 : (xs : List ℕ) → length (bytes_of_numbers w64 xs) ≡ 8 * length xs
length_of_64 [] = refl
length_of_64 (x ∷ xs) = omega (arith, length_of_64 xs)

-- a list doesn't end within a number
pub ends_whole_16 : (done xs rest all : List ℕ) → 0 < length rest → length rest < 2 → bytes_of_numbers w16 done ++ rest ≡ all → bytes_of_numbers w16 xs ≡ all → ⊥
ends_whole_16 done xs rest all some few e f = omega (arith, length_of_16 done, length_of_16 xs, length-append (bytes_of_numbers w16 done) rest, ap length e, ap length f)

pub ends_whole_32 : (done xs rest all : List ℕ) → 0 < length rest → length rest < 4 → bytes_of_numbers w32 done ++ rest ≡ all → bytes_of_numbers w32 xs ≡ all → ⊥
ends_whole_32 done xs rest all some few e f = omega (arith, length_of_32 done, length_of_32 xs, length-append (bytes_of_numbers w32 done) rest, ap length e, ap length f)

pub ends_whole_64 : (done xs rest all : List ℕ) → 0 < length rest → length rest < 8 → bytes_of_numbers w64 done ++ rest ≡ all → bytes_of_numbers w64 xs ≡ all → ⊥
ends_whole_64 done xs rest all some few e f = omega (arith, length_of_64 done, length_of_64 xs, length-append (bytes_of_numbers w64 done) rest, ap length e, ap length f)

-- a width whose bytes tell each number below a limit
pub record IsWide (w : Width) (limit : ℕ) : Type 0 where
  pub len : (n : ℕ) → length (to_be_bytes w n) ≡ byte_len w
  pub some : 0 < byte_len w
  pub again : (n : ℕ) → n < limit → from_be_bytes w (to_be_bytes w n) ≡ n

pub wide16 : IsWide w16 (2 ^ 16)
wide16 = record { len = λ n. refl; some = omega arith; again = λ n lt. from_be_bytes-to_be_bytes_2 n lt }

pub wide32 : IsWide w32 (2 ^ 32)
wide32 = record { len = λ n. refl; some = omega arith; again = λ n lt. from_be_bytes-to_be_bytes_4 n lt }

pub wide64 : IsWide w64 (2 ^ 64)
wide64 = record { len = λ n. refl; some = omega arith; again = λ n lt. from_be_bytes-to_be_bytes_8 n lt }

-- bytes of one number, with more behind them, tell it
pub number_tells : (w : Width) (limit : ℕ) → IsWide w limit → (x y : ℕ) (r s : List ℕ) → x < limit → y < limit → to_be_bytes w x ++ r ≡ to_be_bytes w y ++ s → (x ≡ y) × (r ≡ s)
number_tells w limit wide x y r s f g e =
    let h = cut (to_be_bytes w x) (to_be_bytes w y) r s (wide.len x ∙ sym (wide.len y)) e in
    (sym (wide.again x f) ∙ (ap (from_be_bytes w) h.0 ∙ wide.again y g), h.1)

pub numbers_tell : (w : Width) (limit : ℕ) → IsWide w limit → (xs ys : List ℕ) → AreBelow limit xs → AreBelow limit ys → bytes_of_numbers w xs ≡ bytes_of_numbers w ys → xs ≡ ys
numbers_tell w limit wide [] [] f g e = refl
numbers_tell w limit wide [] (y ∷ ys) f g e = absurd (omega (arith, ap length e, length-append (to_be_bytes w y) (bytes_of_numbers w ys), wide.len y, wide.some))
numbers_tell w limit wide (x ∷ xs) [] f g e = absurd (omega (arith, ap length e, length-append (to_be_bytes w x) (bytes_of_numbers w xs), wide.len x, wide.some))
numbers_tell w limit wide (x ∷ xs) (y ∷ ys) f g e =
    let h = number_tells w limit wide x y (bytes_of_numbers w xs) (bytes_of_numbers w ys) (f 0) (g 0) e in
    let more = numbers_tell w limit wide xs ys (λ i. f (suc i)) (λ i. g (suc i)) h.1 in
    λ i. h.0 i ∷ more i
