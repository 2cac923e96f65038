-- Bytes and parts that spell nothing.
use Rattle.std.proofs.Common.{◌≡◌, ℕ, ◌<◌, ◌≤◌, ◌^◌, List, [], ◌∷◌, length, get_or, map, Result, Ok, Err, refl, sym, ap, ◌∙◌, arith}
use Rattle.std.proofs.lemmas.List.{length-map}
use Rattle.std.specs.Prelude.{IfErr, IfOk}
use Rattle.std.specs.Int.{w32}
use Rattle.std.specs.List.{flat_map}
use Rattle.icu_table_files.specs.parts.SpeltParts.{AreBelow, bytes_of_numbers, bytes_of_parts}
use Rattle.icu_table_files.specs.parts.Refusals.{RefusesSpelling}
use Rattle.icu_table_files.specs.declared.parts.form_error.FormError.{FormError}
use Rattle.icu_table_files.proofs.parts.SpeltNumberLemmas.{numbers_tell, wide32}
use Rattle.icu_table_files.proofs.parts.SpeltPartLemmas.{parts_tell}
use Rattle.icu_table_files.specs.inner.Lists.{RefusesNumbers, RefusesPartsOf}

-- what is refused by its parts is refused by its bytes
pub refused_parts : {A X : Type 0} (r : Result A FormError) (parts_of : X → List (List ℕ)) (Fits : X → Type 0) (parts : List (List ℕ)) (bytes : List ℕ) → length bytes < 2 ^ 64
    → bytes_of_parts parts ≡ bytes → IfErr r (RefusesPartsOf parts_of Fits parts) → IfErr r (RefusesSpelling (λ x. bytes_of_parts (parts_of x)) Fits bytes)
refused_parts (Ok v) parts_of Fits parts bytes small e h = tt
refused_parts (Err d) parts_of Fits parts bytes small e h =
    λ x fits is. h x fits (parts_tell (parts_of x) parts (omega (arith, small, ap length is)) (is ∙ sym e))

-- so many parts are not those of other bytes
pub other_count : {X : Type 0} (xs : List X) (f : X → List ℕ) (parts : List (List ℕ)) (bytes : List ℕ) (n : ℕ) → length bytes < 2 ^ 64 → bytes_of_parts (map f xs) ≡ bytes
    → (length xs ≡ n → ⊥) → length parts ≡ n → bytes_of_parts parts ≡ bytes → ⊥
other_count xs f parts bytes n small e other count is =
    let same = parts_tell parts (map f xs) (omega (arith, small, ap length is)) (is ∙ sym e) in
    other (sym (length-map xs f) ∙ (sym (ap length same) ∙ count))

-- what is refused by its numbers is refused by its bytes
pub refused_numbers : {A X : Type 0} (r : Result A FormError) (words : X → List ℕ) (xs numbers bytes : List ℕ) → bytes_of_numbers w32 numbers ≡ bytes → AreBelow (2 ^ 32) numbers → xs ≡ numbers
    → IfErr r (RefusesNumbers words xs) → IfErr r (RefusesSpelling (λ ys. bytes_of_numbers w32 (flat_map words ys)) (λ ys. AreBelow (2 ^ 32) (flat_map words ys)) bytes)
refused_numbers (Ok v) words xs numbers bytes e below same h = tt
refused_numbers (Err d) words xs numbers bytes e below same h =
    λ ys fits is. h ys (numbers_tell w32 (2 ^ 32) wide32 (flat_map words ys) numbers fits below (is ∙ sym e) ∙ sym same)

-- seven members
pub seven : {X : Type 0} (xs : List X) (d : X) (f : X → List ℕ) → 7 ≤ length xs → length xs < 8
    → map f xs ≡ f (get_or xs 0 d) ∷ f (get_or xs 1 d) ∷ f (get_or xs 2 d) ∷ f (get_or xs 3 d) ∷ f (get_or xs 4 d) ∷ f (get_or xs 5 d) ∷ f (get_or xs 6 d) ∷ []
seven (a ∷ b ∷ c ∷ e ∷ g ∷ h ∷ k ∷ []) d f lo hi = refl
seven xs d f lo hi = absurd (omega (arith, lo, hi))

-- ten members
pub ten : {X : Type 0} (xs : List X) (d : X) (f : X → List ℕ) → 10 ≤ length xs → length xs < 11
    → map f xs ≡ f (get_or xs 0 d) ∷ f (get_or xs 1 d) ∷ f (get_or xs 2 d) ∷ f (get_or xs 3 d) ∷ f (get_or xs 4 d) ∷ f (get_or xs 5 d) ∷ f (get_or xs 6 d)
    ∷ f (get_or xs 7 d) ∷ f (get_or xs 8 d) ∷ f (get_or xs 9 d) ∷ []
ten (a ∷ b ∷ c ∷ e ∷ g ∷ h ∷ k ∷ l ∷ m ∷ n ∷ []) d f lo hi = refl
ten xs d f lo hi = absurd (omega (arith, lo, hi))

-- what is spelt by its parts is spelt by its bytes
pub spelt_parts : {A X : Type 0} (r : Result A FormError) (view : A → X) (parts_of : X → List (List ℕ)) (parts : List (List ℕ)) (bytes : List ℕ) → bytes_of_parts parts ≡ bytes
    → IfOk r (λ v. parts_of (view v) ≡ parts) → IfOk r (λ v. bytes_of_parts (parts_of (view v)) ≡ bytes)
spelt_parts (Ok v) view parts_of parts bytes e h = ap bytes_of_parts h ∙ e
spelt_parts (Err d) view parts_of parts bytes e h = tt
