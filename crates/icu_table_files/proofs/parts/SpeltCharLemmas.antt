-- Numbers of characters are numbers of 32 bits, so bytes tell them.
use Rattle.std.proofs.Common.{◌≡◌, ℕ, zero, suc, ◌<◌, ◌^◌, List, [], ◌∷◌, Result, Ok, Err, sym, subst, ◌∙◌, inl, inr, arith}
use Rattle.std.proofs.Math.Utf8.{scalar_cases}
use Rattle.std.specs.Prelude.{IfErr}
use Rattle.std.specs.Char.{IsScalar}
use Rattle.std.specs.Global.{Vec}
use Rattle.std.specs.Int.{w32}
use Rattle.icu_table_files.specs.parts.SpeltParts.{AreBelow, AreChars, bytes_of_numbers}
use Rattle.icu_table_files.specs.parts.Refusals.{RefusesSpelling}
use Rattle.icu_table_files.specs.declared.parts.form_error.FormError.{FormError}
use Rattle.icu_table_files.specs.declared.parts.form_error.FormError.TheVariants.{NoMemory}
use Rattle.icu_table_files.proofs.parts.SpeltNumberLemmas.{numbers_tell, wide32}

char_below : (c : ℕ) → IsScalar c → c < 2 ^ 32
char_below c h = elim (scalar_cases c h) [ inl low ↦ omega arith | inr high ↦ omega (arith, high.1) ]

pub chars_below : (xs : List ℕ) → AreChars xs → AreBelow (2 ^ 32) xs
chars_below [] h i = omega arith
chars_below (x ∷ xs) h zero = char_below x h.0
chars_below (x ∷ xs) h (suc i) = chars_below xs h.1 i

pub refused_numbers : (r : Result (Vec ℕ) FormError) (xs ys : List ℕ) → xs ≡ ys → IfErr r (λ e. AreChars xs → e ≡ NoMemory) → IfErr r (λ e. AreChars ys → e ≡ NoMemory)
refused_numbers r xs ys e h = subst (λ zs. IfErr r (λ e. AreChars zs → e ≡ NoMemory)) e h

pub refused_chars : (r : Result (Vec ℕ) FormError) (xs bytes : List ℕ) → bytes_of_numbers w32 xs ≡ bytes → AreBelow (2 ^ 32) xs → IfErr r (λ e. AreChars xs → e ≡ NoMemory) → IfErr r (RefusesSpelling (bytes_of_numbers w32) AreChars bytes)
refused_chars (Ok v) xs bytes e f h = tt
refused_chars (Err d) xs bytes e f h =
    λ ys g is. h (subst AreChars (numbers_tell w32 (2 ^ 32) wide32 ys xs (chars_below ys g) f (is ∙ sym e)) g)
