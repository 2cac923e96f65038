-- What bytes say is one thing, as a contract names it.
use Rattle.std.specs.Prelude.{◌≡◌, ℕ, ◌<◌, ◌^◌, List, length}
use Rattle.std.specs.Int.{w16, w32, w64}
use Rattle.icu_table_files.specs.parts.SpeltParts.{AreBelow, bytes_of_numbers, bytes_of_parts}

-- lists of parts that make the same bytes are one, where the bytes fit in memory
abbrev pub PartsAreOne : Type 0
PartsAreOne = (xs ys : List (List ℕ)) → length (bytes_of_parts xs) < 2 ^ 64 → bytes_of_parts xs ≡ bytes_of_parts ys → xs ≡ ys

-- lists of numbers that make the same bytes are one
pub record NumbersAreOne : Type 0 where
  pub of_16_bits : (xs ys : List ℕ) → AreBelow (2 ^ 16) xs → AreBelow (2 ^ 16) ys → bytes_of_numbers w16 xs ≡ bytes_of_numbers w16 ys → xs ≡ ys
  pub of_32_bits : (xs ys : List ℕ) → AreBelow (2 ^ 32) xs → AreBelow (2 ^ 32) ys → bytes_of_numbers w32 xs ≡ bytes_of_numbers w32 ys → xs ≡ ys
  pub of_64_bits : (xs ys : List ℕ) → AreBelow (2 ^ 64) xs → AreBelow (2 ^ 64) ys → bytes_of_numbers w64 xs ≡ bytes_of_numbers w64 ys → xs ≡ ys
