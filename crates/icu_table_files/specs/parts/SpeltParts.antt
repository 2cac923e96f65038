-- Lists of numbers as bytes, and parts behind their lengths.
use Rattle.std.specs.Prelude.{ℕ, ◌<◌, List, ◌++◌, length, slice_index}
use Rattle.std.specs.Char.{IsScalar}
use Rattle.std.specs.Int.{Width, w64, to_be_bytes}
use Rattle.std.specs.List.{AllByRecursion, flat_map}

-- numbers of one width, the highest byte of each first
abbrev pub bytes_of_numbers : Width → List ℕ → List ℕ
bytes_of_numbers w xs = flat_map (to_be_bytes w) xs

-- a part behind the number of its bytes, which takes eight bytes
abbrev pub bytes_of_part : List ℕ → List ℕ
bytes_of_part part = to_be_bytes w64 (length part) ++ part

-- parts one after another
abbrev pub bytes_of_parts : List (List ℕ) → List ℕ
bytes_of_parts parts = flat_map bytes_of_part parts

-- each number of a list is below a limit
abbrev pub AreBelow : ℕ → List ℕ → Type 0
AreBelow limit xs = (i : ℕ) → slice_index xs i < limit

-- each number of a list is that of a character
abbrev pub AreChars : List ℕ → Type 0
AreChars xs = AllByRecursion IsScalar xs
