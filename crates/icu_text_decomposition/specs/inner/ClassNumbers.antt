-- The combining classes that characters have, numbered from the lowest one on.
use Rattle.std.specs.Prelude.{ℕ, ◌<◌, nat_lt, slice_index, if◌then◌else◌}
use Rattle.icu_text_decomposition.specs.declared.class_numbers.TheConstants.{NUMBERS, NEXT}

-- the number of a class, or 55 where no character has it
unfoldable pub class_number : ℕ → ℕ
class_number k = if nat_lt k 256 then slice_index NUMBERS k else 55

-- some character has the class
abbrev pub IsUsedClass : ℕ → Type 0
IsUsedClass k = class_number k < 55

-- the next class above this one that a character has, or 256 where there is none
unfoldable pub next_used_class : ℕ → ℕ
next_used_class k = slice_index NEXT k
