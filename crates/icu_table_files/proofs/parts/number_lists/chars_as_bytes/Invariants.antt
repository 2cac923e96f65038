use Rattle.std.proofs.Common.{◌≡◌, ℕ, ◌<◌, get_or, take}
use Rattle.std.specs.Char.{IsScalar}
use Rattle.std.specs.Int.{w32}
use Rattle.icu_table_files.specs.parts.SpeltParts.{bytes_of_numbers}
use Rattle.icu_table_files.proofs.parts.number_lists.chars_as_bytes.Given as goal

abbrev pub invariant-loop-c : goal.invariant-loop-c
invariant-loop-c l = record { written : l.bytes.items ≡ bytes_of_numbers w32 (take l.c-index l.chars); scalars : (k : ℕ) → k < l.c-index → IsScalar (get_or l.chars k 0) }
