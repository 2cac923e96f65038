use Rattle.std.proofs.Common.{◌≡◌, ℕ, ◌<◌, get_or, take}
use Rattle.std.specs.Char.{IsScalar}
use Rattle.icu_table_files.proofs.parts.number_readers.chars_of_numbers.Given as goal

abbrev pub invariant-loop-x : goal.invariant-loop-x
invariant-loop-x l = record { same : l.chars.items ≡ take l.x-index l.numbers; scalars : (k : ℕ) → k < l.x-index → IsScalar (get_or l.numbers k 0) }
