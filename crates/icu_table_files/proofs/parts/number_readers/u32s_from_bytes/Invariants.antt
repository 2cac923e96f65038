use Rattle.std.proofs.Common.{◌≡◌, ◌++◌, length}
use Rattle.std.specs.Int.{w32}
use Rattle.icu_table_files.specs.parts.SpeltParts.{bytes_of_numbers}
use Rattle.icu_table_files.proofs.parts.number_readers.u32s_from_bytes.Given as goal

abbrev pub invariant-reading : goal.invariant-reading
invariant-reading l = bytes_of_numbers w32 l.numbers.items ++ l.rest ≡ l.bytes

abbrev pub decreases-reading : goal.decreases-reading
decreases-reading l = length l.rest
