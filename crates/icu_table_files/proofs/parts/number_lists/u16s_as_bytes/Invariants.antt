use Rattle.std.proofs.Common.{◌≡◌, take}
use Rattle.std.specs.Int.{w16}
use Rattle.icu_table_files.specs.parts.SpeltParts.{bytes_of_numbers}
use Rattle.icu_table_files.proofs.parts.number_lists.u16s_as_bytes.Given as goal

abbrev pub invariant-loop-x : goal.invariant-loop-x
invariant-loop-x l = l.bytes.items ≡ bytes_of_numbers w16 (take l.x-index l.numbers)
