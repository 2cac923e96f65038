use Rattle.std.proofs.Common.{◌≡◌, ◌++◌, length, map}
use Rattle.icu_table_files.specs.parts.SpeltParts.{bytes_of_parts}
use Rattle.icu_table_files.proofs.parts.counted_parts.parts_of.Given as goal

abbrev pub invariant-reading : goal.invariant-reading
invariant-reading l = bytes_of_parts (map (λ p. p.now) l.parts.items) ++ l.rest ≡ l.bytes

abbrev pub decreases-reading : goal.decreases-reading
decreases-reading l = length l.rest
