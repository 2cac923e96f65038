-- Quaternary bits of collation elements.
use Rattle.std.specs.Prelude.{Bool, not, bit_and, ◌==◌}
use Rattle.icu_table_entries.specs.Elements.{NonPrimaryWeights, quaternary_mask}

-- bit 7 or 6 is set
abbrev pub has_quaternary_bits : NonPrimaryWeights → Bool
has_quaternary_bits w = not (bit_and w.lower quaternary_mask == 0)
