-- A bit for each lead byte, 16 in a word.
use Rattle.std.specs.Prelude.{ℕ, ◌/◌, ◌%◌, Bool, List, slice_index}
use Rattle.icu_table_entries.specs.Entries.{has_bit}

-- the bit of a lead byte is set
abbrev pub has_lead : List ℕ → ℕ → Bool
has_lead words b = has_bit (b % 16) (slice_index words (b / 16))
