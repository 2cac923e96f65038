-- All tables of a collator together.
use Rattle.std.specs.Prelude.{ℕ, Bool, not, ◌*◌, Option, Some, None}
use Rattle.icu_options.specs.Metadata.{is_backward}
use Rattle.icu_table_provider.specs.Tables.{Tables}
use Rattle.icu_table_provider.specs.SpecialPrimaries.{SpecialPrimaries}
use Rattle.icu_table_provider.specs.Reorderings.{Reordering, lead_byte, reordered}

-- the tables that elements are read from, the special primary weights, the bits of the metadata, and a reordering
pub record CollatorTables : Type 0 where
  pub tables : Tables
  pub special : SpecialPrimaries
  pub bits : ℕ
  pub reordering : Option Reordering

-- the secondary level is compared from the front
abbrev pub is_forward : CollatorTables → Bool
is_forward all = not (is_backward all.bits)

-- a primary weight as it is compared: reordered, where there is a reordering
abbrev pub reorder_by : Option Reordering → ℕ → ℕ
reorder_by None p = p
reorder_by (Some r) p = reordered r p

-- a primary weight as these tables compare it
abbrev pub reorder : CollatorTables → ℕ → ℕ
reorder all p = reorder_by all.reordering p

-- the lead byte that the least primary weight with this lead byte is taken to
abbrev pub new_lead : CollatorTables → ℕ → ℕ
new_lead all b = lead_byte (reorder all (b * 0x1000000))
