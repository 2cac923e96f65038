-- The reordering that is kept in vectors.
use Rattle.std.specs.Prelude.{◌≡◌, length}
use Rattle.icu_table_provider.specs.Reorderings.{Reordering}
use Rattle.icu_table_mini.specs.declared.reordering_data.ReorderingData.{ReorderingData}

-- the reordering that the vectors say
abbrev pub reordering_held : ReorderingData → Reordering
reordering_held r = record { limit = r.min_high_no_reorder; leads = r.reorder_table.items; ranges = r.reorder_ranges.items }

-- there is a new lead byte, or 0, for each lead byte
abbrev pub HasAllLeads : ReorderingData → Type 0
HasAllLeads r = length r.reorder_table.items ≡ 256
