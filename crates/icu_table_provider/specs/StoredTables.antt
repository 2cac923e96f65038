-- What the tables of this crate say, as they are stored.
use Rattle.std.specs.Prelude.{ℕ, List}
use Rattle.icu_table_provider.specs.declared.diacritics.CollationDiacritics.{CollationDiacritics}
use Rattle.icu_table_provider.specs.declared.jamo.CollationJamo.{CollationJamo}
use Rattle.icu_table_provider.specs.declared.reordering.CollationReordering.{CollationReordering}
use Rattle.icu_table_provider.specs.declared.special_primaries.CollationSpecialPrimaries.{CollationSpecialPrimaries}
use Rattle.icu_table_provider.specs.Reorderings.{Reordering}
use Rattle.icu_table_provider.specs.SpecialPrimaries.{SpecialPrimaries}

-- the secondary weights of diacritics
abbrev pub diacritics_of : CollationDiacritics → List ℕ
diacritics_of d = d.secondaries.now

-- the entries of jamo
abbrev pub jamo_of : CollationJamo → List ℕ
jamo_of j = j.ce32s.now

-- a reordering
abbrev pub reordering_of : CollationReordering → Reordering
reordering_of r = record { limit = r.min_high_no_reorder; leads = r.reorder_table.now; ranges = r.reorder_ranges.now }

-- the special primary weights
abbrev pub special_of : CollationSpecialPrimaries → SpecialPrimaries
special_of s = record { last = s.last_primaries.now; numeric = s.numeric_primary }
