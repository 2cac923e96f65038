-- What tables say that own their vectors.
use Rattle.std.specs.Prelude.{ℕ, List, option_map}
use Rattle.icu_table_provider.specs.builder.OwnedData.{owned_data}
use Rattle.icu_table_provider.specs.declared.diacritics.OwnedDiacritics.{OwnedDiacritics}
use Rattle.icu_table_provider.specs.declared.jamo.OwnedJamo.{OwnedJamo}
use Rattle.icu_table_provider.specs.declared.reordering.OwnedReordering.{OwnedReordering}
use Rattle.icu_table_provider.specs.declared.special_primaries.OwnedSpecialPrimaries.{OwnedSpecialPrimaries}
use Rattle.icu_table_provider.specs.declared.table_set.OwnedTables.{OwnedTables}
use Rattle.icu_table_provider.specs.CollatorTables.{CollatorTables}
use Rattle.icu_table_provider.specs.Reorderings.{Reordering}
use Rattle.icu_table_provider.specs.SpecialPrimaries.{SpecialPrimaries}

-- the entries of jamo
unfoldable pub owned_jamo : OwnedJamo → List ℕ
owned_jamo o = o.ce32s.items

-- the secondary weights of diacritics
unfoldable pub owned_diacritics : OwnedDiacritics → List ℕ
owned_diacritics o = o.secondaries.items

-- a reordering
unfoldable pub owned_reordering : OwnedReordering → Reordering
owned_reordering o = record { limit = o.min_high_no_reorder; leads = o.reorder_table.items; ranges = o.reorder_ranges.items }

-- the special primary weights
unfoldable pub owned_special : OwnedSpecialPrimaries → SpecialPrimaries
owned_special o = record { last = o.last_primaries.items; numeric = o.numeric_primary }

-- all seven tables together
unfoldable pub owned_tables : OwnedTables → CollatorTables
owned_tables o = record {
  tables = record {
    root = owned_data o.root;
    tailoring = option_map owned_data o.tailoring;
    jamo = owned_jamo o.jamo;
    diacritics = owned_diacritics o.diacritics;
  };
  special = owned_special o.special;
  bits = o.metadata.bits;
  reordering = option_map owned_reordering o.reordering;
}
