-- Tables that are handed in one by one.
use Rattle.std.specs.Prelude.{Option}
use Rattle.icu_table_data.specs.declared.data.CollationData.{CollationData}
use Rattle.icu_table_provider.specs.declared.diacritics.CollationDiacritics.{CollationDiacritics}
use Rattle.icu_table_provider.specs.declared.jamo.CollationJamo.{CollationJamo}
use Rattle.icu_table_provider.specs.declared.metadata.CollationMetadata.{CollationMetadata}
use Rattle.icu_table_provider.specs.declared.reordering.CollationReordering.{CollationReordering}
use Rattle.icu_table_provider.specs.declared.special_primaries.CollationSpecialPrimaries.{CollationSpecialPrimaries}
use Rattle.icu_table_provider.specs.CollatorTables.{CollatorTables}
use Rattle.icu_table_provider.specs.TableSets.{tables_in}

-- what tables say one by one
abbrev pub tables_of : CollationData → CollationJamo → CollationSpecialPrimaries → CollationMetadata → Option CollationData → Option CollationReordering → CollationDiacritics → CollatorTables
tables_of root jamo special metadata tailoring reordering diacritics =
    tables_in (record { root = root; jamo = jamo; special = special; metadata = metadata; tailoring = tailoring; reordering = reordering; diacritics = diacritics })
