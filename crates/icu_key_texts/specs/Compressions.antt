-- How the primaries of a collator are written, by the tables that say so.
use Rattle.icu_order_levels.specs.Primaries.{Compression}
use Rattle.icu_table_provider.specs.well_formed.Checked.{checked_tables}
use Rattle.icu_order_texts.specs.weighting.Forms.{compression_of}
use Rattle.icu_key_texts.specs.declared.compression.TableCompression.{TableCompression}

-- how primaries are written by the reordering and the compressible leads of the tables
abbrev pub table_compression : TableCompression → Compression
table_compression t = compression_of (checked_tables t.tables.now)
