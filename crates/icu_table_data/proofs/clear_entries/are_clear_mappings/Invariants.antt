use Rattle.std.proofs.Common.{take}
use Rattle.icu_table_data.specs.StoredData.{data_of}
use Rattle.icu_table_data.specs.inner.BlockWalks.{AreClear, AreUnwanted, contraction_entries}
use Rattle.icu_table_data.proofs.clear_entries.are_clear_mappings.Given as goal

-- the mappings so far lead to none of the part
abbrev pub invariant-loop-mapping : goal.invariant-loop-mapping
invariant-loop-mapping l = record {
  clear : AreClear l.part (data_of l.home) l.clear;
  none : AreUnwanted l.part (contraction_entries (data_of l.home) (take l.mapping-index l.mappings));
}
