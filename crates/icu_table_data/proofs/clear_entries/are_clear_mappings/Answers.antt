use Rattle.std.proofs.Common.{◌<◌, length, refl, rules}
use Rattle.icu_table_data.specs.StoredData.{data_of}
use Rattle.icu_table_data.proofs.ClearLemmas.{no_mappings_clear, mapping_clear}
use Rattle.icu_table_data.proofs.clear_entries.are_clear_mappings.Goals as goal

pub loop-mapping-init : goal.loop-mapping-init
loop-mapping-init c = record { clear = c.requires; none = no_mappings_clear c.args.part (data_of c.args.home) }

pub loop-mapping-preserved : goal.loop-mapping-preserved
loop-mapping-preserved c =
    let inside : c.loop-mapping.mapping-index < length c.args.mappings.now = search rules in
    record {
      clear = c.is_clear_contraction.ensures.clear;
      none =
          mapping_clear c.args.part (data_of c.args.home) c.args.mappings.now c.loop-mapping.mapping-index _ (record { chars_start = 0; chars_len = 0; entry = 0 }) inside refl
          c.loop-mapping.invariant.none (c.is_clear_contraction.ensures.none c.if-not-is_clear_contraction.false);
    }
