use Rattle.std.proofs.Common.{option_map, arith}
use Rattle.icu_table_provider.specs.StoredTables.{reordering_of}
use Rattle.icu_table_weights.specs.Overlaps.{written_bytes}
use Rattle.icu_table_weights.proofs.TargetLemmas.{overlaps_among, pair_among}
use Rattle.icu_table_weights.proofs.set_overlaps.common_in_list.Goals as goal

pub returns-in-Some : goal.returns-in-Some
returns-in-Some c = overlaps_among (written_bytes (option_map reordering_of c.args.reordering)) _ _ _ _ (pair_among c.args.weights.now c.loop-other.other-index c.args.weight (omega arith)) c.in-Some.ensures
