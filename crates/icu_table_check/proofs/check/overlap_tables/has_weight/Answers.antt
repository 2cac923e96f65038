use Rattle.std.proofs.Common.{IsTrue}
use Rattle.icu_table_provider.specs.TableSets.{tables_in}
use Rattle.icu_table_weights.specs.WeightSets.{weights_of_set}
use Rattle.icu_table_check.proofs.WeightListLemmas.{is_weight_by}
use Rattle.icu_table_check.proofs.check.overlap_tables.has_weight.Goals as goal

pub returns : goal.returns
returns c =
    is_weight_by c.args.list c.args.table (tables_in c.args.tables) (weights_of_set c.collect.new.weights) c.args.weight (IsTrue c.has.result) _ c.new-weights.ensures c.in_ok-collect.ensures c.has.ensures
