use Rattle.std.proofs.Common.{subst, arith}
use Rattle.icu_table_provider.specs.declared.well_formed.condition.Condition.TheVariants as conditions
use Rattle.icu_table_provider.specs.TableSets.{tables_in}
use Rattle.icu_table_provider.specs.well_formed.WellFormedTables.{MeetsBy}
use Rattle.icu_table_check.specs.inner.ComparedWeights.{IsWeightBy}
use Rattle.icu_table_check.proofs.LevelRefutes.{refute_clash}
use Rattle.icu_table_check.proofs.check.overlap_tables.clash_violation.Goals as goal

pub returns : goal.returns
returns c = λ meets.
    let all = tables_in c.args.tables in
    let first = subst (λ list. IsWeightBy list c.in_ok-first.first all.tables c.args.overlap.first) c.list.ensures c.in_ok-first.ensures in
    let second = subst (λ list. IsWeightBy list c.in_ok-second.second all.tables c.args.overlap.second) c.list-2.ensures c.in_ok-second.ensures in
    refute_clash c.args.level all c.in_ok-first.first c.in_ok-second.second c.args.overlap.first c.args.overlap.second (omega arith) (omega arith) first second c.requires.different c.requires.begins
    c.clash_table.result c.clash_table.ensures (subst (λ condition. MeetsBy (conditions.Pair condition) c.clash_table.result all) c.condition.ensures meets)
