use Rattle.std.proofs.Common.{IfSome, subst, option_map}
use Rattle.icu_table_provider.specs.StoredTables.{reordering_of}
use Rattle.icu_table_provider.specs.TableSets.{tables_in}
use Rattle.icu_table_check.specs.inner.ComparedLevels.{list_of}
use Rattle.icu_table_weights.specs.Overlaps.{written_bytes, Overlaps}
use Rattle.icu_table_weights.specs.WeightSets.{weights_of_set}
use Rattle.icu_table_check.proofs.WeightListLemmas.{clashing, more_listed}
use Rattle.icu_table_check.proofs.check.overlap_violations.named_overlap.Goals as goal

pub clash_violation-requires : goal.clash_violation-requires
clash_violation-requires c =
    let all = tables_in c.args.tables in
    let found = c.in-Some.found in
    let weights = weights_of_set c.collect.new.weights in
    let listed = more_listed c.list.result (list_of c.args.level) all _ _ _ c.list.ensures c.loop-table.invariant c.in_ok-collect.ensures in
    let overlaps = subst (λ o. IfSome o (λ o. Overlaps (written_bytes (option_map reordering_of c.reordering.result)) weights o.first o.second)) c.in-Some.is c.in_ok-found.ensures in
    clashing c.args.level all weights found.first found.second listed
    (subst (λ r. Overlaps (written_bytes r) weights found.first found.second) c.reordering.ensures overlaps)

pub loop-table-preserved : goal.loop-table-preserved
loop-table-preserved c = more_listed c.list.result (list_of c.args.level) (tables_in c.args.tables) _ _ _ c.list.ensures c.loop-table.invariant c.in_ok-collect.ensures
