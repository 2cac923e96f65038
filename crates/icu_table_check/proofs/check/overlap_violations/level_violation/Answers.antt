use Rattle.icu_table_provider.specs.TableSets.{tables_in}
use Rattle.icu_table_weights.specs.WeightSets.{weights_of_set}
use Rattle.icu_table_check.specs.inner.PairViolations.{AreFree, LevelIsFree}
use Rattle.icu_table_check.proofs.ViolationPairs.{outcome_of}
use Rattle.icu_table_check.proofs.check.overlap_violations.level_violation.Goals as goal

pub returns : goal.returns
returns c =
    let all = tables_in c.args.tables in
    let weights = weights_of_set c.args.weights.now in
    outcome_of all (AreFree c.args.level all weights) (LevelIsFree c.args.level all)
    (λ free. record { weights = weights; all_held = c.requires.all; free = free }) _ c.overlap_violation.ensures
