use Rattle.std.proofs.Common.{◌≡◌, subst}
use Rattle.icu_table_data.specs.CollectedWeights.{Adds}
use Rattle.icu_table_weights.specs.WeightSets.{weights_of_set}
use Rattle.icu_table_weights.proofs.targets.add_target.Goals as goal

pub returns-clause-added : goal.returns-clause-added
returns-clause-added c = λ _.
    subst (λ n. Adds (λ q. q ≡ n) (weights_of_set c.args.targets.now) (weights_of_set c.add.new.self)) c.reorder_by.ensures c.in_ok-add.ensures
