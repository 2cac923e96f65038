use Rattle.icu_table_weights.specs.WeightSets.{weights_of_set}
use Rattle.icu_table_check.proofs.WeightListLemmas.{loaded_alike, loaded_apart, same_leads}
use Rattle.icu_table_check.proofs.check.primary_violations.compression_violation.Goals as goal

pub returns-then-alike : goal.returns-then-alike
returns-then-alike c = record {
  none = λ h. loaded_alike c.args.tables c.in-Some.reordering c.in-Some.is (weights_of_set c.args.weights.now) (c.in_ok-alike-in-Some.ensures.alike.0 c.if-alike.true);
  some = tt;
}

pub returns-else-alike : goal.returns-else-alike
returns-else-alike c = record {
  none = λ h. cc;
  some = loaded_apart c.args.tables c.in-Some.reordering c.in-Some.is (weights_of_set c.args.weights.now) c.requires (c.in_ok-alike-in-Some.ensures.apart c.if-alike.false);
}

pub returns-in-None : goal.returns-in-None
returns-in-None c = record { none = λ h. same_leads c.args.tables c.in-None.is (weights_of_set c.args.weights.now); some = tt }
