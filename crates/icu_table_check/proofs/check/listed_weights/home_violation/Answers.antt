-- A walk of the collectors and of what keeps the first violation is a walk of each.
use Rattle.std.proofs.Common.{None, Result, Ok}
use Rattle.icu_table_data.specs.StoredData.{data_of}
use Rattle.icu_table_data.specs.Violations.{IsReachableViolation}
use Rattle.icu_table_data.proofs.BothLemmas.{first_walked, second_walked}
use Rattle.icu_table_data.proofs.CollectedWeightLemmas.{collected_reachable}
use Rattle.icu_table_data.proofs.ViolationLemmas.{first_reachable, weaker_some, not_before}
use Rattle.icu_table_check.specs.declared.check.weights.WeightList.TheVariants.{Primaries, Secondaries, Tertiaries, TertiaryElements, WithSecondary}
use Rattle.icu_table_check.specs.inner.ComparedWeights.{compared_weight}
use Rattle.icu_table_check.proofs.check.listed_weights.home_violation.Goals as goal

-- a walk that ended well
abbrev walked : Result (Unit {0}) (Unit {0})
walked = Ok tt

pub returns-clause-none : goal.returns-clause-none
returns-clause-none g c = λ h.
    ((first_reachable g.J.Violation.Ranked.rank g.J.Judge.violation c.args.judge.now c.args.falls_back (data_of c.args.home) (c.is_alike.ensures (data_of c.args.home)) None _
    (second_walked _ _ _ _ _ _ _ c.in_ok-visit_chars.ensures)).nothing.0 h).1

pub returns-clause-some : goal.returns-clause-some
returns-clause-some g c =
    weaker_some _ (IsReachableViolation (g.J.Judge.violation c.args.judge.now) c.args.falls_back (data_of c.args.home)) (λ f found. not_before f _ found) _
    (first_reachable g.J.Violation.Ranked.rank g.J.Judge.violation c.args.judge.now c.args.falls_back (data_of c.args.home) (c.is_alike.ensures (data_of c.args.home)) None _
    (second_walked _ _ _ _ _ _ _ c.in_ok-visit_chars.ensures)).some

pub returns-clause-primaries : goal.returns-clause-primaries
returns-clause-primaries g c =
    collected_reachable compared_weight Primaries c.args.falls_back (data_of c.args.home) _ _ _ c.over-primaries.ensures.weigh c.over-primaries.ensures.weights walked _ _
    (first_walked _ _ _ _ _ _ _ (first_walked _ _ _ _ _ _ _ c.in_ok-visit_chars.ensures))

pub returns-clause-secondaries : goal.returns-clause-secondaries
returns-clause-secondaries g c =
    collected_reachable compared_weight Secondaries c.args.falls_back (data_of c.args.home) _ _ _ c.over-secondaries.ensures.weigh c.over-secondaries.ensures.weights walked _ _
    (first_walked _ _ _ _ _ _ _ (first_walked _ _ _ _ _ _ _ (second_walked _ _ _ _ _ _ _ (first_walked _ _ _ _ _ _ _ c.in_ok-visit_chars.ensures))))

pub returns-clause-tertiaries : goal.returns-clause-tertiaries
returns-clause-tertiaries g c =
    collected_reachable compared_weight Tertiaries c.args.falls_back (data_of c.args.home) _ _ _ c.over-tertiaries.ensures.weigh c.over-tertiaries.ensures.weights walked _ _
    (second_walked _ _ _ _ _ _ _ (first_walked _ _ _ _ _ _ _ (second_walked _ _ _ _ _ _ _ (first_walked _ _ _ _ _ _ _ c.in_ok-visit_chars.ensures))))

pub returns-clause-tertiary_elements : goal.returns-clause-tertiary_elements
returns-clause-tertiary_elements g c =
    collected_reachable compared_weight TertiaryElements c.args.falls_back (data_of c.args.home) _ _ _ c.over-alone.ensures.weigh c.over-alone.ensures.weights walked _ _
    (first_walked _ _ _ _ _ _ _ (second_walked _ _ _ _ _ _ _ (second_walked _ _ _ _ _ _ _ (first_walked _ _ _ _ _ _ _ c.in_ok-visit_chars.ensures))))

pub returns-clause-with_secondary : goal.returns-clause-with_secondary
returns-clause-with_secondary g c =
    collected_reachable compared_weight WithSecondary c.args.falls_back (data_of c.args.home) _ _ _ c.over-beside.ensures.weigh c.over-beside.ensures.weights walked _ _
    (second_walked _ _ _ _ _ _ _ (second_walked _ _ _ _ _ _ _ (second_walked _ _ _ _ _ _ _ (first_walked _ _ _ _ _ _ _ c.in_ok-visit_chars.ensures))))
