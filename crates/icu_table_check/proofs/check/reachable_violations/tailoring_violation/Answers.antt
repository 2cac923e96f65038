use Rattle.icu_table_entries.specs.declared.error.DataTable.TheVariants.{Tailoring}
use Rattle.icu_table_provider.specs.TableSets.{tables_in}
use Rattle.icu_table_check.specs.declared.check.weights.WeightList.TheVariants.{Primaries, Secondaries, Tertiaries, TertiaryElements, WithSecondary}
use Rattle.icu_table_check.proofs.CollectLemmas as collected
use Rattle.icu_table_check.proofs.ListedLemmas.{each_on, no_tailoring}
use Rattle.icu_table_check.proofs.LoadedViolationLemmas.{tailoring_outcome, loaded_no_tailoring}
use Rattle.icu_table_check.proofs.check.reachable_violations.tailoring_violation.Goals as goal

pub returns-in-Some-clause-outcome : goal.returns-in-Some-clause-outcome
returns-in-Some-clause-outcome c =
    tailoring_outcome c.args.tables c.in-Some.tailoring c.in-Some.is c.home_violation.result c.home_violation.ensures.none c.home_violation.ensures.some

pub returns-in-Some-clause-adds : goal.returns-in-Some-clause-adds
returns-in-Some-clause-adds c =
    let s = c.args.tables in
    let r = c.home_violation.result in
    let t = c.in-Some.tailoring in
    each_on Tailoring (tables_in s).tables c.args.lists.now c.home_violation.new.lists r
    (collected.loaded_tailoring s Primaries t c.in-Some.is r _ _ c.home_violation.ensures.primaries) (collected.loaded_tailoring s Secondaries t c.in-Some.is r _ _ c.home_violation.ensures.secondaries)
    (collected.loaded_tailoring s Tertiaries t c.in-Some.is r _ _ c.home_violation.ensures.tertiaries) (collected.loaded_tailoring s TertiaryElements t c.in-Some.is r _ _ c.home_violation.ensures.tertiary_elements)
    (collected.loaded_tailoring s WithSecondary t c.in-Some.is r _ _ c.home_violation.ensures.with_secondary)

pub returns-in-None-clause-outcome : goal.returns-in-None-clause-outcome
returns-in-None-clause-outcome c = record { none = λ h. loaded_no_tailoring c.args.tables c.in-None.is; some = tt }

pub returns-in-None-clause-adds : goal.returns-in-None-clause-adds
returns-in-None-clause-adds c = no_tailoring c.args.tables c.args.lists.now c.in-None.is
