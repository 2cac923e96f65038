use Rattle.icu_table_entries.specs.declared.error.DataTable.TheVariants.{Root}
use Rattle.icu_table_provider.specs.TableSets.{tables_in}
use Rattle.icu_table_check.specs.declared.check.weights.WeightList.TheVariants.{Primaries, Secondaries, Tertiaries, TertiaryElements, WithSecondary}
use Rattle.icu_table_check.proofs.CollectLemmas as collected
use Rattle.icu_table_check.proofs.ListedLemmas.{each_on}
use Rattle.icu_table_check.proofs.LoadedViolationLemmas.{root_outcome}
use Rattle.icu_table_check.proofs.check.reachable_violations.root_violation.Goals as goal

pub returns-clause-outcome : goal.returns-clause-outcome
returns-clause-outcome c = root_outcome c.args.tables c.home_violation.result c.home_violation.ensures.none c.home_violation.ensures.some

pub returns-clause-adds : goal.returns-clause-adds
returns-clause-adds c =
    let s = c.args.tables in
    let r = c.home_violation.result in
    each_on Root (tables_in s).tables c.args.lists.now c.home_violation.new.lists r
    (collected.loaded_root s Primaries r _ _ c.home_violation.ensures.primaries) (collected.loaded_root s Secondaries r _ _ c.home_violation.ensures.secondaries)
    (collected.loaded_root s Tertiaries r _ _ c.home_violation.ensures.tertiaries) (collected.loaded_root s TertiaryElements r _ _ c.home_violation.ensures.tertiary_elements)
    (collected.loaded_root s WithSecondary r _ _ c.home_violation.ensures.with_secondary)
