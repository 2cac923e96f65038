-- A true error is of tables that don't meet the conditions.
use Rattle.std.proofs.Common.{subst}
use Rattle.icu_table_provider.specs.OwnedTables.{owned_tables}
use Rattle.icu_table_provider.specs.well_formed.WellFormedTables.{IsTrueError}
use Rattle.icu_table_check.proofs.WellFormedLemmas.{error_not_well_formed}
use Rattle.icu_table_check.proofs.checked_tables.checked_owned.Goals as goal

pub returns-in-Err-clause-exact : goal.returns-in-Err-clause-exact
returns-in-Err-clause-exact c =
    error_not_well_formed (owned_tables c.args.tables) c.in-Err.error (subst (λ t. IsTrueError t c.in-Err.error) c.as_set.ensures c.in-Err.ensures.error)
