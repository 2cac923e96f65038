use Rattle.std.proofs.Common.{sym, subst}
use Rattle.icu_table_provider.specs.builder.Building.{SaysOfCharacters}
use Rattle.icu_table_check.specs.small_tables.SmallTables.{small_root}
use Rattle.icu_table_check.proofs.small_tables.StoredLemmas.{may_be_data}
use Rattle.icu_table_check.proofs.small_tables.small_root.checked.Goals as goal

pub returns-in-Ok-clause-says : goal.returns-in-Ok-clause-says
returns-in-Ok-clause-says c = subst (SaysOfCharacters small_root) (sym c.in-Ok.ensures.keeps) c.requires.says

pub returns-in-Err-clause-accepted : goal.returns-in-Err-clause-accepted
returns-in-Err-clause-accepted c =
    c.in-Err.ensures.accepts.1 (may_be_data c.args.vectors c.requires.says c.requires.table c.requires.ranges)
