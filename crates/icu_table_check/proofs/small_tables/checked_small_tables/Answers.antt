use Rattle.std.proofs.Common.{arith}
use Rattle.icu_table_check.proofs.small_tables.AcceptedLemmas.{only_memory, kept_are_small}
use Rattle.icu_table_check.proofs.small_tables.checked_small_tables.Goals as goal

pub returns-clause-memory : goal.returns-clause-memory
returns-clause-memory c =
    only_memory _ (record { low = omega arith; high = omega arith }) _ c.in_ok-root.ensures.says _ c.set_with.ensures c.checked_set.result c.checked_set.ensures.exact

pub returns-clause-says : goal.returns-clause-says
returns-clause-says c =
    kept_are_small _ (record { low = omega arith; high = omega arith }) _ c.in_ok-root.ensures.says _ c.set_with.ensures c.checked_set.result c.checked_set.ensures.keeps
