use Rattle.icu_table_provider.specs.TableSets.{tables_in}
use Rattle.icu_table_check.proofs.ImplicitOverlapLemmas.{refute_implicit}
use Rattle.icu_table_check.proofs.check.implicit_overlaps.clash_violation.Goals as goal

pub returns : goal.returns
returns c = λ meets. refute_implicit (tables_in c.args.tables) c.args.clash c.requires c.in_ok-own.own c.in_ok-own.ensures c.clash_table.result c.clash_table.ensures meets
