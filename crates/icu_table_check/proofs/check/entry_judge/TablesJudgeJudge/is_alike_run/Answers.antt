use Rattle.std.proofs.Common.{rules, ◌≡◌}
use Rattle.icu_table_entries.specs.declared.entry.EntryKind.TheVariants.{Implicit}
use Rattle.icu_table_entries.specs.Entries.{kind_of}
use Rattle.icu_table_data.specs.StoredData.{data_of}
use Rattle.icu_table_provider.specs.TableSets.{tables_in}
use Rattle.icu_table_check.proofs.AlikeRunLemmas.{implicit_alike}
use Rattle.icu_table_check.proofs.check.entry_judge.TablesJudgeJudge.is_alike_run.Goals as goal

pub returns : goal.returns
returns c alike char low below =
    let is : kind_of c.args.entry ≡ Implicit = search rules in
    implicit_alike (tables_in c.args.self.now.tables) c.args.self.now.table (data_of c.args._home) char c.args.first c.args.entry is (c.implicit_run_is_alike.ensures alike char low below)
