use Rattle.icu_table_provider.specs.TableSets.{tables_in}
use Rattle.icu_table_check.proofs.ImplicitLemmas.{implicit_no_violation}
use Rattle.icu_table_check.proofs.check.entry_judge.TablesJudgeJudge.passes_implicit.Goals as goal

pub returns : goal.returns
returns c passes home char e is =
    implicit_no_violation (tables_in c.args.self.now.tables) c.args.self.now.table home char e is (c.args.self.now.passes passes char)
