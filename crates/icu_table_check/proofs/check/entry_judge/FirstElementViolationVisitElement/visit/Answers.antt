use Rattle.std.proofs.Common.{sym}
use Rattle.icu_table_provider.specs.TableSets.{tables_in}
use Rattle.icu_table_check.proofs.PassingLeadLemmas.{judged_passing}
use Rattle.icu_table_check.proofs.check.entry_judge.FirstElementViolationVisitElement.visit.Goals as goal

pub returns-then-passes_element : goal.returns-then-passes_element
returns-then-passes_element c =
    sym (judged_passing (tables_in c.args.self.now.judge.now.tables) c.args.self.now.judge.now.table c.args.self.now.first c.args.element (c.passes_element.ensures c.if-passes_element.true))
