use Rattle.std.proofs.Common.{sym, ap, ◌∙◌}
use Rattle.icu_table_data.specs.StoredData.{data_of}
use Rattle.icu_table_data.specs.Violations.{earlier}
use Rattle.icu_table_provider.specs.TableSets.{tables_in}
use Rattle.icu_table_check.specs.inner.Violations.{violation_rank}
use Rattle.icu_table_check.specs.inner.EntryViolations.{mappings_violation}
use Rattle.icu_table_check.proofs.EntryViolationLemmas.{without_own}
use Rattle.icu_table_check.proofs.check.entry_judge.TablesJudgeJudge.violation.Goals as goal

pub returns-else-passes_spelled : goal.returns-else-passes_spelled
returns-else-passes_spelled c =
    let all = tables_in c.args.self.now.tables in
    let home = data_of c.args.home in
    c.earlier.ensures
    ∙ ap (λ mappings. earlier violation_rank mappings c.elements_violation.result) c.mappings_violation.ensures
    ∙ ap (earlier violation_rank (mappings_violation all home c.args.entry)) c.elements_violation.ensures
    ∙ sym (without_own all c.args.self.now.table home c.args.c c.args.entry (sym c.first_failing.ensures ∙ c.in-None.is))

pub returns-then-passes_spelled : goal.returns-then-passes_spelled
returns-then-passes_spelled c =
    sym (c.passes_spelled.ensures c.if-passes_spelled.true (data_of c.args.home) c.args.c (sym c.first_failing.ensures ∙ c.in-None.is))
