use Rattle.std.proofs.Common.{◌∙◌, ap}
use Rattle.icu_table_data.specs.StoredData.{data_of}
use Rattle.icu_table_data.proofs.ViolationLemmas.{judged_run}
use Rattle.icu_table_data.proofs.violation.FirstViolationVisit.visit_run.Goals as goal

pub returns-clause-visits : goal.returns-clause-visits
returns-clause-visits g c done =
    ap (λ f. (c.args.self.now.judge.now, f)) c.earlier-self.ensures
    ∙ judged_run g.J.Violation.Ranked.rank g.J.Judge.violation c.args.self.now.judge.now c.args.self.now.first c.violation.result (data_of c.args.home) c.args.first c.args.entry c.violation.ensures
    (c.is_alike_run.ensures c.if-not-is_alike_run.false)
