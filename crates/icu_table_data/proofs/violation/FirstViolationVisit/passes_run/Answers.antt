use Rattle.icu_table_data.specs.StoredData.{data_of}
use Rattle.icu_table_data.proofs.ViolationLemmas.{judges_nothing}
use Rattle.icu_table_data.proofs.violation.FirstViolationVisit.passes_run.Goals as goal

pub returns : goal.returns
returns g c passes char low high =
    judges_nothing g.J.Violation.Ranked.rank g.J.Judge.violation (c.args.self.now.judge.now, c.args.self.now.first) (data_of c.args.home) char c.args.entry (c.passes_run.ensures passes char low high)
