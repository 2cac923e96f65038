use Rattle.icu_table_data.proofs.ViolationLemmas.{judges_nothing}
use Rattle.icu_table_data.proofs.violation.FirstViolationVisit.passes_implicit.Goals as goal

pub returns : goal.returns
returns g c passes home char e is =
    judges_nothing g.J.Violation.Ranked.rank g.J.Judge.violation (c.args.self.now.judge.now, c.args.self.now.first) home char e (c.passes_implicit.ensures passes home char e is)
