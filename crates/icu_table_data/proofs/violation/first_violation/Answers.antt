use Rattle.icu_table_data.specs.StoredData.{data_of}
use Rattle.icu_table_data.proofs.ViolationLemmas.{first_reachable}
use Rattle.icu_table_data.proofs.violation.first_violation.Goals as goal

pub returns-clause-none : goal.returns-clause-none
returns-clause-none g c =
    (first_reachable g.J.Violation.Ranked.rank g.J.Judge.violation c.args.judge.now c.args.falls_back (data_of c.args.home) (c.is_alike.ensures (data_of c.args.home)) c.args.first _ c.in-Ok.ensures).nothing

pub returns-clause-some : goal.returns-clause-some
returns-clause-some g c =
    (first_reachable g.J.Violation.Ranked.rank g.J.Judge.violation c.args.judge.now c.args.falls_back (data_of c.args.home) (c.is_alike.ensures (data_of c.args.home)) c.args.first _ c.in-Ok.ensures).some

pub returns-clause-least : goal.returns-clause-least
returns-clause-least g c =
    (first_reachable g.J.Violation.Ranked.rank g.J.Judge.violation c.args.judge.now c.args.falls_back (data_of c.args.home) (c.is_alike.ensures (data_of c.args.home)) c.args.first _ c.in-Ok.ensures).least
