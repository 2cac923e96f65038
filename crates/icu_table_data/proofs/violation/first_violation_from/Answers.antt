use Rattle.std.proofs.Common.{true}
use Rattle.icu_table_data.specs.Reachable.{reachable_from}
use Rattle.icu_table_data.specs.StoredData.{data_of}
use Rattle.icu_table_data.proofs.ViolationLemmas.{first_among}
use Rattle.icu_table_data.proofs.violation.first_violation_from.Goals as goal

pub returns-clause-none : goal.returns-clause-none
returns-clause-none g c =
    (first_among g.J.Violation.Ranked.rank g.J.Judge.violation c.args.judge.now true (data_of c.args.home) c.args.c (reachable_from (data_of c.args.home) c.args.entry) c.args.first _ c.in-Ok.ensures).nothing

pub returns-clause-some : goal.returns-clause-some
returns-clause-some g c =
    (first_among g.J.Violation.Ranked.rank g.J.Judge.violation c.args.judge.now true (data_of c.args.home) c.args.c (reachable_from (data_of c.args.home) c.args.entry) c.args.first _ c.in-Ok.ensures).some

pub returns-clause-least : goal.returns-clause-least
returns-clause-least g c =
    (first_among g.J.Violation.Ranked.rank g.J.Judge.violation c.args.judge.now true (data_of c.args.home) c.args.c (reachable_from (data_of c.args.home) c.args.entry) c.args.first _ c.in-Ok.ensures).least
