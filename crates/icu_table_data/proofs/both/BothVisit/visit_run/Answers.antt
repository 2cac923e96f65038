use Rattle.icu_table_data.specs.StoredData.{data_of}
use Rattle.icu_table_data.proofs.BothLemmas.{run_by_first, run_by_second, left_by_first, left_by_second}
use Rattle.icu_table_data.proofs.both.BothVisit.visit_run.Goals as goal

pub returns-then-passes_run-clause-visits : goal.returns-then-passes_run-clause-visits
returns-then-passes_run-clause-visits g c =
    run_by_first g.A.Visit.after g.B.Visit.after (data_of c.args.home) c.args.first c.args.entry c.visit_run.result _ _ _ (c.passes_run.ensures c.if-passes_run.true) c.visit_run.ensures.visits

pub returns-then-passes_run-clause-leaves : goal.returns-then-passes_run-clause-leaves
returns-then-passes_run-clause-leaves g c = left_by_first c.visit_run.result _ _ _ c.visit_run.ensures.leaves

pub returns-then-passes_run-2-clause-visits : goal.returns-then-passes_run-2-clause-visits
returns-then-passes_run-2-clause-visits g c =
    run_by_second g.A.Visit.after g.B.Visit.after (data_of c.args.home) c.args.first c.args.entry c.visit_run-then-passes_run-2.result _ _ _ (c.passes_run-2.ensures c.if-passes_run-2.true) c.visit_run-then-passes_run-2.ensures.visits

pub returns-then-passes_run-2-clause-leaves : goal.returns-then-passes_run-2-clause-leaves
returns-then-passes_run-2-clause-leaves g c = left_by_second c.visit_run-then-passes_run-2.result _ _ _ c.visit_run-then-passes_run-2.ensures.leaves
