use Rattle.std.proofs.Common.{◌++◌, option_to_list, sym}
use Rattle.icu_order_levels.specs.Cases.{case_runs}
use Rattle.icu_key_writers.proofs.CaseSteps.{end_case}
use Rattle.icu_key_writers.proofs.Writing.{writes_same}
use Rattle.icu_key_writers.proofs.cases.CaseWriter.close.Goals as goal

pub returns-clause-bytes : goal.returns-clause-bytes
returns-clause-bytes g c =
    writes_same g.S.CollationKeySink.effects _ _ _ _ _ (option_to_list c.add_optional-first.result ++ option_to_list c.last.result) _
    (end_case (case_runs c.args.self.form) c.runs_of-runs.result c.args.self.run.length (option_to_list c.args.self.nibbles.held) (option_to_list c.end-last.result)
    (option_to_list c.add_optional-first.result) (option_to_list c.add_optional-first.new.self.held) (option_to_list c.last.result)
    (sym c.runs_of-runs.ensures) c.end-last.ensures.bytes c.add_optional-first.ensures c.last.ensures)
    c.write_both.ensures.bytes
