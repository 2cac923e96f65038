use Rattle.std.proofs.Common.{◌++◌, ◌∙◌, ap, option_to_list, sym}
use Rattle.icu_order_levels.specs.Cases.{case_runs, case_nibble}
use Rattle.icu_key_writers.specs.CaseRanks.{rank_of}
use Rattle.icu_key_writers.proofs.CaseSteps.{counted_case, other_case}
use Rattle.icu_key_writers.proofs.Writing.{feeds_writes}
use Rattle.icu_key_writers.proofs.cases.CaseWriter.push.Goals as goal

pub returns-then-whole-runs-clause-bytes : goal.returns-then-whole-runs-clause-bytes
returns-then-whole-runs-clause-bytes g c =
    let form = c.args.self.now.form in
    let n = c.args.self.now.run.length in
    let held = option_to_list c.args.self.now.nibbles.held in
    feeds_writes g.S.CollationKeySink.effects _ _ _ _ (option_to_list c.add_optional-byte.result) _ _ _
    (λ ranks. counted_case (case_runs form) c.runs_of-runs.result (case_nibble form) n c.count-due.new.self.length (rank_of form c.args.case) ranks
    held (option_to_list c.count-due.result) (option_to_list c.add_optional-byte.result) (option_to_list c.add_optional-byte.new.self.held)
    (sym c.runs_of-runs.ensures)
    (sym c.rank-rank.ensures.value ∙ (sym c.from-whole.ensures ∙ c.if-whole-runs.true))
    (c.count-due.ensures.bytes (case_nibble form)) c.add_optional-byte.ensures)
    c.write_optional.ensures.bytes

pub returns-else-whole-runs-clause-bytes : goal.returns-else-whole-runs-clause-bytes
returns-else-whole-runs-clause-bytes g c =
    let form = c.args.self.now.form in
    let n = c.args.self.now.run.length in
    let held = option_to_list c.args.self.now.nibbles.held in
    feeds_writes g.S.CollationKeySink.effects _ _ _ _ (option_to_list c.add_optional-first.result ++ option_to_list c.add-second.result) _ _ _
    (λ ranks. other_case (case_runs form) c.runs_of-runs.result (case_nibble form) n c.end-last.new.self.length (rank_of form c.args.case) c.from-whole.result c.nibble.result ranks
    held (option_to_list c.end-last.result) (option_to_list c.add_optional-first.result) (option_to_list c.add_optional-first.new.self.held)
    (option_to_list c.add-second.result) (option_to_list c.add-second.new.self.held)
    (sym c.runs_of-runs.ensures)
    (sym c.rank-rank.ensures.value ∙ sym c.from-whole.ensures)
    c.if-whole-runs.false c.end-last.ensures.bytes
    (ap (case_nibble form) c.from-whole.ensures ∙ sym c.nibble.ensures.value)
    c.end-last.ensures.empty c.add_optional-first.ensures c.add-second.ensures)
    c.write_both.ensures.bytes
