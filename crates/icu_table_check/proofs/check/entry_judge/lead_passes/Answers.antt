use Rattle.std.proofs.Common.{◌*◌, ◌+◌, ◌≤◌, arith}
use Rattle.icu_table_check.proofs.PassingLeadLemmas.{lies_from, lies_to}
use Rattle.icu_table_check.proofs.check.entry_judge.lead_passes.Goals as goal

pub returns : goal.returns
returns c passed p at second =
    let low : c.args.lead * 0x1000000 + 0x40000 ≤ p = lies_from c.args.lead p at second in
    let high : p ≤ c.args.lead * 0x1000000 + 0xFEFFFF = lies_to c.args.lead p at second in
    c.passes_between.ensures passed p (omega arith) (omega arith)
