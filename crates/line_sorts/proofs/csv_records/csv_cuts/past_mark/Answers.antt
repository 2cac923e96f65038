-- With the mark and without it.
use Rattle.std.proofs.Common.{◌∙◌, sym}
use Rattle.line_sorts.proofs.csv_records.RecordCutLemmas.{marked, short_unmarked, unmarked}
use Rattle.line_sorts.proofs.csv_records.csv_cuts.past_mark.Goals as goal

pub returns-in_default : goal.returns-in_default
returns-in_default c = short_unmarked c.args.text.now c.in_default.len_below

pub returns-then-is_mark : goal.returns-then-is_mark
returns-then-is_mark c = marked c.args.text.now c.in-len3-up.len_at_least (sym c.is_mark.ensures ∙ c.if-is_mark.true)

pub returns-else-is_mark : goal.returns-else-is_mark
returns-else-is_mark c = unmarked c.args.text.now c.in-len3-up.len_at_least (sym c.is_mark.ensures ∙ c.if-is_mark.false)
