-- What was taken before, and then what the next write took.
use Rattle.program_files.proofs.WritingLemmas.{Appends_further, within_more}
use Rattle.program_files.proofs.writing.write_text.Goals as goal

pub writing-preserved : goal.writing-preserved
writing-preserved g c = record {
  within = within_more c.args.text.now c.writing.done c.in_ok-done.field-0 c.writing.invariant.within c.in_ok-done.ensures.bound;
  taken =
      Appends_further _ _ _ c.args.text.now c.writing.done c.in_ok-done.field-0 c.writing.invariant.within c.writing.invariant.taken
      c.in_ok-done.ensures.bytes;
}
