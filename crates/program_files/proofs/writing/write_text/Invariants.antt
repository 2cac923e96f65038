-- What was taken so far stands in the writer.
use Rattle.std.proofs.Common.{◌≤◌, take, length}
use Rattle.std.specs.Io.KnownBytes.{Appends}
use Rattle.program_files.proofs.writing.write_text.Given as goal

abbrev pub invariant-writing : goal.invariant-writing
invariant-writing g l = record {
  within : l.done ≤ length l.text;
  taken : Appends (g.W.Write.contents l.fn.writer) (g.W.Write.contents l.writer) (take l.done l.text);
}
