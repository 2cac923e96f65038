-- The writer took the bytes but for those left.
use Rattle.line_sorts.specs.inner.Chunks.{Advances}
use Rattle.line_sorts.proofs.chunks.write_out.Given as goal

abbrev pub invariant-writing : goal.invariant-writing
invariant-writing g l = Advances (g.W.Write.contents l.fn.output) l.bytes (g.W.Write.contents l.output) l.left
