-- The lines that are left stand behind the chunk.
use Rattle.std.proofs.Common.{◌++◌, drop, map}
use Rattle.line_sorts.specs.InputLines.{ended_lines}
use Rattle.line_sorts.specs.KeyBuffers.{line_bytes, pairs_at, view_of}
use Rattle.line_sorts.specs.inner.Chunks.{Advances}
use Rattle.line_sorts.proofs.written_lines.write_each.Given as goal

abbrev pub invariant-loop-place : goal.invariant-loop-place
invariant-loop-place g l =
    Advances (g.W.Write.contents l.initial.output) (l.initial.chunk.items ++ ended_lines l.separator (map line_bytes (pairs_at (view_of l.keyed) l.places)))
    (g.W.Write.contents l.output) (l.chunk.items ++ ended_lines l.separator (map line_bytes (pairs_at (view_of l.keyed) (drop l.place-index l.places))))
