-- Those of the lines that are left stand behind the chunk.
use Rattle.std.proofs.Common.{◌++◌, drop, map}
use Rattle.line_sorts.specs.FirstLines.{firsts_behind, have_one_key}
use Rattle.line_sorts.specs.InputLines.{ended_lines}
use Rattle.line_sorts.specs.KeyBuffers.{line_bytes, place_pair, pairs_at, view_of}
use Rattle.line_sorts.specs.inner.Chunks.{Advances}
use Rattle.line_sorts.proofs.written_lines.write_firsts_behind.Given as goal

abbrev pub invariant-loop-place : goal.invariant-loop-place
invariant-loop-place g l =
    Advances (g.W.Write.contents l.initial.output)
    (l.initial.chunk.items ++ ended_lines l.separator (map line_bytes (firsts_behind have_one_key (place_pair (view_of l.keyed) l.initial.before) (pairs_at (view_of l.keyed) l.places))))
    (g.W.Write.contents l.output)
    (l.chunk.items ++ ended_lines l.separator (map line_bytes (firsts_behind have_one_key (place_pair (view_of l.keyed) l.before) (pairs_at (view_of l.keyed) (drop l.place-index l.places)))))
