-- What was taken before, and then what the next write took.
use Rattle.std.proofs.Common.{[], subst, sym}
use Rattle.std.proofs.lemmas.List.{take_rest}
use Rattle.line_sorts.proofs.ChunkLemmas.{advances_stops, advances_then, handed_on, kept_stops, stops_here, takes}
use Rattle.line_sorts.specs.inner.Chunks.{Advances}
use Rattle.line_sorts.proofs.chunks.write_out.Goals as goal

pub writing-preserved : goal.writing-preserved
writing-preserved g c =
    subst (Advances (g.W.Write.contents c.args.output.now) c.args.bytes.now (g.W.Write.contents c.write_some.new.output))
    (sym (take_rest c.writing.left.now c.in_ok-written.written))
    (advances_then _ _ _ _ _ _ c.writing.invariant (takes _ _ _ c.in_ok-written.written c.in_ok-written.ensures.bound c.in_ok-written.ensures.bytes))

pub returns-in_err-written : goal.returns-in_err-written
returns-in_err-written g c =
    let stops =
    advances_stops (g.W.Write.contents c.args.output.now) (g.W.Write.contents c.writing.output) (g.W.Write.contents c.write_some.new.output)
    c.args.bytes.now c.writing.left.now c.writing.invariant (kept_stops _ _ c.writing.left.now c.in_err-written.ensures.bytes) in
    handed_on _ c.from_residual.result _ _ _ [] c.from_residual.ensures.1 stops

pub returns : goal.returns
returns g c = advances_stops _ _ _ _ _ c.writing.invariant (stops_here _ c.writing.left.now)
