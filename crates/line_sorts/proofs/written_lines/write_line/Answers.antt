-- The line, and then the separator.
use Rattle.std.proofs.Common.{[], ◌∷◌}
use Rattle.line_sorts.proofs.ChunkLemmas.{handed_on, proceeds_twice, stops_front}
use Rattle.line_sorts.proofs.written_lines.write_line.Goals as goal

pub returns-in_err-push_bytes : goal.returns-in_err-push_bytes
returns-in_err-push_bytes g c =
    handed_on _ c.from_residual.result _ _ _ c.push_bytes.new.chunk.items c.from_residual.ensures.1
    (stops_front _ _ c.args.chunk.now.items c.args.line.now (c.args.separator ∷ []) c.in_err-push_bytes.ensures)

pub returns : goal.returns
returns g c =
    proceeds_twice c.push_bytes-2.result (g.W.Write.contents c.args.output.now) (g.W.Write.contents c.push_bytes.new.output)
    (g.W.Write.contents c.push_bytes-2.new.output) c.args.chunk.now.items c.args.line.now (c.args.separator ∷ []) c.push_bytes.new.chunk.items
    c.push_bytes-2.new.chunk.items c.in_ok-push_bytes.ensures c.push_bytes-2.ensures
