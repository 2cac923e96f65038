-- The chunk was written, and then the bytes behind it.
use Rattle.std.proofs.Common.{◌++◌, [], subst, sym}
use Rattle.line_sorts.proofs.ChunkLemmas.{advances_more, handed_on, proceeds_then, stops_more}
use Rattle.line_sorts.specs.inner.Chunks.{Proceeds}
use Rattle.line_sorts.proofs.chunks.push_behind.Goals as goal

pub returns-in_err-write_chunk : goal.returns-in_err-write_chunk
returns-in_err-write_chunk g c =
    handed_on _ c.from_residual.result _ _ _ c.write_chunk.new.chunk.items c.from_residual.ensures.1
    (stops_more _ _ c.args.chunk.now.items c.args.bytes.now c.in_err-write_chunk.ensures.bytes)

pub returns : goal.returns
returns g c =
    let old = g.W.Write.contents c.args.output.now in
    let mid = g.W.Write.contents c.write_chunk.new.output in
    let new = g.W.Write.contents c.write_out.new.output in
    let chunk = c.args.chunk.now.items in
    let bytes = c.args.bytes.now in
    subst (Proceeds c.write_out.result old (chunk ++ bytes) new) (sym c.in_ok-write_chunk.ensures.empty)
    (proceeds_then c.write_out.result old mid new (chunk ++ bytes) bytes [] (advances_more old mid chunk [] bytes c.in_ok-write_chunk.ensures.bytes) c.write_out.ensures)
