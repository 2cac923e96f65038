-- The bytes before the lines were pushed, then all lines, and what was left of them in the chunk was written.
use Rattle.std.proofs.Common.{◌++◌, [], List, ℕ, subst}
use Rattle.std.proofs.KnownBytes.{Appends-kept}
use Rattle.line_sorts.proofs.ChunkLemmas.{advances_more, advances_stops, advances_then, all_written, kept_stops, on_err_any, on_ok_any, part_written, stops_more}
use Rattle.line_sorts.specs.OrderedTexts.{ordered_text_at}
use Rattle.line_sorts.specs.inner.Chunks.{Advances, StopsAmid}
use Rattle.line_sorts.proofs.written_lines.write_lines.Given as given
use Rattle.line_sorts.proofs.written_lines.write_lines.Goals as goal

pub returns-in_err-push_bytes-clause-err : goal.returns-in_err-push_bytes-clause-err
returns-in_err-push_bytes-clause-err g c =
    let text = ordered_text_at c.args.keyed.now c.args.places.now c.args.request in
    let head = c.args.head.now in
    let old = g.W.Write.contents c.args.output.now in
    let new = g.W.Write.contents c.push_bytes.new.output in
    let stops : StopsAmid old head new = subst (λ (l : List ℕ). StopsAmid old (l ++ head) new) c.clear.ensures.items c.in_err-push_bytes.ensures in
    on_err_any c.from_residual.result (part_written old new (head ++ text) (stops_more old new head text stops))

pub returns-in_err-push_lines-clause-err : goal.returns-in_err-push_lines-clause-err
returns-in_err-push_lines-clause-err g c =
    let text = ordered_text_at c.args.keyed.now c.args.places.now c.args.request in
    let head = c.args.head.now in
    let old = g.W.Write.contents c.args.output.now in
    let mid = g.W.Write.contents c.push_bytes.new.output in
    let new = g.W.Write.contents c.push_lines.new.output in
    let some = c.push_bytes.new.chunk.items in
    let headed : Advances old head mid some = subst (λ (l : List ℕ). Advances old (l ++ head) mid some) c.clear.ensures.items c.in_ok-push_bytes.ensures in
    on_err_any c.from_residual-in_err-push_lines.result
    (part_written old new (head ++ text)
    (advances_stops old mid new (head ++ text) (some ++ text) (advances_more old mid head some text headed) c.in_err-push_lines.ensures))

pub returns-in_err-write_chunk-clause-err : goal.returns-in_err-write_chunk-clause-err
returns-in_err-write_chunk-clause-err g c =
    let text = ordered_text_at c.args.keyed.now c.args.places.now c.args.request in
    let head = c.args.head.now in
    let old = g.W.Write.contents c.args.output.now in
    let mid = g.W.Write.contents c.push_bytes.new.output in
    let then = g.W.Write.contents c.push_lines.new.output in
    let new = g.W.Write.contents c.write_chunk.new.output in
    let some = c.push_bytes.new.chunk.items in
    let chunk = c.push_lines.new.chunk.items in
    let headed : Advances old head mid some = subst (λ (l : List ℕ). Advances old (l ++ head) mid some) c.clear.ensures.items c.in_ok-push_bytes.ensures in
    let pushed = advances_then old mid then (head ++ text) (some ++ text) chunk (advances_more old mid head some text headed) c.in_ok-push_lines.ensures in
    on_err_any c.from_residual-in_err-write_chunk.result
    (part_written old new (head ++ text) (advances_stops old then new (head ++ text) chunk pushed c.in_err-write_chunk.ensures.bytes))

written : (g : given.Over) (c : goal.After-flush g)
    → Advances (g.W.Write.contents c.args.output.now) (c.args.head.now ++ ordered_text_at c.args.keyed.now c.args.places.now c.args.request)
    (g.W.Write.contents c.write_chunk.new.output) []
written g c =
    let text = ordered_text_at c.args.keyed.now c.args.places.now c.args.request in
    let head = c.args.head.now in
    let old = g.W.Write.contents c.args.output.now in
    let mid = g.W.Write.contents c.push_bytes.new.output in
    let then = g.W.Write.contents c.push_lines.new.output in
    let new = g.W.Write.contents c.write_chunk.new.output in
    let some = c.push_bytes.new.chunk.items in
    let chunk = c.push_lines.new.chunk.items in
    let headed : Advances old head mid some = subst (λ (l : List ℕ). Advances old (l ++ head) mid some) c.clear.ensures.items c.in_ok-push_bytes.ensures in
    let pushed = advances_then old mid then (head ++ text) (some ++ text) chunk (advances_more old mid head some text headed) c.in_ok-push_lines.ensures in
    advances_then old then new (head ++ text) chunk [] pushed c.in_ok-write_chunk.ensures.bytes

pub returns-clause-ok : goal.returns-clause-ok
returns-clause-ok g c =
    on_ok_any c.flush.result (Appends-kept _ _ _ _ (all_written _ _ _ (written g c)) c.flush.ensures.bytes)

pub returns-clause-err : goal.returns-clause-err
returns-clause-err g c =
    on_err_any c.flush.result (part_written _ _ _ (advances_stops _ _ _ _ [] (written g c) (kept_stops _ _ [] c.flush.ensures.bytes)))
