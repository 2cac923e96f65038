-- The next line, and then those that are left.
use Rattle.std.proofs.Common.{◌++◌, ◌+◌, List, ℕ, arith, drop, get_or, subst, sym}
use Rattle.std.proofs.lemmas.List.{at_drop_all}
use Rattle.line_sorts.proofs.ChunkLemmas.{advances_front, advances_last, advances_stops, advances_then, handed_on, stops_front}
use Rattle.line_sorts.proofs.WrittenLineLemmas.{behind_next, behind_text}
use Rattle.line_sorts.specs.FirstLines.{unrepeated}
use Rattle.line_sorts.specs.KeyBuffers.{place_pair, view_of}
use Rattle.line_sorts.specs.declared.line_places.LinePlace.{LinePlace}
use Rattle.line_sorts.specs.inner.Chunks.{Advances, StopsAmid}
use Rattle.line_sorts.proofs.written_lines.write_firsts_behind.Goals as goal

pub returns-in_err-write_other : goal.returns-in_err-write_other
returns-in_err-write_other g c =
    let k = view_of c.args.keyed.now in
    let s = c.args.separator in
    let places = c.args.places.now in
    let i = c.loop-place.place-index in
    let none : LinePlace = record { front = 0; index = 0 } in
    let before = place_pair k c.loop-place.before in
    let place = place_pair k (get_or places i none) in
    let chunk = c.loop-place.chunk.items in
    let stops =
    stops_front (g.W.Write.contents c.loop-place.output) (g.W.Write.contents c.write_other.new.output) chunk (unrepeated s before place)
    (behind_text s k place (drop (i + 1) places)) c.in_err-write_other.ensures in
    handed_on _ c.from_residual.result _ _ _ _ c.from_residual.ensures.1
    (advances_stops _ _ _ _ _ c.loop-place.invariant
    (subst (λ (l : List ℕ). StopsAmid (g.W.Write.contents c.loop-place.output) (chunk ++ l) (g.W.Write.contents c.write_other.new.output))
    (sym (behind_next s k before places i none (omega arith))) stops))

pub loop-place-preserved : goal.loop-place-preserved
loop-place-preserved g c =
    let k = view_of c.args.keyed.now in
    let s = c.args.separator in
    let places = c.args.places.now in
    let i = c.loop-place.place-index in
    let none : LinePlace = record { front = 0; index = 0 } in
    let before = place_pair k c.loop-place.before in
    let place = place_pair k (get_or places i none) in
    let chunk = c.loop-place.chunk.items in
    let left = behind_text s k place (drop (i + 1) places) in
    let advances =
    advances_front (g.W.Write.contents c.loop-place.output) (g.W.Write.contents c.write_other.new.output) chunk (unrepeated s before place) left
    c.write_other.new.chunk.items c.in_ok-write_other.ensures in
    advances_then _ _ _ _ _ _ c.loop-place.invariant
    (subst (λ (l : List ℕ). Advances (g.W.Write.contents c.loop-place.output) (chunk ++ l) (g.W.Write.contents c.write_other.new.output) (c.write_other.new.chunk.items ++ left))
    (sym (behind_next s k before places i none (omega arith))) advances)

pub returns : goal.returns
returns g c =
    let k = view_of c.args.keyed.now in
    let s = c.args.separator in
    advances_last _ _ _ _ _ (at_drop_all (behind_text s k (place_pair k c.loop-place.before)) c.args.places.now c.loop-place.place-index (omega arith))
    c.loop-place.invariant
