-- The next line, and then those that are left.
use Rattle.std.proofs.Common.{◌++◌, ◌+◌, ◌∷◌, [], List, ℕ, arith, drop, get_or, subst, sym}
use Rattle.std.proofs.lemmas.List.{at_drop_all}
use Rattle.line_sorts.proofs.ChunkLemmas.{advances_front, advances_last, advances_more, advances_stops, advances_then, handed_on, stops_front, stops_more}
use Rattle.line_sorts.proofs.WrittenLineLemmas.{each_next, each_text}
use Rattle.line_sorts.specs.KeyBuffers.{line_bytes, place_pair, view_of}
use Rattle.line_sorts.specs.declared.line_places.LinePlace.{LinePlace}
use Rattle.line_sorts.specs.inner.Chunks.{Advances, StopsAmid}
use Rattle.line_sorts.proofs.written_lines.write_each.Goals as goal

pub returns-in_err-look_ahead : goal.returns-in_err-look_ahead
returns-in_err-look_ahead g c =
    let left = each_text c.args.separator (view_of c.args.keyed.now) (drop c.loop-place.place-index c.args.places.now) in
    handed_on _ c.from_residual.result _ _ _ c.look_ahead.new.chunk.items c.from_residual.ensures.1
    (advances_stops _ _ _ _ _ c.loop-place.invariant (stops_more _ _ c.loop-place.chunk.items left c.in_err-look_ahead.ensures))

pub returns-in_err-write_line : goal.returns-in_err-write_line
returns-in_err-write_line g c =
    let k = view_of c.args.keyed.now in
    let s = c.args.separator in
    let places = c.args.places.now in
    let i = c.loop-place.place-index in
    let none : LinePlace = record { front = 0; index = 0 } in
    let mid = g.W.Write.contents c.look_ahead.new.output in
    let new = g.W.Write.contents c.write_line.new.output in
    let chunk = c.look_ahead.new.chunk.items in
    let left = each_text s k (drop (i + 1) places) in
    let line = line_bytes (place_pair k (get_or places i none)) in
    let stops : StopsAmid mid (chunk ++ (line ++ s ∷ [])) new = subst (λ (l : List ℕ). StopsAmid mid (chunk ++ (l ++ s ∷ [])) new) c.line.ensures c.in_err-write_line.ensures in
    let further : StopsAmid mid (chunk ++ each_text s k (drop i places)) new =
    subst (λ (l : List ℕ). StopsAmid mid (chunk ++ l) new) (sym (each_next s k places i none (omega arith))) (stops_front mid new chunk (line ++ s ∷ []) left stops) in
    let ahead = advances_more (g.W.Write.contents c.loop-place.output) mid c.loop-place.chunk.items chunk (each_text s k (drop i places)) c.in_ok-look_ahead.ensures in
    handed_on _ c.from_residual-in_err-write_line.result _ _ _ c.write_line.new.chunk.items c.from_residual-in_err-write_line.ensures.1
    (advances_stops _ _ _ _ _ c.loop-place.invariant (advances_stops _ _ _ _ _ ahead further))

pub loop-place-preserved : goal.loop-place-preserved
loop-place-preserved g c =
    let k = view_of c.args.keyed.now in
    let s = c.args.separator in
    let places = c.args.places.now in
    let i = c.loop-place.place-index in
    let none : LinePlace = record { front = 0; index = 0 } in
    let mid = g.W.Write.contents c.look_ahead.new.output in
    let new = g.W.Write.contents c.write_line.new.output in
    let chunk = c.look_ahead.new.chunk.items in
    let last = c.write_line.new.chunk.items in
    let left = each_text s k (drop (i + 1) places) in
    let line = line_bytes (place_pair k (get_or places i none)) in
    let advances : Advances mid (chunk ++ (line ++ s ∷ [])) new last =
    subst (λ (l : List ℕ). Advances mid (chunk ++ (l ++ s ∷ [])) new last) c.line.ensures c.in_ok-write_line.ensures in
    let further : Advances mid (chunk ++ each_text s k (drop i places)) new (last ++ left) =
    subst (λ (l : List ℕ). Advances mid (chunk ++ l) new (last ++ left)) (sym (each_next s k places i none (omega arith)))
    (advances_front mid new chunk (line ++ s ∷ []) left last advances) in
    let ahead = advances_more (g.W.Write.contents c.loop-place.output) mid c.loop-place.chunk.items chunk (each_text s k (drop i places)) c.in_ok-look_ahead.ensures in
    advances_then _ _ _ _ _ _ c.loop-place.invariant (advances_then _ _ _ _ _ _ ahead further)

pub returns : goal.returns
returns g c =
    advances_last _ _ _ _ _ (at_drop_all (each_text c.args.separator (view_of c.args.keyed.now)) c.args.places.now c.loop-place.place-index (omega arith)) c.loop-place.invariant
