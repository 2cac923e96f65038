-- The first line, and then those behind it.
use Rattle.std.proofs.Common.{◌++◌, ◌-◌, ◌∷◌, [], List, ℕ, drop, get_or, length, subst, sym, take, arith}
use Rattle.line_sorts.proofs.ChunkLemmas.{handed_on, proceeds_twice, stops_front}
use Rattle.line_sorts.proofs.WrittenLineLemmas.{behind_text, first_then}
use Rattle.line_sorts.specs.KeyBuffers.{line_bytes, place_pair, view_of}
use Rattle.line_sorts.specs.declared.line_places.LinePlace.{LinePlace}
use Rattle.line_sorts.specs.inner.Chunks.{Advances, Proceeds, StopsAmid}
use Rattle.line_sorts.proofs.written_lines.write_firsts.Goals as goal

pub returns-in_err-write_line : goal.returns-in_err-write_line
returns-in_err-write_line g c =
    let k = view_of c.args.keyed.now in
    let s = c.args.separator in
    let places = c.args.places.now in
    let none : LinePlace = record { front = 0; index = 0 } in
    let first = place_pair k (get_or places 0 none) in
    let old = g.W.Write.contents c.args.output.now in
    let new = g.W.Write.contents c.write_line.new.output in
    let chunk = c.args.chunk.now.items in
    let stops : StopsAmid old (chunk ++ (line_bytes first ++ s ∷ [])) new =
    subst (λ (l : List ℕ). StopsAmid old (chunk ++ (l ++ s ∷ [])) new) c.line.ensures c.in_err-write_line.ensures in
    handed_on _ c.from_residual.result _ _ _ c.write_line.new.chunk.items c.from_residual.ensures.1
    (subst (λ (l : List ℕ). StopsAmid old (chunk ++ l) new) (sym (first_then s k places none (omega (arith, c.in-len1-up.len_at_least))))
    (stops_front old new chunk (line_bytes first ++ s ∷ []) (behind_text s k first (take (length places - 1) (drop 1 places))) stops))

pub returns : goal.returns
returns g c =
    let k = view_of c.args.keyed.now in
    let s = c.args.separator in
    let places = c.args.places.now in
    let none : LinePlace = record { front = 0; index = 0 } in
    let first = place_pair k (get_or places 0 none) in
    let old = g.W.Write.contents c.args.output.now in
    let mid = g.W.Write.contents c.write_line.new.output in
    let new = g.W.Write.contents c.write_firsts_behind.new.output in
    let chunk = c.args.chunk.now.items in
    let some = c.write_line.new.chunk.items in
    let last = c.write_firsts_behind.new.chunk.items in
    let r = c.write_firsts_behind.result in
    let advances : Advances old (chunk ++ (line_bytes first ++ s ∷ [])) mid some =
    subst (λ (l : List ℕ). Advances old (chunk ++ (l ++ s ∷ [])) mid some) c.line.ensures c.in_ok-write_line.ensures in
    subst (λ (l : List ℕ). Proceeds r old (chunk ++ l) new last) (sym (first_then s k places none (omega (arith, c.in-len1-up.len_at_least))))
    (proceeds_twice r old mid new chunk (line_bytes first ++ s ∷ []) (behind_text s k first (take (length places - 1) (drop 1 places))) some last advances
    c.write_firsts_behind.ensures)
