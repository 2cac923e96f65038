-- What is sorted by keys that places have is sorted by the keys.
use Rattle.std.proofs.Common.{◌∙◌, ap, map, refl}
use Rattle.line_sorts.proofs.KeyedPlaceLemmas.{keyed_run}
use Rattle.line_sorts.specs.KeyBuffers.{view_by}
use Rattle.line_sorts.specs.ShownLines.{shown_lines}
use Rattle.line_sorts.proofs.keyed_runs.settle_by_keys.Goals as goal

pub returns-clause-settles : goal.returns-clause-settles
returns-clause-settles g c =
    let lines = shown_lines c.args.keyed.now.lines.now in
    keyed_run (view_by (g.C.LineComparer.key_of c.args.comparer.now) lines) c.args.order lines (λ i. refl)
    c.args.run.now c.put_places.new.run c.in_ok-places.places.items c.sort_keyed.new.places.items
    c.in_ok-places.ensures.places (c.put_places.ensures ∙ ap (map (λ it. it.place)) c.as_slice.ensures.value) c.in_ok-places.ensures.keys
    c.sort_keyed.ensures.permutation c.in_ok-sort_keyed.ensures.sorted c.sort_keyed.ensures.stable
