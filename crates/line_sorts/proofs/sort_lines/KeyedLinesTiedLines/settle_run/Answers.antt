-- What is sorted by the second numbers is sorted by the keys.
use Rattle.std.proofs.Common.{List, ◌∙◌, subst, sym}
use Rattle.line_sorts.proofs.SettledLemmas.{sorted_run}
use Rattle.line_sorts.specs.KeyBuffers.{view_of}
use Rattle.line_sorts.specs.declared.line_places.LinePlace.{LinePlace}
use Rattle.line_sorts.specs.inner.SettledPlaces.{Settles}
use Rattle.line_sorts.proofs.sort_lines.KeyedLinesTiedLines.settle_run.Goals as goal

pub returns-clause-settles : goal.returns-clause-settles
returns-clause-settles c =
    let k = view_of c.args.self.now in
    let o = c.args.order in
    let run = c.args.run.now in
    let ys : List LinePlace = c.sort_places.new.places.items in
    subst (λ (ps : List LinePlace). Settles k o run ps) (sym (c.copy_from_slice.ensures.after ∙ c.as_slice.ensures.value))
    (sorted_run k o c.requires.0 run c.fill_seconds.new.seconds.items ys c.requires.1 c.in_ok-fill_seconds.ensures.seconds c.in_ok-fill_seconds.ensures.bytes
    c.sort_places.ensures.permutation c.in_ok-sort_places.ensures.sorted c.sort_places.ensures.stable)
