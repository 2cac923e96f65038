-- Places of lines are sorted as the lines are, and the lines at them are to be written.
use Rattle.std.proofs.Common.{◌≡◌, ℕ, List, ap, map, sym, ◌∙◌, subst}
use Rattle.std.specs.List.{AllByRecursion, zip}
use Rattle.std.specs.List.Sorted.{IsPermutation, IsStable}
use Rattle.std.specs.Ordering.{is_eq}
use Rattle.line_sorts.proofs.ComparedLineLemmas.{all_written, numbered_pairs, numbered_right}
use Rattle.line_sorts.proofs.SortedLineLemmas.{lines_ascend, lines_moved, lines_stable}
use Rattle.line_sorts.specs.InputLines.{ended_lines}
use Rattle.line_sorts.specs.KeyBuffers.{line_bytes, pairs_at, view_by}
use Rattle.line_sorts.specs.KeyedOrders.{keyed_order}
use Rattle.line_sorts.specs.ShownLines.{shown_lines}
use Rattle.line_sorts.specs.SortedTexts.{by_key}
use Rattle.line_sorts.specs.declared.keyed_lines.KeyedLines.{KeyedLines}
use Rattle.line_sorts.specs.declared.line_places.LinePlace.{LinePlace}
use Rattle.line_sorts.specs.inner.PlaceOrders.{IsLinePlace}
use Rattle.line_sorts.proofs.ordered_lines.OrderedLines.by_fronts.Goals as goal

pub sorted_places-requires : goal.sorted_places-requires
sorted_places-requires g c =
    let key = g.C.LineComparer.key_of c.args.comparer.now in
    let lines = shown_lines c.args.lines.now in
    subst (λ (ps : List LinePlace). AllByRecursion (IsLinePlace (view_by key lines)) ps) (sym c.in_ok-unsorted.ensures) (numbered_right key lines c.args.fronts.now c.requires.fronts)

pub returns : goal.returns
returns g c =
    let k : KeyedLines = record { keys = c.args.no_keys; lines = c.args.lines } in
    let key = g.C.LineComparer.key_of c.args.comparer.now in
    let lines = shown_lines c.args.lines.now in
    let r = c.args.request in
    let o = r.order in
    let places = c.in_ok-places.places.items in
    let sorted = pairs_at (view_by key lines) places in
    let all : pairs_at (view_by key lines) c.in_ok-unsorted.unsorted.items ≡ zip (map key lines) lines =
    ap (pairs_at (view_by key lines)) c.in_ok-unsorted.ensures ∙ numbered_pairs key lines c.args.fronts.now c.requires.fronts in
    let moved : IsPermutation (zip (map key lines) lines) sorted =
    subst (λ (ps : List (List ℕ × List ℕ)). IsPermutation ps sorted) all c.in_ok-places.ensures.permutation in
    let stable : IsStable (keyed_order o) (zip (map key lines) lines) sorted =
    subst (λ (ps : List (List ℕ × List ℕ)). IsStable (keyed_order o) ps sorted) all c.in_ok-places.ensures.stable in
    record {
      sorted = map line_bytes sorted;
      permutation = lines_moved key o lines sorted moved;
      ascends = lines_ascend key o lines sorted moved c.in_ok-places.ensures.sorted;
      stable = lines_stable key o lines sorted moved stable;
      written = ap (ended_lines r.separator) (all_written key k (λ x y. is_eq (by_key key x y)) r.repeats places c.requires.all);
    }
