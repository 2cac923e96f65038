-- Places of lines are sorted as the lines are, and the lines at them are to be written.
use Rattle.std.proofs.Common.{◌≡◌, ℕ, List, map, ap, ◌∙◌, subst}
use Rattle.std.specs.List.{zip}
use Rattle.std.specs.List.Sorted.{IsPermutation, IsStable}
use Rattle.line_sorts.proofs.FirstLineLemmas.{printed_as}
use Rattle.line_sorts.proofs.SortedLineLemmas.{keyed_still, lines_ascend, lines_moved, lines_stable}
use Rattle.line_sorts.specs.InputLines.{ended_lines}
use Rattle.line_sorts.specs.KeyBuffers.{line_bytes, pairs_at, view_of}
use Rattle.line_sorts.specs.KeyedOrders.{keyed_order}
use Rattle.line_sorts.specs.ShownLines.{shown_lines}
use Rattle.line_sorts.specs.declared.keyed_lines.KeyedLines.{KeyedLines}
use Rattle.line_sorts.proofs.ordered_lines.OrderedLines.new.Goals as goal

pub returns : goal.returns
returns c = λ key h.
    let k : KeyedLines = record { keys = c.args.keys; lines = c.args.lines } in
    let lines = shown_lines c.args.lines.now in
    let r = c.args.request in
    let o = r.order in
    let sorted = pairs_at (view_of k) c.in_ok-places.places.items in
    let all : pairs_at (view_of k) c.in_ok-unsorted.unsorted.items ≡ zip (map key lines) lines = c.in_ok-unsorted.ensures.all ∙ ap (λ ks. zip ks lines) h in
    let moved : IsPermutation (zip (map key lines) lines) sorted =
    subst (λ (ps : List (List ℕ × List ℕ)). IsPermutation ps sorted) all c.in_ok-places.ensures.permutation in
    let stable : IsStable (keyed_order o) (zip (map key lines) lines) sorted =
    subst (λ (ps : List (List ℕ × List ℕ)). IsStable (keyed_order o) ps sorted) all c.in_ok-places.ensures.stable in
    record {
      sorted = map line_bytes sorted;
      permutation = lines_moved key o lines sorted moved;
      ascends = lines_ascend key o lines sorted moved c.in_ok-places.ensures.sorted;
      stable = lines_stable key o lines sorted moved stable;
      written = ap (ended_lines r.separator) (printed_as key r.repeats sorted (keyed_still key o lines sorted moved));
    }
