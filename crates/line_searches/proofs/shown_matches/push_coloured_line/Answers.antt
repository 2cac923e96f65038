-- What stands before the next match, and that match, go before what is left.
use Rattle.std.proofs.Common.{ℕ, List, ◌+◌, ◌++◌, ◌∷◌, ◌∙◌, ap, sym, drop, append_assoc}
use Rattle.std.proofs.Math.ListN.{drop_of_length-le}
use Rattle.std.proofs.lemmas.List.{drop_more}
use Rattle.icu_search_places.specs.LeastMatches.{Span}
use Rattle.line_searches.specs.ShownMatches.{coloured_from, next_coloured}
use Rattle.line_searches.proofs.shown_matches.push_coloured_line.Goals as goal

pub loop-next-preserved : goal.loop-next-preserved
loop-next-preserved c =
    let line = c.args.line.now in
    let matches = c.args.matches.now in
    let i = c.loop-next.next-index in
    let m = c.next-item.result in
    let rest = drop (i + 1) matches in
    ap (λ s. c.push_next.new.text.items ++ coloured_from line s rest) c.end-at.ensures
    ∙ ap (λ (t : List ℕ). t ++ coloured_from line m.stop rest) c.in_ok-push_next.ensures
    ∙ append_assoc c.loop-next.text.items (next_coloured line c.loop-next.at m) (coloured_from line m.stop rest)
    ∙ ap (λ (ms : List Span). c.loop-next.text.items ++ coloured_from line c.loop-next.at ms) (sym (drop_more matches i m c.loop-next-test.true ∙ ap (λ x. x ∷ rest) (sym c.next-item.is)))
    ∙ c.loop-next.invariant

pub returns : goal.returns
returns c =
    let line = c.args.line.now in
    let matches = c.args.matches.now in
    let none = drop_of_length-le matches c.loop-next-test.false in
    c.in_ok-extend_from_slice.ensures.items
    ∙ ap (λ (l : List ℕ). c.loop-next.text.items ++ l) c.bytes_from.ensures
    ∙ ap (λ (ms : List Span). c.loop-next.text.items ++ coloured_from line c.loop-next.at ms) (sym none)
    ∙ c.loop-next.invariant
