use Rattle.std.proofs.Common.{◌≡◌, ◌∷◌, Some, sym, ap, ◌∙◌}
use Rattle.icu_search_places.specs.Selections.{first_span, found_from}
use Rattle.icu_search_places.specs.SpansLeft.{spans_left}
use Rattle.icu_search_places.proofs.SelectionLemmas.{left_behind}
use Rattle.icu_search_places.proofs.found_spans.FoundSpans.next.Goals as goal

pub returns-in-Some-clause-gives : goal.returns-in-Some-clause-gives
unfolding spans_left
returns-in-Some-clause-gives g c =
    let it = c.args.self.now in
    let matches = g.M.MatchEnds.matches it.ends.now in
    let n = g.M.MatchEnds.char_len it.ends.now in
    let m = c.in-Some.m in
    let given : Some m ≡ first_span (found_from matches n it.offset) = cc (c.in_ok-m.ensures.least, c.in-Some.is) in
    left_behind matches n it.offset (Some m) given ∙ ap (λ o. m ∷ found_from matches n o) (sym c.behind-self.ensures)
