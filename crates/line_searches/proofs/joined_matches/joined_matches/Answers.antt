-- One of the lists has ended, and the other one is left.
use Rattle.std.proofs.Common.{◌≡◌, ◌∙◌, ◌++◌, List, ap, append_assoc, drop}
use Rattle.std.proofs.Math.ListN.{drop_of_length-le}
use Rattle.line_searches.proofs.JoinedMatchLemmas.{first_ended, second_ended}
use Rattle.line_searches.specs.JoinedMatches.{matches_joined}
use Rattle.icu_search_places.specs.LeastMatches.{Span}
use Rattle.line_searches.proofs.joined_matches.joined_matches.Goals.{then-matches-test+else-j-other, else-matches-test}
use Rattle.line_searches.proofs.joined_matches.joined_matches.Goals as goal

pub returns : goal.returns
returns c =
    let one = drop c.matches.i c.args.one.now in
    let other = drop c.matches.j c.args.other.now in
    let list = c.matches.list.items in
    let end : one ++ other ≡ matches_joined one other = elim c.matches-test.branch [
      | then-matches-test+else-j-other w ↦ second_ended one other (drop_of_length-le c.args.other.now w.if-j-other.false)
      | else-matches-test w ↦ first_ended one other (drop_of_length-le c.args.one.now w.matches-test.false)
    ] in
    c.in_ok-extend_from_slice-2.ensures.items
    ∙ (ap (λ (l : List Span). c.extend_from_slice.new.self.items ++ l) c.matches_from-2.ensures
    ∙ (ap (λ (l : List Span). l ++ other) (c.in_ok-extend_from_slice.ensures.items ∙ ap (λ (l : List Span). list ++ l) c.matches_from.ensures)
    ∙ (append_assoc list one other ∙ (ap (λ (l : List Span). list ++ l) end ∙ c.matches.invariant.whole))))
