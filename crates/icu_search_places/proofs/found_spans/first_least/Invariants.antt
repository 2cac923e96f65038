use Rattle.std.proofs.Common.{◌≡◌, ◌+◌, ◌-◌}
use Rattle.icu_search_places.specs.KnownParts.{SaysKnown}
use Rattle.icu_search_places.specs.Selections.{first_span, found_from}
use Rattle.icu_search_places.specs.inner.HeldSpans.{joined_to_held}
use Rattle.icu_search_places.proofs.SelectionLemmas.{least_to}
use Rattle.icu_search_places.proofs.found_spans.first_least.Given as goal

-- the one that is held and the first least one from here on make the first that is found
abbrev pub invariant-starts : goal.invariant-starts
invariant-starts g l =
    SaysKnown (g.M.MatchEnds.is_barren l.ends) (g.M.MatchEnds.is_run l.ends) l.known
    × (joined_to_held l.held (first_span (least_to (g.M.MatchEnds.matches l.ends) (g.M.MatchEnds.char_len l.ends) l.start))
    ≡ first_span (found_from (g.M.MatchEnds.matches l.ends) (g.M.MatchEnds.char_len l.ends) l.fn.offset))

abbrev pub decreases-starts : goal.decreases-starts
decreases-starts g l = g.M.MatchEnds.char_len l.ends + 1 - l.start
