-- The matches so far, and then those to come, are all.
use Rattle.std.proofs.Common.{◌≡◌, ◌++◌, length, map}
use Rattle.icu_search_places.specs.Searches.{found}
use Rattle.icu_search.specs.MatchesLeft.{matches_left}
use Rattle.icu_search.specs.SearchedTexts.{offsets_searched, searched_in, text_searched}
use Rattle.icu_search.specs.TextOffsets.{match_in_units}
use Rattle.line_searches.proofs.line_matches.all_matches.Given as goal

abbrev pub invariant-matches : goal.invariant-matches
invariant-matches l =
    l.list.items ++ matches_left l.found ≡ map (match_in_units (offsets_searched l.text)) (found (searched_in l.text) (text_searched l.text))

abbrev pub decreases-matches : goal.decreases-matches
decreases-matches l = length (matches_left l.found)
