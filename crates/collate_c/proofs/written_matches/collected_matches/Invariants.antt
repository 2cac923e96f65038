-- The matches so far, and then those to come, are all.
use Rattle.std.proofs.Common.{◌≡◌, ◌++◌, length, map}
use Rattle.icu_search_places.specs.Searches.{found}
use Rattle.icu_search.specs.MatchesLeft.{matches_left}
use Rattle.icu_search.specs.SearchedTexts.{offsets_searched, searched_in, text_searched}
use Rattle.icu_search.specs.TextOffsets.{match_in_units}
use Rattle.collate_c.specs.FoundMatches.{as_match}
use Rattle.collate_c.proofs.written_matches.collected_matches.Given as goal

abbrev pub invariant-matches : goal.invariant-matches
invariant-matches l =
    l.list.items ++ map as_match (matches_left l.found)
    ≡ map as_match (map (match_in_units (offsets_searched l.text)) (found (searched_in l.text) (text_searched l.text)))

abbrev pub decreases-matches : goal.decreases-matches
decreases-matches l = length (matches_left l.found)
