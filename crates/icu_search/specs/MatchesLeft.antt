-- What an iterator of matches still gives.
use Rattle.std.specs.Prelude.{Bool, is_some, List, map}
use Rattle.icu_search_places.specs.LeastMatches.{Span, least_matches}
use Rattle.icu_search_places.specs.SpansLeft.{spans_left}
use Rattle.icu_search.specs.declared.found_matches.FoundMatches.{FoundMatches}
use Rattle.icu_search.specs.declared.overlapping_matches.OverlappingMatches.{OverlappingMatches}
use Rattle.icu_search.specs.OverlappingMatches.{beginning_at}
use Rattle.icu_search.specs.SearchedTexts.{char_len_in, matches_in, offsets_searched}
use Rattle.icu_search.specs.TextOffsets.{match_in_units}

-- the matches that it hasn't given, by their units
abbrev pub matches_left : FoundMatches → List Span
matches_left f = map (match_in_units (offsets_searched f.text.now)) (spans_left matches_in char_len_in f.spans)

-- the least matches that it hasn't given, by their units
abbrev pub overlapping_left : OverlappingMatches → List Span
overlapping_left f =
    map (match_in_units (offsets_searched f.text.now))
    (beginning_at f.start (least_matches (matches_in f.text.now) (char_len_in f.text.now)))

-- an allocation failed, so that each further call fails
abbrev pub has_failed : FoundMatches → Bool
has_failed f = is_some f.failed

-- an allocation failed of one that gives least matches, so that each further call fails
abbrev pub overlapping_failed : OverlappingMatches → Bool
overlapping_failed f = is_some f.failed
