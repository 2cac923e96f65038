-- What was found so far, and then what the patterns that are left find, is all.
use Rattle.std.proofs.Common.{◌≡◌, [], chars, drop, map}
use Rattle.icu_search.specs.Searchers.{search_of}
use Rattle.line_searches.specs.LineSearches.{found_more}
use Rattle.line_searches.proofs.line_matches.matches_of_patterns.Given as goal

abbrev pub invariant-loop-searcher : goal.invariant-loop-searcher
invariant-loop-searcher l =
    let t = chars l.text in
    found_more l.kind t l.text l.all.items (map search_of (drop l.searcher-index l.searchers))
    ≡ found_more l.kind t l.text [] (map search_of l.searchers)
