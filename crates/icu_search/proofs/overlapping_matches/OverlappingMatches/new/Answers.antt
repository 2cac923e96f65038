use Rattle.std.proofs.Common.{List, map, ap}
use Rattle.icu_search_places.specs.LeastMatches.{Span}
use Rattle.icu_search_places.specs.Searches.{least}
use Rattle.icu_search.specs.SearchedTexts.{offsets_searched, searched_in, text_searched}
use Rattle.icu_search.specs.TextOffsets.{match_in_units}
use Rattle.icu_search.proofs.OverlappingLemmas.{all_begin}
use Rattle.icu_search.proofs.overlapping_matches.OverlappingMatches.new.Goals as goal

pub returns-clause-all : goal.returns-clause-all
returns-clause-all c =
    let t = c.args.text.now in
    ap (λ (l : List Span). map (match_in_units (offsets_searched t)) l) (all_begin (least (searched_in t) (text_searched t)))
