-- What has to be opened to compute the worked rows of search.
use Rattle.ucd_normal.specs.QuickCheck.{quick_check}
use Rattle.icu_order_texts.proofs.Computing.{icu_text_order}
use Rattle.icu_search_places.specs.LeastMatches.{shortest_from, narrowed, least_from, apart_from}
use Rattle.icu_search_places.specs.SearchPlaces.{rests_along}

-- `unfolding icu_search_places` lets `refl` compute what is found in short texts
unfoldable pub icu_search : Unit {0}
unfolding icu_text_order quick_check shortest_from narrowed least_from apart_from rests_along
icu_search = tt
