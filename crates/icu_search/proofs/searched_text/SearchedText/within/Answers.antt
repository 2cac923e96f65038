use Rattle.std.proofs.Common.{ℕ, List, ap}
use Rattle.icu_search.specs.Searchers.{search_within}
use Rattle.icu_search.specs.SearchedTexts.{offsets_searched, searched_in}
use Rattle.icu_search.proofs.searched_text.SearchedText.within.Goals as goal

pub returns-clause-search : goal.returns-clause-search
returns-clause-search c =
    ap (λ (set : List ℕ). search_within (searched_in c.args.self) (offsets_searched c.args.self) set) c.in_ok-set.ensures.items
