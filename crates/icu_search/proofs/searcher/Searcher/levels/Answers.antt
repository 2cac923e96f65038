use Rattle.std.proofs.Common.{◌≡◌, ℕ, List, sym, subst}
use Rattle.icu_order_texts.specs.weighting.Collations.{Collation}
use Rattle.icu_search.specs.Searchers.{search_of}
use Rattle.icu_search.specs.inner.PartLevels.{AreLevelsOf}
use Rattle.icu_search.proofs.searcher.Searcher.levels.Goals as goal

pub returns : goal.returns
returns c = λ s collation pattern.
    let own = search_of c.args.self.now in
    let p = c.args.self.now.levels in
    c.walk.ensures s
    (subst (λ (x : Collation). AreLevelsOf x s.pattern p) (sym collation) (subst (λ (text : List ℕ). AreLevelsOf own.collation text p) (sym pattern) c.args.self.now.levels_are))
