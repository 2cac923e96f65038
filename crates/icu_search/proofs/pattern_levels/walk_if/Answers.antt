use Rattle.icu_search.proofs.pattern_levels.walk_if.Goals as goal

pub returns-then-counts-clause-walked : goal.returns-then-counts-clause-walked
returns-then-counts-clause-walked c = λ es _ before. c.walk.ensures.walked es before
