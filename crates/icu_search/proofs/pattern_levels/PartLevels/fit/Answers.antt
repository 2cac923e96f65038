use Rattle.icu_search.proofs.pattern_levels.PartLevels.fit.Goals as goal

pub returns : goal.returns
returns c = λ s part gone.
    let first = c.joined-first.ensures s part (c.fit_at.ensures s part gone) (c.fit_at-2.ensures s part gone) in
    let second = c.joined-second.ensures s part (c.fit_at-3.ensures s part gone) (c.fit_at-4.ensures s part gone) in
    c.joined-2.ensures s part (c.joined.ensures s part first second) (c.fit_at-5.ensures s part gone)
