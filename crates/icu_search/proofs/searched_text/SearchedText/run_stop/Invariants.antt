use Rattle.icu_search.specs.SearchedTexts.{searched_in, text_searched}
use Rattle.icu_search.specs.inner.TextRuns.{AreAlone}
use Rattle.icu_search.proofs.searched_text.SearchedText.run_stop.Given as goal

-- the run goes up to the character that comes
abbrev pub invariant-loop-at : goal.invariant-loop-at
invariant-loop-at l = AreAlone (searched_in l.self).collation (text_searched l.self) l.start l.at
