use Rattle.icu_search.specs.SearchedTexts.{searched_in, text_searched}
use Rattle.icu_search.proofs.SureMatchLemmas.{HasAtMost}
use Rattle.icu_search.proofs.searched_text.SearchedText.holds_none.Given as goal

-- no part behind the start, up to the character that comes, has more weights than were met
abbrev pub invariant-loop-at : goal.invariant-loop-at
invariant-loop-at l = HasAtMost (searched_in l.self).collation (text_searched l.self) l.start l.at l.met
