use Rattle.std.proofs.Common.{ℕ}
use Rattle.icu_search.specs.SearchedTexts.{text_searched}
use Rattle.icu_search.specs.inner.BarrenParts.{Repeats}
use Rattle.icu_search.proofs.searched_text.SearchedText.repeats_to.Given as goal

-- so it is up to the character that comes
abbrev pub invariant-loop-at : goal.invariant-loop-at
invariant-loop-at l = (start : ℕ) → Repeats (text_searched l.self) start l.step l.reach → Repeats (text_searched l.self) start l.step l.at
