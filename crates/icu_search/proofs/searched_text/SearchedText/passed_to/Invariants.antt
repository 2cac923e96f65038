use Rattle.std.proofs.Common.{ℕ, ◌<◌, ◌≤◌, None}
use Rattle.icu_search_places.specs.LeastMatches.{TellsLeastStop}
use Rattle.icu_search.specs.SearchedTexts.{char_len_in, matches_in}
use Rattle.icu_search.proofs.searched_text.SearchedText.passed_to.Given as goal

-- no least match begins before the character that comes
abbrev pub invariant-loop-at : goal.invariant-loop-at
invariant-loop-at l = (k : ℕ) → l.start ≤ k → k < l.at → TellsLeastStop (matches_in l.self) k (char_len_in l.self) None
