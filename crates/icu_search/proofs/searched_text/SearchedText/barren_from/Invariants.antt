use Rattle.std.proofs.Common.{◌≡◌, ℕ, ◌<◌, ◌≤◌, true}
use Rattle.std.specs.Prelude.{slice_range}
use Rattle.icu_order_texts.specs.TextOrder.{reading_by}
use Rattle.icu_search.specs.SearchedTexts.{searched_in, text_searched}
use Rattle.icu_search.specs.inner.SearchCuts.{EndsPieceAt}
use Rattle.icu_search.proofs.CountedWalks.{CountedTo, weight_count}
use Rattle.icu_search.proofs.searched_text.SearchedText.barren_from.Given as goal

-- So many weights were met up to the character that comes, each behind a character that ends a piece. If they were as
-- many as the pattern has, a match may end there.
abbrev pub invariant-loop-at : goal.invariant-loop-at
invariant-loop-at l = record {
  counted : CountedTo (searched_in l.self) (text_searched l.self) l.start l.at l.met;
  ended : (k : ℕ) → l.start < k → k ≤ l.at
      → weight_count (searched_in l.self).collation (slice_range (text_searched l.self) l.start k) ≡ weight_count (searched_in l.self).collation (searched_in l.self).pattern
      → (searched_in l.self).allowed k ≡ true;
  ends : (k : ℕ) → l.start < k → k ≤ l.at → EndsPieceAt (reading_by (searched_in l.self).collation) (text_searched l.self) k;
}
