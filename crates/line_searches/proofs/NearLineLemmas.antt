-- How many of the first lines are wanted, by the counts before each line.
use Rattle.std.proofs.Common.{◌≡◌, ◌≤◌, ◌<◌, ◌+◌, ◌-◌, ◌∙◌, ◌++◌, ℕ, zero, suc, Bool, true, false, List, [], ◌∷◌, ap, arith, filter, length, refl, sym, take}
use Rattle.std.specs.Prelude.{get_or, if◌then◌else◌, min, nat_lt, ◌&&◌}
use Rattle.std.specs.Borrow.{Bor}
use Rattle.icu_search_places.specs.Searches.{Search}
use Rattle.line_sorts.specs.ShownLines.{shown_lines}
use Rattle.line_searches.specs.LineSpots.{spot_after}
use Rattle.line_searches.specs.NearLines.{near_from, near_line, near_lines, wanted_before}
use Rattle.line_searches.specs.WantedLines.{wanted_count, wants}
use Rattle.line_searches.specs.inner.WantedCounts.{count_after, count_before, count_behind, counts_from}
use Rattle.line_searches.specs.declared.near_lines.WantedCounts.{WantedCounts}
use Rattle.line_searches.specs.declared.search_request.LineSpot.{LineSpot}
use Rattle.line_searches.specs.declared.search_request.SearchRequest.{SearchRequest}

module _ (r : SearchRequest) (s : List Search) where
  -- there is a count for each line
  pub counts_length : (k : ℕ) (lines : List (List ℕ)) → length (counts_from r s k lines) ≡ length lines
  counts_length k [] = refl
  counts_length k (line ∷ lines) = ap suc (counts_length (count_after r s k line) lines)

  -- lines with one more, after some
  more_after : (k m : ℕ) (line : List ℕ) (lines : List (List ℕ)) → k ≤ r.at_most → m ≡ length lines
      → min r.at_most (count_after r s k line + m) ≡ min r.at_most (k + length (if wants r s line then line ∷ lines else lines))
  more_after k m line lines few e = grind arith

  few_after : (k : ℕ) (line : List ℕ) → k ≤ r.at_most → count_after r s k line ≤ r.at_most
  few_after k line few = grind arith

  pub behind_all : (k : ℕ) (lines : List (List ℕ)) → k ≤ r.at_most → count_behind r s k lines ≡ min r.at_most (k + length (filter (wants r s) lines))
  behind_all k [] few = grind arith
  behind_all k (line ∷ lines) few =
      behind_all (count_after r s k line) lines (few_after k line few) ∙ more_after k _ line (filter (wants r s) lines) few refl

  pub count_at : (k : ℕ) (lines : List (List ℕ)) (n : ℕ) → k ≤ r.at_most
      → get_or (counts_from r s k lines) n (count_behind r s k lines) ≡ min r.at_most (k + length (filter (wants r s) (take n lines)))
  count_at k [] zero few = grind arith
  count_at k [] (suc n) few = grind arith
  count_at k (line ∷ lines) zero few = grind arith
  count_at k (line ∷ lines) (suc n) few =
      count_at (count_after r s k line) lines n (few_after k line few) ∙ more_after k _ line (filter (wants r s) (take n lines)) few refl

  -- lines are printed alike by two counts that are one for each number
  line_same : (f g : ℕ → ℕ) (i : ℕ) (spot : LineSpot) (line : List ℕ) → ((n : ℕ) → f n ≡ g n)
      → near_line f r s i spot line ≡ near_line g r s i spot line
  line_same f g i spot line e =
      rw (e (i - r.after)) rw (e (i + 1 + r.before)) rw (e i) rw (e (i + 1)) rw (e (i - 1 - r.after)) rw (e (i - 1 + 1 + r.before)) refl

  pub near_same : (f g : ℕ → ℕ) (i : ℕ) (spot : LineSpot) (lines : List (List ℕ)) → ((n : ℕ) → f n ≡ g n)
      → near_from f r s i spot lines ≡ near_from g r s i spot lines
  near_same f g i spot [] e = refl
  near_same f g i spot (line ∷ lines) e =
      ap (λ (t : List ℕ). t ++ near_from f r s (i + 1) (spot_after spot line) lines) (line_same f g i spot line e)
      ∙ ap (λ (t : List ℕ). near_line g r s i spot line ++ t) (near_same f g (i + 1) (spot_after spot line) lines e)

  -- how many are wanted of all
  pub all_counted : (lines : List (List ℕ)) → count_behind r s 0 lines ≡ wanted_count r s lines
  all_counted lines = behind_all 0 lines (omega arith) ∙ ap (min r.at_most) (omega arith)

  -- by the counts before each line what is printed is what is near
  pub near_counted : (c : WantedCounts) (lines : List (List ℕ)) → c.before.items ≡ counts_from r s 0 lines
      → c.total ≡ count_behind r s 0 lines → near_from (count_before c) r s 0 r.first lines ≡ near_lines r s lines
  near_counted c lines e f =
      near_same (count_before c) (wanted_before r s lines) 0 r.first lines
      (λ n. ap (λ (b : List ℕ). get_or b n c.total) e
      ∙ (ap (λ t. get_or (counts_from r s 0 lines) n t) f ∙ (count_at 0 lines n (omega arith) ∙ ap (min r.at_most) (omega arith))))

-- borrowed lines
pub shown_length : (lines : List (Bor (List ℕ))) → length (shown_lines lines) ≡ length lines
shown_length [] = refl
shown_length (line ∷ lines) = ap suc (shown_length lines)
