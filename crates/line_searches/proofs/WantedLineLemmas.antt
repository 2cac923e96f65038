-- The first of some lines, and then those after it.
use Rattle.std.proofs.Common.{◌≡◌, ◌<◌, ◌+◌, ◌-◌, ◌++◌, ◌∙◌, ℕ, Bool, true, false, List, ◌∷◌, append_assoc, arith, ap, drop, filter, length, refl, sym}
use Rattle.std.specs.Prelude.{if◌then◌else◌}
use Rattle.std.specs.Borrow.{Bor}
use Rattle.std.proofs.Math.ListN.{get_or}
use Rattle.std.proofs.lemmas.List.{drop_more}
use Rattle.icu_search_places.specs.Searches.{Search}
use Rattle.line_sorts.specs.ShownLines.{shown_lines}
use Rattle.line_searches.specs.LineSpots.{spot_after}
use Rattle.line_searches.specs.WantedLines.{shown_next, wanted_from, wanted_left, wants}
use Rattle.line_searches.specs.declared.search_request.LineSpot.{LineSpot}
use Rattle.line_searches.specs.declared.search_request.SearchRequest.{SearchRequest}

fewer : (b : Bool) (left n : ℕ) (line : List ℕ) (lines : List (List ℕ)) → length lines ≡ n
    → left - length (if b then line ∷ lines else lines) ≡ (if b then left - 1 else left) - n
fewer true left n line lines e = rw e (omega arith)
fewer false left n line lines e = ap (λ m. left - m) e

module _ (r : SearchRequest) (s : List Search) (lines : List (Bor (List ℕ))) (i : ℕ) (d : Bor (List ℕ)) (below : i < length lines) where
  wanted_step : (left : ℕ) (spot : LineSpot) → wanted_from r s left spot (shown_lines (drop i lines))
      ≡ shown_next r s left spot (get_or lines i d).now
      ++ wanted_from r s (wanted_left r s left (get_or lines i d).now) (spot_after spot (get_or lines i d).now) (shown_lines (drop (i + 1) lines))
  wanted_step left spot = ap (λ (ls : List (Bor (List ℕ))). wanted_from r s left spot (shown_lines ls)) (drop_more lines i d below)

  left_step : (left : ℕ) → left - length (filter (wants r s) (shown_lines (drop i lines)))
      ≡ wanted_left r s left (get_or lines i d).now - length (filter (wants r s) (shown_lines (drop (i + 1) lines)))
  left_step left =
      ap (λ (ls : List (Bor (List ℕ))). left - length (filter (wants r s) (shown_lines ls))) (drop_more lines i d below)
      ∙ fewer (wants r s (get_or lines i d).now) left _ (get_or lines i d).now (filter (wants r s) (shown_lines (drop (i + 1) lines))) refl

  -- the next line is appended, if it is wanted
  pub next_appended : (old new all : List ℕ) (left after : ℕ) (spot next : LineSpot) → new ≡ old ++ shown_next r s left spot (get_or lines i d).now
      → after ≡ wanted_left r s left (get_or lines i d).now → next ≡ spot_after spot (get_or lines i d).now
      → old ++ wanted_from r s left spot (shown_lines (drop i lines)) ≡ all
      → new ++ wanted_from r s after next (shown_lines (drop (i + 1) lines)) ≡ all
  next_appended old new all left after spot next e f g whole =
      let line = (get_or lines i d).now in
      let rest = shown_lines (drop (i + 1) lines) in
      let shown = shown_next r s left spot line in
      ap (λ (t : List ℕ). t ++ wanted_from r s after next rest) e
      ∙ ap (λ (n : ℕ). (old ++ shown) ++ wanted_from r s n next rest) f
      ∙ ap (λ (at : LineSpot). (old ++ shown) ++ wanted_from r s (wanted_left r s left line) at rest) g
      ∙ append_assoc old shown (wanted_from r s (wanted_left r s left line) (spot_after spot line) rest)
      ∙ ap (λ (t : List ℕ). old ++ t) (sym (wanted_step left spot))
      ∙ whole

  -- one less is left, if it is wanted
  pub next_counted : (left after total : ℕ) → after ≡ wanted_left r s left (get_or lines i d).now
      → left - length (filter (wants r s) (shown_lines (drop i lines))) ≡ total
      → after - length (filter (wants r s) (shown_lines (drop (i + 1) lines))) ≡ total
  next_counted left after total f counted =
      ap (λ (n : ℕ). n - length (filter (wants r s) (shown_lines (drop (i + 1) lines)))) f ∙ sym (left_step left) ∙ counted
