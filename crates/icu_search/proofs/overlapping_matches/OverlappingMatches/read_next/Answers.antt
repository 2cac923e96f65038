use Rattle.std.proofs.Common.{◌≡◌, ◌∷◌, ◌+◌, ℕ, List, Some, None, map, sym, ap, ◌∙◌}
use Rattle.icu_search_places.specs.LeastMatches.{Span, least_matches}
use Rattle.icu_search_places.specs.Selections.{first_span, found_from}
use Rattle.icu_search.specs.SearchedTexts.{char_len_in, matches_in, offsets_searched}
use Rattle.icu_search.specs.OverlappingMatches.{beginning_at}
use Rattle.icu_search.specs.TextOffsets.{match_in_units}
use Rattle.icu_search.proofs.OverlappingLemmas.{one_given, none_given}
use Rattle.icu_search.proofs.overlapping_matches.OverlappingMatches.read_next.Goals as goal

pub returns-in-Some-clause-gives : goal.returns-in-Some-clause-gives
returns-in-Some-clause-gives c =
    let f = c.args.self.now in
    let t = f.text.now in
    let m = c.in-Some.m in
    let given : Some m ≡ first_span (found_from (matches_in t) (char_len_in t) f.start) = cc (c.in_ok-m.ensures.least, c.in-Some.is) in
    let left = λ (n : ℕ). map (match_in_units (offsets_searched t)) (beginning_at (n + 1) (least_matches (matches_in t) (char_len_in t))) in
    ap (λ (l : List Span). map (match_in_units (offsets_searched t)) l) (one_given (matches_in t) (char_len_in t) f.start m given)
    ∙ ap (λ (x : Span). x ∷ left m.start) (sym c.in_units.ensures) ∙ ap (λ (n : ℕ). c.in_units.result ∷ left n) (sym c.start.ensures)

pub returns-in-None-clause-end : goal.returns-in-None-clause-end
returns-in-None-clause-end c = λ _.
    let f = c.args.self.now in
    let t = f.text.now in
    let given : None ≡ first_span (found_from (matches_in t) (char_len_in t) f.start) = cc (c.in_ok-m.ensures.least, c.in-None.is) in
    ap (λ (l : List Span). map (match_in_units (offsets_searched t)) l) (none_given (matches_in t) (char_len_in t) f.start given)
