-- Segments of a backward level.
use Rattle.std.proofs.Common.{◌≡◌, ℕ, ◌+◌, List, [], ◌∷◌, ◌++◌, sym, ap, ◌∙◌, append_assoc, length, take, get_or, map, reverse}
use Rattle.std.proofs.lemmas.List.{append-nil, reverse-append}
use Rattle.icu_order_levels.specs.Secondaries.{secondary_level, further_segments}
use Rattle.icu_order_levels.proofs.TrimmedLemmas.{at_end}

-- a reversed list begins with the last number
pub reverse_last : (xs : List ℕ) (n : ℕ) → length xs ≡ n + 1 → reverse xs ≡ get_or xs n 0 ∷ reverse (take n xs)
reverse_last xs n e = ap reverse (at_end xs n e) ∙ reverse-append (take n xs) (get_or xs n 0 ∷ [])

-- the end of a segment writes it and the byte between segments
pub segment_step : (held next more : List ℕ) (segments : List (List ℕ)) → next ≡ []
    → secondary_level (reverse (held ++ [])) ++ further_segments (map reverse (more ∷ segments))
    ≡ (secondary_level (reverse held) ++ 2 ∷ []) ++ (secondary_level (reverse (next ++ more)) ++ further_segments (map reverse segments))
segment_step held next more segments e =
    ap (λ l. secondary_level (reverse l) ++ further_segments (map reverse (more ∷ segments))) (append-nil held)
    ∙ (sym (append_assoc (secondary_level (reverse held)) (2 ∷ []) (secondary_level (reverse more) ++ further_segments (map reverse segments)))
    ∙ ap (λ l. (secondary_level (reverse held) ++ 2 ∷ []) ++ (secondary_level (reverse (l ++ more)) ++ further_segments (map reverse segments))) (sym e))
