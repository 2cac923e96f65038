-- Matches of two lists where one has ended.
use Rattle.std.proofs.Common.{◌≡◌, List, [], ◌∷◌, ◌++◌, refl, sym, ap, ◌∙◌, append-nil}
use Rattle.icu_search_places.specs.LeastMatches.{Span}
use Rattle.line_searches.specs.JoinedMatches.{matches_joined}

-- with no others a list stays
pub joined_none : (ms : List Span) → matches_joined ms [] ≡ ms
joined_none [] = refl
joined_none (m ∷ ms) = ap (λ (l : List Span). m ∷ l) (joined_none ms)

pub first_ended : (ms ns : List Span) → ms ≡ [] → ms ++ ns ≡ matches_joined ms ns
first_ended ms ns none = rw none refl

pub second_ended : (ms ns : List Span) → ns ≡ [] → ms ++ ns ≡ matches_joined ms ns
second_ended ms ns none = rw none (append-nil ms ∙ sym (joined_none ms))
