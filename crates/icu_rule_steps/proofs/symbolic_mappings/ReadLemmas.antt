-- What was consumed, as the context of what is read next.
use Rattle.std.proofs.Common.{◌≡◌, ℕ, ◌+◌, ◌<◌, List, [], ◌∷◌, ◌++◌, length, get_or, take, reverse, refl, sym, ap, ◌∙◌}
use Rattle.std.proofs.lemmas.List.{take_more, reverse-append}

two_of_more : (x : ℕ) (ys : List ℕ) → take 2 (x ∷ take 2 ys) ≡ take 2 (x ∷ ys)
two_of_more x [] = refl
two_of_more x (y ∷ []) = refl
two_of_more x (y ∷ z ∷ ys) = refl

-- one more character of the suffix comes before what is read next
pub consumed_more : (c : ℕ) (suffix before : List ℕ) (i x : ℕ) → i < length suffix → x ≡ get_or suffix i x
    → take 2 (x ∷ take 2 (reverse (c ∷ take i suffix) ++ before)) ≡ take 2 (reverse (c ∷ take (i + 1) suffix) ++ before)
consumed_more c suffix before i x h is =
    let more : take (i + 1) suffix ≡ take i suffix ++ x ∷ [] = take_more suffix i x h ∙ ap (λ y. take i suffix ++ y ∷ []) (sym is) in
    two_of_more x (reverse (c ∷ take i suffix) ++ before)
    ∙ ap (λ ys. take 2 (ys ++ before)) (sym (ap (λ ys. reverse (c ∷ ys)) more ∙ reverse-append (c ∷ take i suffix) (x ∷ [])))
