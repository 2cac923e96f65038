-- What two lists have in common, one character at a time.
use Rattle.std.proofs.Common.{◌≡◌, ℕ, ◌+◌, ◌<◌, ◌≤◌, List, [], ◌∷◌, ◌++◌, length, take, drop, get_or, refl, sym, ap, ap₂, ◌∙◌, append_assoc}
use Rattle.std.proofs.lemmas.Bool.{eq-eqb, ne_eqb}
use Rattle.std.proofs.lemmas.List.{drop_more, take_more, append-nil}
use Rattle.std.proofs.Math.ListN.{drop_of_length-le}
use Rattle.icu_element_matches.specs.inner.Beginnings.{common_beginning}

at_heads : (mapping text : List ℕ) (i a b : ℕ) → i < length mapping → i < length text → a ≡ get_or mapping i a → b ≡ get_or text i b → common_beginning (drop i mapping) (drop i text) ≡ common_beginning (a ∷ drop (i + 1) mapping) (b ∷ drop (i + 1) text)
at_heads mapping text i a b p q m n =
    ap₂ common_beginning
    (drop_more mapping i a p ∙ ap (λ x. x ∷ drop (i + 1) mapping) (sym m))
    (drop_more text i b q ∙ ap (λ x. x ∷ drop (i + 1) text) (sym n))

-- two characters that are equal are common
pub common_goes_on : (mapping text : List ℕ) (i a b : ℕ) → i < length mapping → i < length text → a ≡ get_or mapping i a → b ≡ get_or text i b → a ≡ b
    → take (i + 1) text ++ common_beginning (drop (i + 1) mapping) (drop (i + 1) text) ≡ take i text ++ common_beginning (drop i mapping) (drop i text)
unfolding common_beginning
common_goes_on mapping text i a b p q m n e =
    let more : take (i + 1) text ≡ take i text ++ b ∷ [] = take_more text i b q ∙ ap (λ x. take i text ++ x ∷ []) (sym n) in
    let rest : List ℕ = common_beginning (drop (i + 1) mapping) (drop (i + 1) text) in
    let one : common_beginning (a ∷ drop (i + 1) mapping) (b ∷ drop (i + 1) text) ≡ b ∷ rest = rw (eq-eqb a b e) refl in
    ap (λ (l : List ℕ). l ++ rest) more ∙ append_assoc (take i text) (b ∷ []) rest
    ∙ ap (λ (l : List ℕ). take i text ++ l) (sym (at_heads mapping text i a b p q m n ∙ one))

-- two characters that differ end what is common
pub common_stops : (mapping text : List ℕ) (i a b : ℕ) → i < length mapping → i < length text → a ≡ get_or mapping i a → b ≡ get_or text i b → (a ≡ b → ⊥)
    → take i text ++ common_beginning (drop i mapping) (drop i text) ≡ take i text
unfolding common_beginning
common_stops mapping text i a b p q m n differ =
    let none : common_beginning (a ∷ drop (i + 1) mapping) (b ∷ drop (i + 1) text) ≡ [] = rw (ne_eqb a b differ) refl in
    ap (λ (l : List ℕ). take i text ++ l) (at_heads mapping text i a b p q m n ∙ none) ∙ append-nil (take i text)

nothing_left : (xs : List ℕ) → common_beginning xs [] ≡ []
unfolding common_beginning
nothing_left [] = refl
nothing_left (x ∷ xs) = refl

-- the end of a list ends what is common
pub common_ends : (mapping text : List ℕ) (i : ℕ) → length mapping ≤ i → take i text ++ common_beginning (drop i mapping) (drop i text) ≡ take i text
unfolding common_beginning
common_ends mapping text i past = ap (λ (l : List ℕ). take i text ++ common_beginning l (drop i text)) (drop_of_length-le mapping past) ∙ append-nil (take i text)

pub common_ends_text : (mapping text : List ℕ) (i : ℕ) → length text ≤ i → take i text ++ common_beginning (drop i mapping) (drop i text) ≡ take i text
common_ends_text mapping text i past = ap (λ (l : List ℕ). take i text ++ common_beginning (drop i mapping) l) (drop_of_length-le text past) ∙ ap (λ (l : List ℕ). take i text ++ l) (nothing_left (drop i mapping)) ∙ append-nil (take i text)
