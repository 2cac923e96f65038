-- Numbers order by value through their weights.
use Rattle.std.proofs.Common.{◌≡◌, ℕ, zero, suc, ◌^◌, ◌<◌, ◌≤◌, List, [], ◌∷◌, ◌++◌, refl, sym, ap, ◌∙◌, subst, inl, inr, ◌⊎◌, arith, Less, append-nil, length}
use Rattle.std.specs.Ordering.{nat_cmp}
use Rattle.std.proofs.lemmas.Bool.{cases_order}
use Rattle.std.specs.List.{AllByRecursion}
use Rattle.icu_order_levels.specs.ListOrder.{list_order}
use Rattle.icu_order_levels.specs.Numbers.{number_weight, in_threes, number_bytes, number_weights}
use Rattle.icu_order_levels.proofs.Order.{less_head, alike_head, less_cases, less_number, more_number, same_number, turned, same_lists_order}
use Rattle.icu_order_levels.proofs.NumberOrder.{number_bytes_rise}
use Rattle.icu_order_levels.proofs.NumberBytes.{IsByte, number_form, form_bytes}

-- the first byte of a list, 0 where there is none, and what follows it
abbrev first_or_zero : List ℕ → ℕ
first_or_zero [] = 0
first_or_zero (b ∷ bs) = b

abbrev rest : List ℕ → List ℕ
rest [] = []
rest (b ∷ bs) = bs

rest_bytes : (bs : List ℕ) → AllByRecursion IsByte bs → AllByRecursion IsByte (rest bs)
rest_bytes [] a = tt
rest_bytes (b ∷ bs) a = a.1

first_byte : (bs : List ℕ) → AllByRecursion IsByte bs → first_or_zero bs < 256
first_byte [] a = omega arith
first_byte (b ∷ bs) a = a.0.1

-- of lists of bytes other than 0 the lesser has a lesser first byte, or the same and then a lesser rest
abbrev LessFrom : List ℕ → List ℕ → Type 0
LessFrom bs cs = (first_or_zero bs < first_or_zero cs) ⊎ ((first_or_zero bs ≡ first_or_zero cs) × (list_order (rest bs) (rest cs) ≡ Less))

less_from : (bs cs : List ℕ) → AllByRecursion IsByte cs → list_order bs cs ≡ Less → LessFrom bs cs
less_from [] [] a h = absurd (cc)
less_from [] (c ∷ cs) a h = inl a.0.0
less_from (b ∷ bs) [] a h = absurd (cc)
less_from (b ∷ bs) (c ∷ cs) a h = less_cases b c bs cs h

-- the first weight, and the bytes after it
abbrev first_weight : ℕ → List ℕ → ℕ
first_weight numeric bs = number_weight numeric (first_or_zero bs) (first_or_zero (rest bs)) (first_or_zero (rest (rest bs)))

one_weight : (numeric b : ℕ) (bs : List ℕ) → in_threes numeric (b ∷ bs) ≡ first_weight numeric (b ∷ bs) ∷ in_threes numeric (rest (rest bs))
one_weight numeric b [] = refl
one_weight numeric b (c ∷ []) = refl
one_weight numeric b (c ∷ (d ∷ bs)) = refl

-- the first weights decide, or are the same and then the bytes after them decide
threes_step : (numeric b c : ℕ) (bs cs : List ℕ) → AllByRecursion IsByte bs → AllByRecursion IsByte cs → list_order (b ∷ bs) (c ∷ cs) ≡ Less
    → (list_order (rest (rest bs)) (rest (rest cs)) ≡ Less
    → list_order (in_threes numeric (rest (rest bs))) (in_threes numeric (rest (rest cs))) ≡ Less)
    → list_order (first_weight numeric (b ∷ bs) ∷ in_threes numeric (rest (rest bs)))
    (first_weight numeric (c ∷ cs) ∷ in_threes numeric (rest (rest cs))) ≡ Less
threes_step numeric b c bs cs a d h ih = by (less_cases b c bs cs h)
  where
    b1 : first_or_zero bs < 256
    b1 = first_byte bs a

    b2 : first_or_zero (rest bs) < 256
    b2 = first_byte (rest bs) (rest_bytes bs a)

    finish : (first_weight numeric (b ∷ bs) < first_weight numeric (c ∷ cs))
        ⊎ ((first_weight numeric (b ∷ bs) ≡ first_weight numeric (c ∷ cs)) × (list_order (rest (rest bs)) (rest (rest cs)) ≡ Less))
        → list_order (first_weight numeric (b ∷ bs) ∷ in_threes numeric (rest (rest bs)))
        (first_weight numeric (c ∷ cs) ∷ in_threes numeric (rest (rest cs))) ≡ Less
    finish (inl l) =
        less_head (first_weight numeric (b ∷ bs)) (first_weight numeric (c ∷ cs)) (in_threes numeric (rest (rest bs)))
        (in_threes numeric (rest (rest cs))) l
    finish (inr e) =
        alike_head (first_weight numeric (b ∷ bs)) (first_weight numeric (c ∷ cs)) (in_threes numeric (rest (rest bs)))
        (in_threes numeric (rest (rest cs))) e.0 ∙ ih e.1

    third : b ≡ c → first_or_zero bs ≡ first_or_zero cs → LessFrom (rest bs) (rest cs)
        → list_order (first_weight numeric (b ∷ bs) ∷ in_threes numeric (rest (rest bs)))
        (first_weight numeric (c ∷ cs) ∷ in_threes numeric (rest (rest cs))) ≡ Less
    third e f (inl l) = finish (inl (omega (arith, b1, b2)))
    third e f (inr g) = finish (inr (omega (arith, g.0), g.1))

    second : b ≡ c → LessFrom bs cs → list_order (first_weight numeric (b ∷ bs) ∷ in_threes numeric (rest (rest bs)))
        (first_weight numeric (c ∷ cs) ∷ in_threes numeric (rest (rest cs))) ≡ Less
    second e (inl l) = finish (inl (omega (arith, b1, b2)))
    second e (inr g) = third e g.0 (less_from (rest bs) (rest cs) (rest_bytes cs d) g.1)

    by : (b < c) ⊎ ((b ≡ c) × (list_order bs cs ≡ Less)) → list_order (first_weight numeric (b ∷ bs) ∷ in_threes numeric (rest (rest bs)))
        (first_weight numeric (c ∷ cs) ∷ in_threes numeric (rest (rest cs))) ≡ Less
    by (inl l) = finish (inl (omega (arith, b1, b2)))
    by (inr e) = second e.0 (less_from bs cs d e.1)

rest_length : (bs : List ℕ) → length (rest bs) ≤ length bs
rest_length [] = omega arith
rest_length (b ∷ bs) = omega arith

-- the weights of lesser bytes are less
threes_less : (most numeric : ℕ) (bs cs : List ℕ) → length bs ≤ most → AllByRecursion IsByte bs → AllByRecursion IsByte cs
    → list_order bs cs ≡ Less
    → list_order (in_threes numeric bs) (in_threes numeric cs) ≡ Less
threes_less most numeric [] [] l a d h = cc
threes_less most numeric [] (c ∷ cs) l a d h = subst (λ l. list_order [] l ≡ Less) (sym (one_weight numeric c cs)) refl
threes_less most numeric (b ∷ bs) [] l a d h = cc
threes_less zero numeric (b ∷ bs) (c ∷ cs) l a d h = absurd (omega arith)
threes_less (suc most) numeric (b ∷ bs) (c ∷ cs) l a d h =
    subst (λ l. list_order l (in_threes numeric (c ∷ cs)) ≡ Less) (sym (one_weight numeric b bs))
    (subst (λ l. list_order (first_weight numeric (b ∷ bs) ∷ in_threes numeric (rest (rest bs))) l ≡ Less) (sym (one_weight numeric c cs))
    (threes_step numeric b c bs cs a.1 d.1 h
    (λ k. threes_less most numeric (rest (rest bs)) (rest (rest cs)) (omega (arith, rest_length bs, rest_length (rest bs)))
    (rest_bytes (rest bs) (rest_bytes bs a.1)) (rest_bytes (rest cs) (rest_bytes cs d.1)) k)))

numbers_less : (numeric v w : ℕ) → w < 100 ^ 127 → v < w → list_order (number_weights numeric v) (number_weights numeric w) ≡ Less
numbers_less numeric v w f l =
    threes_less (length (number_bytes v)) numeric (number_bytes v) (number_bytes w) (omega arith)
    (form_bytes (number_bytes v) (number_form v (below_both v w l f))) (form_bytes (number_bytes w) (number_form w f))
    (sym (ap (λ z. list_order z (number_bytes w)) (append-nil (number_bytes v)))
    ∙ (sym (ap (λ z. list_order (number_bytes v ++ []) z) (append-nil (number_bytes w)))
    ∙ number_bytes_rise v w (omega arith) l f [] []))
  where
    below_both : (v w : ℕ) {b : ℕ} → v < w → w < b → v < b
    below_both v w {b = b} l f = omega arith

-- numbers below 10^254 order by value through their weights, whatever the lead
pub numbers_by_value : (numeric v w : ℕ) → v < 100 ^ 127 → w < 100 ^ 127 → list_order (number_weights numeric v) (number_weights numeric w)
    ≡ nat_cmp v w
numbers_by_value numeric v w f g = by (cases_order v w)
  where
    by : (v ≡ w) ⊎ ((v < w) ⊎ (w < v)) → list_order (number_weights numeric v) (number_weights numeric w) ≡ nat_cmp v w
    by (inl e) =
        same_lists_order (number_weights numeric v) (number_weights numeric w) (ap (number_weights numeric) e)
        ∙ sym (ap (λ z. nat_cmp z w) e ∙ same_number w)
    by (inr (inl l)) = numbers_less numeric v w g l ∙ sym (less_number v w l)
    by (inr (inr l)) = turned (number_weights numeric v) (number_weights numeric w) (numbers_less numeric w v f l) ∙ sym (more_number v w l)
