-- The order of lists of numbers.
use Rattle.std.proofs.Common.{◌≡◌, ℕ, ◌<◌, List, [], ◌∷◌, ◌++◌, refl, sym, ap, ◌∙◌, inl, inr, ◌⊎◌, ⊎_elim, arith, Less, Equal, Greater}
use Rattle.std.specs.Ordering.{nat_cmp, ordering_then, ordering_reverse}
use Rattle.std.proofs.lemmas.Cmp.{nat_list_cmp_total, tied_itself}
use Rattle.std.proofs.lemmas.Bool.{cases_order}
use Rattle.std.proofs.lemmas.Bool.Decides.{nat_tests}
use Rattle.icu_order_levels.specs.ListOrder.{list_order}

pub less_number : (x y : ℕ) → x < y → nat_cmp x y ≡ Less
less_number x y h = grind (arith, nat_tests)

pub more_number : (x y : ℕ) → y < x → nat_cmp x y ≡ Greater
more_number x y h = grind (arith, nat_tests)

pub same_number : (x : ℕ) → nat_cmp x x ≡ Equal
same_number x = grind (arith, nat_tests)

pub less_head : (x y : ℕ) (xs ys : List ℕ) → x < y → list_order (x ∷ xs) (y ∷ ys) ≡ Less
less_head x y xs ys h = rw (less_number x y h) refl

pub same_head : (x : ℕ) (xs ys : List ℕ) → list_order (x ∷ xs) (x ∷ ys) ≡ list_order xs ys
same_head x xs ys = rw (same_number x) refl

pub alike_head : (x y : ℕ) (xs ys : List ℕ) → x ≡ y → list_order (x ∷ xs) (y ∷ ys) ≡ list_order xs ys
alike_head x y xs ys e = ap (λ z. list_order (z ∷ xs) (y ∷ ys)) e ∙ same_head y xs ys

pub same_front : (ps xs ys : List ℕ) → list_order (ps ++ xs) (ps ++ ys) ≡ list_order xs ys
same_front [] xs ys = refl
same_front (p ∷ ps) xs ys = same_head p (ps ++ xs) (ps ++ ys) ∙ same_front ps xs ys

-- what decides that a list with a first number is less
pub less_cases : (x y : ℕ) (xs ys : List ℕ) → list_order (x ∷ xs) (y ∷ ys) ≡ Less → (x < y) ⊎ ((x ≡ y) × (list_order xs ys ≡ Less))
less_cases x y xs ys h = ⊎_elim (λ e. inr (e, sym (alike_head x y xs ys e) ∙ h))
    (⊎_elim (λ l. inl l) (λ l. absurd (wrong (rw (more_number x y l) at h))))
    (cases_order x y)
  where
    wrong : Greater ≡ Less → ⊥
    wrong e = cc

-- lists are less, the same or greater
pub three_ways : (xs ys : List ℕ) → (list_order xs ys ≡ Less) ⊎ ((xs ≡ ys) ⊎ (list_order ys xs ≡ Less))
three_ways [] [] = inr (inl refl)
three_ways [] (y ∷ ys) = inl refl
three_ways (x ∷ xs) [] = inr (inr refl)
three_ways (x ∷ xs) (y ∷ ys) =
    ⊎_elim (λ e. ⊎_elim (λ l. inl (alike_head x y xs ys e ∙ l))
    (λ m. inr (⊎_elim (λ t. inl (cc)) (λ l. inr (alike_head y x ys xs (sym e) ∙ l)) m)) (three_ways xs ys))
    (⊎_elim (λ l. inl (less_head x y xs ys l)) (λ l. inr (inr (less_head y x ys xs l))))
    (cases_order x y)

-- the other way round
pub turned : (xs ys : List ℕ) → list_order ys xs ≡ Less → list_order xs ys ≡ Greater
turned xs ys h = nat_list_cmp_total.antisymm xs ys ∙ ap ordering_reverse h

pub same_lists_order : (xs ys : List ℕ) → xs ≡ ys → list_order xs ys ≡ Equal
same_lists_order xs ys e = rw e (tied_itself nat_list_cmp_total ys)

-- lists that tie are the same
pub tied_lists : (xs ys : List ℕ) → list_order xs ys ≡ Equal → xs ≡ ys
tied_lists xs ys h = ⊎_elim (λ l. cc) (⊎_elim (λ e. e) (λ l. let g = turned xs ys l in cc)) (three_ways xs ys)

-- two keys whose first parts keep the order, and are followed by parts that do
pub keeps_order : (xs ys ps qs us vs : List ℕ) → (list_order xs ys ≡ Less → list_order (ps ++ us) (qs ++ vs) ≡ Less)
    → (list_order ys xs ≡ Less → list_order (qs ++ vs) (ps ++ us) ≡ Less) → (xs ≡ ys → ps ≡ qs) → list_order (ps ++ us) (qs ++ vs)
    ≡ ordering_then (list_order xs ys) (list_order us vs)
keeps_order xs ys ps qs us vs below above same =
    ⊎_elim (λ l. below l ∙ rw l)
    (⊎_elim (λ e. rw (same_lists_order xs ys e, same e) (same_front qs us vs)) (λ g. turned (ps ++ us) (qs ++ vs) (above g)
    ∙ rw (turned xs ys g)))
    (three_ways xs ys)
