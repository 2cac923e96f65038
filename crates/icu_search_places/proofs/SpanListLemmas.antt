-- Members of lists.
use Rattle.std.proofs.Common.{◌≡◌, ℕ, zero, suc, ◌<◌, List, [], ◌∷◌, length, get_or, arith, inl, inr, subst, ◌⊎◌}
use Rattle.icu_table_data.proofs.ListLemmas.{all_where, nothing_in}
use Rattle.std.specs.List.{AllByRecursion, AllPairs, Any, Contains}
use Rattle.std.specs.Prelude.{⊤}

pub at_head : {X : Type 0} (x y : X) (xs : List X) → y ≡ x → Contains (y ∷ xs) x
at_head x y xs e = (0, omega arith, e)

pub in_tail : {X : Type 0} (x y : X) (xs : List X) → Contains xs x → Contains (y ∷ xs) x
in_tail x y xs (k, l, e) = (suc k, omega arith, e)

pub head_or_tail : {X : Type 0} (x y : X) (xs : List X) → Contains (y ∷ xs) x → (y ≡ x) ⊎ Contains xs x
head_or_tail x y xs (zero, l, e) = inl e
head_or_tail x y xs (suc k, l, e) = inr (k, omega arith, e)

-- what holds of each member holds of this one
pub member_of : {X : Type 0} (P : X → Type 0) (x : X) (xs : List X) → AllByRecursion P xs → Contains xs x → P x
member_of P x [] all at = absurd (nothing_in x at)
member_of P x (y ∷ xs) all at =
    elim (head_or_tail x y xs at) as (λ _. P x) [
      | inl e ↦ subst P e all.0
      | inr later ↦ member_of P x xs all.1 later
    ]

-- a member of which P holds
pub some_member : {X : Type 0} (P : X → Type 0) (x : X) (xs : List X) → Contains xs x → P x → Any P xs
some_member P x xs at p = (at.0, x, at.1, at.2, p)

pub the_member : {X : Type 0} (P : X → Type 0) (xs : List X) → Any P xs → (x : X) × (Contains xs x × P x)
the_member P xs a = (a.1, ((a.0, a.2, a.3), a.4))

-- each member is in the relation with each later one
abbrev pub InPairs : {X : Type 0} → (X → X → Type 0) → List X → Type 0
InPairs R [] = ⊤
InPairs R (x ∷ xs) = AllByRecursion (R x) xs × InPairs R xs

at_place : {X : Type 0} (P : X → Type 0) (xs : List X) (k : ℕ) (d : X) → k < length xs → AllByRecursion P xs → P (get_or xs k d)
at_place P [] k d l all = absurd (omega arith)
at_place P (x ∷ xs) zero d l all = all.0
at_place P (x ∷ xs) (suc k) d l all = at_place P xs k d (omega arith) all.1

pub AllPairs-in_pairs : {X : Type 0} (R : X → X → Type 0) (xs : List X) → InPairs R xs → AllPairs R xs
AllPairs-in_pairs R [] pairs i j d before within = absurd (omega arith)
AllPairs-in_pairs R (x ∷ xs) pairs zero zero d before within = absurd (omega arith)
AllPairs-in_pairs R (x ∷ xs) pairs zero (suc j) d before within = at_place (R x) xs j d (omega arith) pairs.0
AllPairs-in_pairs R (x ∷ xs) pairs (suc i) zero d before within = absurd (omega arith)
AllPairs-in_pairs R (x ∷ xs) pairs (suc i) (suc j) d before within = AllPairs-in_pairs R xs pairs.1 i j d (omega arith) (omega arith)
