-- Places, and weights that are put before them.
use Rattle.std.proofs.Common.{◌≡◌, ℕ, suc, ◌<◌, ◌≤◌, Bool, true, false, ◌||◌, nat_lt, ◌==◌, List, [], ◌∷◌, ◌++◌, length, inl, inr, refl, ap, sym, ◌∙◌, subst, arith}
use Rattle.std.proofs.lemmas.Bool.{both_ways, cases_Bool, eqb-true, eq-eqb, ne_eqb, or_parts, or_cases, or_right, ltb-true}
use Rattle.std.proofs.lemmas.Bool.Decides.{nat_tests}
use Rattle.icu_rule_meaning.specs.declared.symbolic.SymbolicWeight.{SymbolicWeight}
use Rattle.icu_rule_meaning.specs.declared.symbolic.SymbolicWeight.TheVariants as weights
use Rattle.icu_rule_meaning.specs.SymbolicElements.{is_same_weight}
use Rattle.icu_rule_meaning.specs.WeightTrees.{with_rooted}
use Rattle.icu_rule_meaning.proofs.TreeLemmas.{either}
use Rattle.icu_rule_meaning.specs.declared.weight_tree.stop.Stop.{Stop}
use Rattle.icu_rule_meaning.specs.declared.weight_tree.stop.Stop.TheVariants.{End, Rooted, Tailored}
use Rattle.icu_rule_meaning.specs.weight_tree.inner.LinkStops.{stop_at, is_stop, stands, in_front, rooted_above}
use Rattle.icu_rule_meaning.specs.weight_tree.inner.LinkedOrders.{StandOnce, RootedAscend}

-- ---- the same place

pub same_stop : (s t : Stop) → is_stop s t ≡ true → s ≡ t
same_stop End End e = refl
same_stop End (Rooted w) e = cc
same_stop End (Tailored k) e = cc
same_stop (Rooted w) End e = cc
same_stop (Rooted w) (Rooted v) e = ap Rooted (sym (eqb-true v w e))
same_stop (Rooted w) (Tailored k) e = cc
same_stop (Tailored k) End e = cc
same_stop (Tailored k) (Rooted w) e = cc
same_stop (Tailored k) (Tailored j) e = ap Tailored (sym (eqb-true j k e))

pub itself : (s : Stop) → is_stop s s ≡ true
itself End = refl
itself (Rooted w) = eq-eqb w w refl
itself (Tailored k) = eq-eqb k k refl

pub same_from : (s t : Stop) → s ≡ t → is_stop s t ≡ true
same_from s t e = subst (λ q. is_stop s q ≡ true) e (itself s)

-- what isn't this place, isn't it from the other side
pub other_way : (s t : Stop) → is_stop s t ≡ false → is_stop t s ≡ false
other_way s t e = elim (cases_Bool (is_stop t s)) [
  | inl same ↦ absurd (both_ways (is_stop s t) e (same_from s t (sym (same_stop t s same))))
  | inr other ↦ other
]

pub weight_is : (w v : SymbolicWeight) → is_stop (stop_at w) (stop_at v) ≡ is_same_weight v w
weight_is (weights.Rooted w) (weights.Rooted v) = refl
weight_is (weights.Rooted w) (weights.Tailored k) = refl
weight_is (weights.Tailored k) (weights.Rooted w) = refl
weight_is (weights.Tailored k) (weights.Tailored j) = refl

-- a weight has no end
pub not_end : (w : SymbolicWeight) → is_stop (stop_at w) End ≡ false
not_end (weights.Rooted w) = refl
not_end (weights.Tailored k) = refl

pub end_not : (w : SymbolicWeight) → is_stop End (stop_at w) ≡ false
end_not (weights.Rooted w) = refl
end_not (weights.Tailored k) = refl

-- ---- what stands

or_swapped : (a b c : Bool) → (a || (b || c)) ≡ (b || (a || c))
or_swapped true true c = refl
or_swapped true false c = refl
or_swapped false true c = refl
or_swapped false false c = refl

pub stands_first : (s : Stop) (v : SymbolicWeight) (xs : List SymbolicWeight) → is_stop s (stop_at v) ≡ true → stands s (v ∷ xs) ≡ true
stands_first s v xs e = rw e refl

pub stands_later : (s : Stop) (v : SymbolicWeight) (xs : List SymbolicWeight) → stands s xs ≡ true → stands s (v ∷ xs) ≡ true
stands_later s v xs e = or_right (is_stop s (stop_at v)) (stands s xs) e

-- what stands among weights and isn't the first one stands among the others
pub stands_rest : (s : Stop) (v : SymbolicWeight) (xs : List SymbolicWeight) → is_stop s (stop_at v) ≡ false
    → stands s (v ∷ xs) ≡ true → stands s xs ≡ true
stands_rest s v xs other e = ap (λ b. b || stands s xs) (sym other) ∙ e

pub end_stands : (xs : List SymbolicWeight) → stands End xs ≡ true
end_stands [] = refl
end_stands (v ∷ xs) = stands_later End v xs (end_stands xs)

-- ---- before a place

pub stands_in_front : (q s : Stop) (w : SymbolicWeight) (xs : List SymbolicWeight)
    → stands q (in_front s w xs) ≡ (is_stop q (stop_at w) || stands q xs)
stands_in_front q s w [] = refl
stands_in_front q s w (v ∷ xs) = elim (cases_Bool (is_stop s (stop_at v))) [
  | inl e ↦ rw e refl
  | inr e ↦
      rw e (ap (λ b. is_stop q (stop_at v) || b) (stands_in_front q s w xs)
      ∙ or_swapped (is_stop q (stop_at v)) (is_stop q (stop_at w)) (stands q xs))
]

pub apart_in_front : (s : Stop) (w : SymbolicWeight) (xs : List SymbolicWeight) → StandOnce xs
    → stands (stop_at w) xs ≡ false → StandOnce (in_front s w xs)
apart_in_front s w [] a fresh = (not_end w, tt)
apart_in_front s w (v ∷ xs) a fresh = elim (cases_Bool (is_stop s (stop_at v))) [
  | inl e ↦ rw e (fresh, a)
  | inr e ↦
      let parts = or_parts (is_stop (stop_at w) (stop_at v)) (stands (stop_at w) xs) fresh in
      let other = other_way (stop_at w) (stop_at v) parts.0 in
      rw e (stands_in_front (stop_at v) s w xs ∙ (ap (λ b. b || stands (stop_at v) xs) other ∙ a.0), apart_in_front s w xs a.1 parts.1)
]

pub length_in_front : (s : Stop) (w : SymbolicWeight) (xs : List SymbolicWeight) → length (in_front s w xs) ≡ suc (length xs)
length_in_front s w [] = refl
length_in_front s w (v ∷ xs) = elim (cases_Bool (is_stop s (stop_at v))) [
  | inl e ↦ rw e refl
  | inr e ↦ rw e (ap suc (length_in_front s w xs))
]

stopped_in_front : (s : Stop) (w v : SymbolicWeight) (xs : List SymbolicWeight) → is_stop s (stop_at v) ≡ true
    → in_front s w (v ∷ xs) ≡ w ∷ v ∷ xs
stopped_in_front s w v xs e = rw e refl

passed_in_front : (s : Stop) (w v : SymbolicWeight) (xs : List SymbolicWeight) → is_stop s (stop_at v) ≡ false
    → in_front s w (v ∷ xs) ≡ v ∷ in_front s w xs
passed_in_front s w v xs e = rw e refl

-- before the end is behind all
pub in_front_of_end : (w : SymbolicWeight) (xs : List SymbolicWeight) → in_front End w xs ≡ xs ++ w ∷ []
in_front_of_end w [] = refl
in_front_of_end w (v ∷ xs) = rw (end_not v) (ap (λ ys. v ∷ ys) (in_front_of_end w xs))

-- ---- weights of the root

most_from : (n u : ℕ) → nat_lt n u ≡ false → u ≤ n
most_from n u e = grind (arith, nat_tests)

pub less_test : (n u : ℕ) → n < u → nat_lt n u ≡ true
less_test n u e = grind (arith, nat_tests)

pub most_test : (n u : ℕ) → u ≤ n → nat_lt n u ≡ false
most_test n u e = grind (arith, nat_tests)

pub above_met : (n v : ℕ) (xs : List SymbolicWeight) → nat_lt n v ≡ true → rooted_above n (weights.Rooted v ∷ xs) ≡ Rooted v
above_met n v xs e = rw e refl

pub above_passed : (n v : ℕ) (xs : List SymbolicWeight) → nat_lt n v ≡ false
    → rooted_above n (weights.Rooted v ∷ xs) ≡ rooted_above n xs
above_passed n v xs e = rw e refl

above_is_greater : (n v : ℕ) (xs : List SymbolicWeight) → v ≤ n → is_stop (rooted_above n xs) (Rooted v) ≡ false
above_is_greater n v [] most = refl
above_is_greater n v (weights.Tailored k ∷ xs) most = above_is_greater n v xs most
above_is_greater n v (weights.Rooted u ∷ xs) most = elim (cases_Bool (nat_lt n u)) [
  | inl e ↦
      let less : n < u = ltb-true n u e in
      rw e (ne_eqb v u (λ same. omega arith))
  | inr e ↦ rw e (above_is_greater n v xs most)
]

above_is_rooted : (n k : ℕ) (xs : List SymbolicWeight) → is_stop (rooted_above n xs) (Tailored k) ≡ false
above_is_rooted n k [] = refl
above_is_rooted n k (weights.Tailored j ∷ xs) = above_is_rooted n k xs
above_is_rooted n k (weights.Rooted u ∷ xs) = elim (cases_Bool (nat_lt n u)) [
  | inl e ↦ rw e refl
  | inr e ↦ rw e (above_is_rooted n k xs)
]

passed_above : (n v : ℕ) (xs : List SymbolicWeight) → nat_lt n v ≡ false
    → in_front (rooted_above n (weights.Rooted v ∷ xs)) (weights.Rooted n) (weights.Rooted v ∷ xs)
    ≡ weights.Rooted v ∷ in_front (rooted_above n xs) (weights.Rooted n) xs
passed_above n v xs e =
    ap (λ q. in_front q (weights.Rooted n) (weights.Rooted v ∷ xs)) (above_passed n v xs e)
    ∙ passed_in_front (rooted_above n xs) (weights.Rooted n) (weights.Rooted v) xs (above_is_greater n v xs (most_from n v e))

-- a weight of the root that doesn't stand there is put before the first greater one
pub rooted_put : (n : ℕ) (xs : List SymbolicWeight) → stands (Rooted n) xs ≡ false
    → in_front (rooted_above n xs) (weights.Rooted n) xs ≡ with_rooted n xs
unfolding with_rooted
rooted_put n [] fresh = refl
rooted_put n (weights.Tailored k ∷ xs) fresh =
    rw (above_is_rooted n k xs) (ap (λ ys. weights.Tailored k ∷ ys) (rooted_put n xs fresh))
rooted_put n (weights.Rooted v ∷ xs) fresh =
    let parts = or_parts (v == n) (stands (Rooted n) xs) fresh in
    let other : (n == v) ≡ false = other_way (Rooted n) (Rooted v) parts.0 in
    elim (cases_Bool (nat_lt n v)) [
      | inl e ↦ rw (other, e, itself (Rooted v)) refl
      | inr e ↦
          let right : with_rooted n (weights.Rooted v ∷ xs) ≡ weights.Rooted v ∷ with_rooted n xs = rw (other, e) refl in
          passed_above n v xs e ∙ (ap (λ ys. weights.Rooted v ∷ ys) (rooted_put n xs parts.1) ∙ sym right)
    ]

-- one that stands there stays
pub rooted_stays : (n : ℕ) (xs : List SymbolicWeight) → RootedAscend xs → stands (Rooted n) xs ≡ true → xs ≡ with_rooted n xs
unfolding with_rooted
rooted_stays n [] s there = cc
rooted_stays n (weights.Tailored k ∷ xs) s there = ap (λ ys. weights.Tailored k ∷ ys) (rooted_stays n xs s there)
rooted_stays n (weights.Rooted v ∷ xs) s there = elim (cases_Bool (n == v)) [
  | inl e ↦ rw e refl
  | inr e ↦
      let other : (v == n) ≡ false = other_way (Rooted v) (Rooted n) e in
      let further : stands (Rooted n) xs ≡ true = stands_rest (Rooted n) (weights.Rooted v) xs other there in
      let less : v < n = s.0 n further in
      rw (e, most_test n v (omega arith)) (ap (λ ys. weights.Rooted v ∷ ys) (rooted_stays n xs s.1 further))
]

-- weights of the root ascend with another one in its place
pub ascends_rooted : (n : ℕ) (xs : List SymbolicWeight) → stands (Rooted n) xs ≡ false → RootedAscend xs
    → RootedAscend (in_front (rooted_above n xs) (weights.Rooted n) xs)
ascends_rooted n [] fresh s = (λ u a. absurd (both_ways false refl a), tt)
ascends_rooted n (weights.Tailored k ∷ xs) fresh s = rw (above_is_rooted n k xs) (ascends_rooted n xs fresh s)
ascends_rooted n (weights.Rooted v ∷ xs) fresh s =
    let parts = or_parts (v == n) (stands (Rooted n) xs) fresh in
    elim (cases_Bool (nat_lt n v)) [
      | inl e ↦ rw (e, itself (Rooted v)) (λ u a. above_new (ltb-true n v e) u a, s)
      | inr e ↦
          subst RootedAscend (sym (passed_above n v xs e))
          (λ u a. above_old (less v (most_from n v e) parts.0) u a, ascends_rooted n xs parts.1 s.1)
    ]
  where
    less : (v : ℕ) → v ≤ n → (v == n) ≡ false → v < n
    less v most other = grind (arith, nat_tests)

    above_new : n < v → (u : ℕ) → stands (Rooted u) (weights.Rooted v ∷ xs) ≡ true → n < u
    above_new more u a = elim (or_cases (v == u) (stands (Rooted u) xs) a) [
      | inl same ↦ (let is = eqb-true v u same in omega arith)
      | inr later ↦ (let greater = s.0 u later in omega arith)
    ]

    above_old : v < n → (u : ℕ) → stands (Rooted u) (in_front (rooted_above n xs) (weights.Rooted n) xs) ≡ true → v < u
    above_old more u a =
        elim (or_cases (n == u) (stands (Rooted u) xs) (sym (stands_in_front (Rooted u) (rooted_above n xs) (weights.Rooted n) xs) ∙ a)) [
          | inl same ↦ (let is = eqb-true n u same in omega arith)
          | inr later ↦ s.0 u later
        ]

-- and with a tailored one anywhere
pub ascends_tailored : (s : Stop) (k : ℕ) (xs : List SymbolicWeight) → RootedAscend xs → RootedAscend (in_front s (weights.Tailored k) xs)
ascends_tailored s k [] a = tt
ascends_tailored s k (weights.Tailored j ∷ xs) a =
    either RootedAscend (is_stop s (Tailored j)) (weights.Tailored k ∷ weights.Tailored j ∷ xs) (weights.Tailored j ∷ in_front s (weights.Tailored k) xs)
    (λ _. a) (λ _. ascends_tailored s k xs a)
ascends_tailored s k (weights.Rooted v ∷ xs) a =
    either RootedAscend (is_stop s (Rooted v)) (weights.Tailored k ∷ weights.Rooted v ∷ xs) (weights.Rooted v ∷ in_front s (weights.Tailored k) xs)
    (λ _. a)
    (λ _. (λ u there. a.0 u (sym (stands_in_front (Rooted u) s (weights.Tailored k) xs) ∙ there), ascends_tailored s k xs a.1))

-- and with one behind all where none is greater
pub ascends_behind_all : (n : ℕ) (xs : List SymbolicWeight) → stands (Rooted n) xs ≡ false → RootedAscend xs
    → rooted_above n xs ≡ End → RootedAscend (in_front End (weights.Rooted n) xs)
ascends_behind_all n xs fresh s end =
    subst (λ q. RootedAscend (in_front q (weights.Rooted n) xs)) end (ascends_rooted n xs fresh s)

-- the first greater one is the least of those that are greater
pub above_found : (n v : ℕ) (xs : List SymbolicWeight) → RootedAscend xs → stands (Rooted v) xs ≡ true → n < v
    → ((u : ℕ) → stands (Rooted u) xs ≡ true → n < u → v ≤ u) → Rooted v ≡ rooted_above n xs
above_found n v [] s there more least = cc
above_found n v (weights.Tailored k ∷ xs) s there more least = above_found n v xs s there more least
above_found n v (weights.Rooted u ∷ xs) s there more least = elim (cases_Bool (nat_lt n u)) [
  | inl e ↦
      let most : v ≤ u = least u (stands_first (Rooted u) (weights.Rooted u) xs (itself (Rooted u))) (ltb-true n u e) in
      rw e (elim (or_cases (u == v) (stands (Rooted v) xs) there) [
        | inl same ↦ ap Rooted (sym (eqb-true u v same))
        | inr later ↦ (let greater = s.0 v later in absurd (omega arith))
      ])
  | inr e ↦
      let few : u ≤ n = most_from n u e in
      let further : stands (Rooted v) xs ≡ true =
      stands_rest (Rooted v) (weights.Rooted u) xs (ne_eqb u v (λ same. omega arith)) there in
      rw e (above_found n v xs s.1 further more (λ t a. least t (stands_later (Rooted t) (weights.Rooted u) xs a)))
]

pub above_none : (n : ℕ) (xs : List SymbolicWeight) → ((u : ℕ) → stands (Rooted u) xs ≡ true → n < u → ⊥) → End ≡ rooted_above n xs
above_none n [] none = refl
above_none n (weights.Tailored k ∷ xs) none = above_none n xs none
above_none n (weights.Rooted u ∷ xs) none = elim (cases_Bool (nat_lt n u)) [
  | inl e ↦ absurd (none u (stands_first (Rooted u) (weights.Rooted u) xs (itself (Rooted u))) (ltb-true n u e))
  | inr e ↦ rw e (above_none n xs (λ t a. none t (stands_later (Rooted t) (weights.Rooted u) xs a)))
]

-- the first greater one stands there
pub above_stands : (n : ℕ) (xs : List SymbolicWeight) → stands (rooted_above n xs) xs ≡ true
above_stands n [] = refl
above_stands n (weights.Tailored k ∷ xs) = stands_later (rooted_above n xs) (weights.Tailored k) xs (above_stands n xs)
above_stands n (weights.Rooted u ∷ xs) = elim (cases_Bool (nat_lt n u)) [
  | inl e ↦
      subst (λ q. stands q (weights.Rooted u ∷ xs) ≡ true) (sym (above_met n u xs e))
      (stands_first (Rooted u) (weights.Rooted u) xs (itself (Rooted u)))
  | inr e ↦
      subst (λ q. stands q (weights.Rooted u ∷ xs) ≡ true) (sym (above_passed n u xs e))
      (stands_later (rooted_above n xs) (weights.Rooted u) xs (above_stands n xs))
]
