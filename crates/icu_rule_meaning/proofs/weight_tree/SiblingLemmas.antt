-- What edits of siblings leave, by the places of weights among them.
use Rattle.std.proofs.Common.{◌≡◌, ℕ, zero, suc, ◌+◌, ◌<◌, ◌≤◌, Bool, true, false, List, [], ◌∷◌, ◌++◌, length, get_or, cond, if◌then◌else◌, inl, inr, Option, Some, None, refl, ap, sym, ◌∙◌, arith}
use Rattle.std.proofs.lemmas.Bool.{both_ways, cases_Bool, cases_order, eqb-true, eq-eqb, ne_eqb, lt-ltb, le-ltb, le-leb, lt-leb}
use Rattle.std.proofs.lemmas.List.Recursion.{is_position_or_len}
use Rattle.std.proofs.lemmas.List.Sums.{position_or_len_is}
use Rattle.icu_rule_meaning.proofs.weight_tree.LinkingLemmas.{if_map}
use Rattle.std.specs.List.{insert}
use Rattle.icu_rule_meaning.specs.declared.symbolic.SymbolicWeight.{SymbolicWeight}
use Rattle.icu_rule_meaning.specs.declared.symbolic.SymbolicWeight.TheVariants.{Rooted, Tailored}
use Rattle.icu_rule_meaning.specs.SymbolicElements.{is_same_weight}
use Rattle.icu_rule_meaning.specs.WeightTrees.{with_rooted, with_behind, directly_before, before_from}
use Rattle.icu_rule_meaning.proofs.TreeLemmas.{is_itself}
use Rattle.icu_rule_meaning.specs.weight_tree.inner.SiblingPlaces.{place_by, ends_search, place_among, first_place}

-- ---- places

-- a place where all before fail and it passes
pub place_is : (p : SymbolicWeight → Bool) (xs : List SymbolicWeight) (i : ℕ) (d : SymbolicWeight) → i ≤ length xs
    → ((k : ℕ) → k < i → p (get_or xs k d) ≡ false) → (i < length xs → p (get_or xs i d) ≡ true) → place_by p xs ≡ i
place_is p xs i d most fails passes =
    is_position_or_len (place_by p) p refl (λ x ys. ap (λ n. cond (p x) 0 n) (sym (one_more (place_by p ys)))) xs
    ∙ position_or_len_is p xs i d most fails passes
  where
    one_more : (n : ℕ) → 1 + n ≡ suc n
    one_more n = omega arith

pub place_le : (p : SymbolicWeight → Bool) (xs : List SymbolicWeight) → place_by p xs ≤ length xs
place_le p [] = omega arith
place_le p (x ∷ xs) = elim (cases_Bool (p x)) [
  | inl e ↦ rw e (omega arith)
  | inr e ↦ let rest = place_le p xs in rw e (omega arith)
]

-- a weight that passes, put in no later than all that pass, is the first that passes
pub place_inserted : (p : SymbolicWeight → Bool) (xs : List SymbolicWeight) (i : ℕ) (x : SymbolicWeight)
    → i ≤ place_by p xs → p x ≡ true → place_by p (insert xs i x) ≡ i
place_inserted p xs zero x most passes = rw passes refl
place_inserted p [] (suc i) x most passes = absurd (omega arith)
place_inserted p (v ∷ xs) (suc i) x most passes = elim (cases_Bool (p v)) [
  | inl e ↦
      let none : place_by p (v ∷ xs) ≡ zero = rw e refl in
      absurd (omega arith)
  | inr e ↦
      let further : place_by p (v ∷ xs) ≡ suc (place_by p xs) = rw e refl in
      rw e (ap suc (place_inserted p xs i x (omega arith) passes))
]

-- ---- the same weight

same_ends : (w v : SymbolicWeight) → is_same_weight v w ≡ true → ends_search w v ≡ true
same_ends (Rooted w) (Rooted v) e = let same = eqb-true v w e in le-leb w v (omega arith)
same_ends (Rooted w) (Tailored k) e = e
same_ends (Tailored k) v e = e

pub self_ends : (w : SymbolicWeight) → ends_search w w ≡ true
self_ends w = same_ends w w (is_itself w)

-- where the weight stands at its place, that is where it stands first
pub first_at_place : (w : SymbolicWeight) (xs : List SymbolicWeight) (d : SymbolicWeight)
    → place_among w xs < length xs → is_same_weight (get_or xs (place_among w xs) d) w ≡ true
    → first_place w xs ≡ place_among w xs
first_at_place w [] d small e = refl
first_at_place w (v ∷ xs) d small e = elim (cases_Bool (ends_search w v)) [
  | inl ends ↦
      let here : place_among w (v ∷ xs) ≡ zero = rw ends refl in
      let same : is_same_weight v w ≡ true = ap (λ n. is_same_weight (get_or (v ∷ xs) n d) w) (sym here) ∙ e in
      rw (same, ends) refl
  | inr ends ↦
      let further : place_among w (v ∷ xs) ≡ suc (place_among w xs) = rw ends refl in
      let same : is_same_weight (get_or xs (place_among w xs) d) w ≡ true =
      ap (λ n. is_same_weight (get_or (v ∷ xs) n d) w) (sym further) ∙ e in
      let other : is_same_weight v w ≡ false = elim (cases_Bool (is_same_weight v w)) [
        | inl t ↦ absurd (both_ways (ends_search w v) ends (same_ends w v t))
        | inr f ↦ f
      ] in
      rw (other, ends) (ap suc (first_at_place w xs d (omega arith) same))
]

-- ---- a weight of the root

-- siblings with a weight of the root have it at its place
pub with_rooted_is : (n : ℕ) (xs : List SymbolicWeight) → with_rooted n xs
    ≡ (if is_same_weight (get_or xs (place_among (Rooted n) xs) (Tailored 0)) (Rooted n) then xs
    else insert xs (place_among (Rooted n) xs) (Rooted n))
unfolding with_rooted
with_rooted_is n [] = refl
with_rooted_is n (Tailored k ∷ xs) =
    ap (λ ys. Tailored k ∷ ys) (with_rooted_is n xs)
    ∙ if_map (λ ys. Tailored k ∷ ys)
    (is_same_weight (get_or xs (place_among (Rooted n) xs) (Tailored 0)) (Rooted n)) xs
    (insert xs (place_among (Rooted n) xs) (Rooted n))
with_rooted_is n (Rooted v ∷ xs) = elim (cases_order n v) [
  | inl same ↦ rw (eq-eqb n v same, le-leb n v (omega arith), eq-eqb v n (sym same)) refl
  | inr (inl less) ↦ rw (ne_eqb n v (λ e. omega arith), lt-ltb n v less, le-leb n v (omega arith), ne_eqb v n (λ e. omega arith)) refl
  | inr (inr more) ↦
      rw (ne_eqb n v (λ e. omega arith), le-ltb n v (omega arith), lt-leb n v more)
      (ap (λ ys. Rooted v ∷ ys) (with_rooted_is n xs)
      ∙ if_map (λ ys. Rooted v ∷ ys)
      (is_same_weight (get_or xs (place_among (Rooted n) xs) (Tailored 0)) (Rooted n)) xs
      (insert xs (place_among (Rooted n) xs) (Rooted n)))
]

at_its_place : (n place : ℕ) (xs : List SymbolicWeight) (b : Bool) → place ≡ place_among (Rooted n) xs
    → b ≡ is_same_weight (get_or xs place (Tailored 0)) (Rooted n)
    → with_rooted n xs ≡ (if b then xs else insert xs place (Rooted n))
at_its_place n place xs b at e = rw (e, at) (with_rooted_is n xs)

-- a weight of the root that stands at its place stays there
pub rooted_stays : (n place : ℕ) (xs : List SymbolicWeight) (b : Bool) → place ≡ place_among (Rooted n) xs
    → b ≡ is_same_weight (get_or xs place (Tailored 0)) (Rooted n) → b ≡ true → xs ≡ with_rooted n xs
rooted_stays n place xs b at e is =
    sym (at_its_place n place xs b at e ∙ ap (λ t. if t then xs else insert xs place (Rooted n)) is)

-- another is put there
pub rooted_put : (n place : ℕ) (xs : List SymbolicWeight) (b : Bool) → place ≡ place_among (Rooted n) xs
    → b ≡ is_same_weight (get_or xs place (Tailored 0)) (Rooted n) → b ≡ false
    → insert xs place (Rooted n) ≡ with_rooted n xs
rooted_put n place xs b at e is =
    sym (at_its_place n place xs b at e ∙ ap (λ t. if t then xs else insert xs place (Rooted n)) is)

-- ---- a new weight

pub behind_found : (w new : SymbolicWeight) (xs : List SymbolicWeight) → first_place w xs < length xs
    → with_behind w new xs ≡ insert xs (suc (first_place w xs)) new
unfolding with_behind
behind_found w new [] small = absurd (omega arith)
behind_found w new (v ∷ xs) small = elim (cases_Bool (is_same_weight v w)) [
  | inl e ↦ rw e refl
  | inr e ↦
      let further : first_place w (v ∷ xs) ≡ suc (first_place w xs) = rw e refl in
      rw e (ap (λ ys. v ∷ ys) (behind_found w new xs (omega arith)))
]

pub behind_none : (w new : SymbolicWeight) (xs : List SymbolicWeight) → length xs ≤ first_place w xs
    → with_behind w new xs ≡ xs ++ w ∷ new ∷ []
unfolding with_behind
behind_none w new [] most = refl
behind_none w new (v ∷ xs) most = elim (cases_Bool (is_same_weight v w)) [
  | inl e ↦
      let here : first_place w (v ∷ xs) ≡ zero = rw e refl in
      absurd (omega arith)
  | inr e ↦
      let further : first_place w (v ∷ xs) ≡ suc (first_place w xs) = rw e refl in
      rw e (ap (λ ys. v ∷ ys) (behind_none w new xs (omega arith)))
]

-- ---- the weight before

pub before_first : (last : Option SymbolicWeight) (w : SymbolicWeight) (xs : List SymbolicWeight)
    → first_place w xs ≡ zero → 0 < length xs → before_from last w xs ≡ last
unfolding before_from
before_first last w [] e small = absurd (omega arith)
before_first last w (v ∷ xs) e small = elim (cases_Bool (is_same_weight v w)) [
  | inl same ↦ rw same refl
  | inr other ↦
      let further : first_place w (v ∷ xs) ≡ suc (first_place w xs) = rw other refl in
      absurd (omega arith)
]

pub before_later : (last : Option SymbolicWeight) (w : SymbolicWeight) (xs : List SymbolicWeight) (i : ℕ) (d : SymbolicWeight)
    → first_place w xs ≡ suc i → suc i < length xs → before_from last w xs ≡ Some (get_or xs i d)
unfolding before_from
before_later last w [] i d e small = absurd (omega arith)
before_later last w (v ∷ xs) i d e small = elim (cases_Bool (is_same_weight v w)) [
  | inl same ↦
      let here : first_place w (v ∷ xs) ≡ zero = rw same refl in
      absurd (omega arith)
  | inr other ↦
      let further : first_place w (v ∷ xs) ≡ suc (first_place w xs) = rw other refl in
      let rest : first_place w xs ≡ i = omega arith in
      let room : i < length xs = omega arith in
      rw other (at_rest (λ j. before_later (Some v) w xs j d) i rest room)
]
  where
    at_rest : ((j : ℕ) → first_place w xs ≡ suc j → suc j < length xs → before_from (Some v) w xs ≡ Some (get_or xs j d))
        → (j : ℕ) → first_place w xs ≡ j → j < length xs → before_from (Some v) w xs ≡ Some (get_or (v ∷ xs) j d)
    at_rest further zero rest room = before_first (Some v) w xs rest room
    at_rest further (suc j) rest room = further j rest room

pub before_none : (last : Option SymbolicWeight) (w : SymbolicWeight) (xs : List SymbolicWeight)
    → length xs ≤ first_place w xs → before_from last w xs ≡ None
unfolding before_from
before_none last w [] most = refl
before_none last w (v ∷ xs) most = elim (cases_Bool (is_same_weight v w)) [
  | inl same ↦
      let here : first_place w (v ∷ xs) ≡ zero = rw same refl in
      absurd (omega arith)
  | inr other ↦
      let further : first_place w (v ∷ xs) ≡ suc (first_place w xs) = rw other refl in
      rw other (before_none (Some v) w xs (omega arith))
]

-- nothing stands before the first
pub nothing_before : (w : SymbolicWeight) (xs : List SymbolicWeight) → first_place w xs ≡ zero → directly_before w xs ≡ None
unfolding before_from
nothing_before w [] e = refl
nothing_before w (v ∷ xs) e = before_first None w (v ∷ xs) e (omega arith)
