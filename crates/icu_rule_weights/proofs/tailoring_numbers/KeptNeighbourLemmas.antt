-- Tailored weights stand between the same neighbours in the root as in the tree.
use Rattle.std.proofs.Common.{◌≡◌, ◌≢◌, ℕ, zero, suc, Bool, true, false, ◌==◌, ◌||◌, ◌+◌, ◌<◌, ◌≤◌, ◌⊎◌, nat_lt, inl, inr, List, [], ◌∷◌, ◌++◌, length, get_or, Option, Some, None, if◌then◌else◌, refl, sym, ap, ◌∙◌, subst, arith}
use Rattle.std.specs.List.{AllPairs, Contains}
use Rattle.std.proofs.lemmas.Bool.{cases_Bool, ltb-true}
use Rattle.std.proofs.lemmas.Bool.Decides.{nat_tests}
use Rattle.icu_table_entries.specs.Elements.{common}
use Rattle.icu_rule_meaning.specs.declared.symbolic.SymbolicWeight.{SymbolicWeight}
use Rattle.icu_rule_meaning.specs.declared.symbolic.SymbolicWeight.TheVariants.{Rooted, Tailored}
use Rattle.icu_rule_meaning.specs.SymbolicElements.{are_same_weights, common_below, ends_with_zero}
use Rattle.icu_rule_meaning.specs.TailoredRoots.{Root, first_above, numbers_of}
use Rattle.icu_rule_meaning.specs.WeightTrees.{WeightTree, first_tree, with_rooted, with_weight}
use Rattle.icu_rule_meaning.specs.SymbolicOrders.{IsAmongWeights, IsOrderedBefore, NumbersTree}
use Rattle.icu_rule_meaning.proofs.TreeLemmas.{either, same_weights_are}
use Rattle.icu_rule_meaning.specs.declared.weight_tree.parents.Parents.{Parents}
use Rattle.icu_rule_meaning.specs.weight_tree.BuiltTrees.{AreBegun}
use Rattle.icu_rule_weights.specs.declared.tailoring_numbers.tailoring_numbers.TailoringNumbers.{TailoringNumbers}
use Rattle.icu_rule_weights.specs.tailoring_numbers.Numberings.{number_of, numbering_of, AscendAmong}
use Rattle.icu_rule_weights.specs.tailoring_numbers.RootNeighbours.{next_of_root, IsOfRoot, KeepsNeighbours}
use Rattle.icu_rule_weights.specs.tailoring_numbers.inner.AscendingTests.{stands_below, next_behind, ascend_above, ascend_all, AscendBelow}
use Rattle.icu_rule_weights.proofs.tailoring_numbers.AscendingNumberLemmas.{parts, Chain, chain_none, chain_cons, chain_of, ascend_cons}
use Rattle.icu_rule_weights.proofs.tailoring_numbers.NumberingLemmas.{numbers_by, among_begun, ascends_everywhere}

-- ---- the next weight of the root

abbrev IsAmong : ℕ → List ℕ → Type 0
IsAmong w [] = ⊥
IsAmong w (u ∷ us) = (u ≡ w) ⊎ IsAmong w us

abbrev Ascends : List ℕ → Type 0
Ascends [] = Unit {0}
Ascends (u ∷ us) = ((w : ℕ) → IsAmong w us → u < w) × Ascends us

among_at : (w : ℕ) (us : List ℕ) (k : ℕ) → k < length us → get_or us k w ≡ w → IsAmong w us
among_at w [] k small is = absurd (omega arith)
among_at w (u ∷ us) zero small is = inl is
among_at w (u ∷ us) (suc k) small is = inr (among_at w us k (omega arith) is)

less_at : (u : ℕ) (us : List ℕ) → ((k d : ℕ) → k < length us → u < get_or us k d) → (w : ℕ) → IsAmong w us → u < w
less_at u [] less w among = absurd among
less_at u (v ∷ us) less w (inl is) = subst (λ x. u < x) is (less 0 0 (omega arith))
less_at u (v ∷ us) less w (inr among) = less_at u us (λ k d small. less (suc k) d (omega arith)) w among

ascends_from : (us : List ℕ) → AllPairs (λ u v. u < v) us → Ascends us
ascends_from [] pairs = tt
ascends_from (u ∷ us) pairs = (
  less_at u us (λ k d small. pairs zero (suc k) d (omega arith) (omega arith)),
  ascends_from us (λ i j d l m. pairs (suc i) (suc j) d (omega arith) (omega arith)),
)

-- what is below the next weight is below this one
abbrev Limits : Option ℕ → ℕ → Type 0
Limits next w = (k n : ℕ) → stands_below (Tailored k) next n ≡ true → n < w

limits_here : (u w : ℕ) (us : List ℕ) → ((x : ℕ) → IsAmong x us → u < x) → (u ≡ w) ⊎ IsAmong w us → Limits (Some u) w
limits_here u w us above (inl is) k n below = subst (λ x. n < x) is (ltb-true n u below)
limits_here u w us above (inr among) k n below =
    let first : n < u = ltb-true n u below in
    let second : u < w = above w among in
    omega (arith, first, second)

most_from : (v u : ℕ) → nat_lt v u ≡ false → u ≤ v
most_from v u not_so = grind (arith, nat_tests)

limits_further : (u v w : ℕ) (us : List ℕ) (next : Option ℕ) → nat_lt v u ≡ false → v < w → (IsAmong w us → Limits next w)
    → (u ≡ w) ⊎ IsAmong w us → Limits next w
limits_further u v w us next not_so less deeper (inl is) =
    let most : u ≤ v = most_from v u not_so in
    absurd (omega (arith, most, is, less))
limits_further u v w us next not_so less deeper (inr among) = deeper among

first_limits : (us : List ℕ) (v w : ℕ) → Ascends us → IsAmong w us → v < w → Limits (first_above us v) w
unfolding first_above
first_limits [] v w ascends among less = absurd among
first_limits (u ∷ us) v w ascends among less =
    either (λ (next : Option ℕ). Limits next w) (nat_lt v u) (Some u) (first_above us v) (λ _. limits_here u w us ascends.0 among)
    (λ not_so. limits_further u v w us (first_above us v) not_so less (λ further. first_limits us v w ascends.1 further less) among)

next_limits : (root : Root) (above : List SymbolicWeight) (v w : ℕ) → IsOfRoot root above w → v < w
    → Limits (next_of_root root above v) w
next_limits root above v w is less =
    let vs : List ℕ = root.weights is.numbers in
    let next_by : Option (List ℕ) → Option ℕ = λ o. elim o [ None ↦ None | Some numbers ↦ first_above (root.weights numbers) v ] in
    subst (λ (next : Option ℕ). Limits next w) (sym (ap next_by is.are))
    (first_limits vs v w (ascends_from vs is.ascending) (among_at w vs is.among.0 is.among.1 is.among.2) less)

-- ---- a weight of the root in its place

above_from : (w v : ℕ) → (w == v) ≡ false → nat_lt w v ≡ false → v < w
above_from w v other not_so = grind (arith, nat_tests)

module _ (root : Root) (above : List SymbolicWeight) (t : TailoringNumbers) (w : ℕ) (is : IsOfRoot root above w) where
  put_in : (last : ℕ) (next : Option ℕ) (xs : List SymbolicWeight) → last < w → Limits next w
      → ascend_above root above t last next xs ≡ true → Chain t last (with_rooted w xs)
  unfolding with_rooted
  put_in last next [] less limits e = chain_cons t last (Rooted w) [] less (chain_none t w)
  put_in last next (Tailored k ∷ xs) less limits e =
      let p = parts root above t last next (Tailored k) xs e in
      chain_cons t last (Tailored k) (with_rooted w xs) p.less
      (put_in (number_of t (Tailored k)) next xs (limits k (number_of t (Tailored k)) p.below) limits p.rest)
  put_in last next (Rooted v ∷ xs) less limits e =
      let p = parts root above t last next (Rooted v) xs e in
      let rest : Chain t v xs = chain_of root above t v (next_of_root root above v) xs p.rest in
      let later : List SymbolicWeight = if nat_lt w v then Rooted w ∷ Rooted v ∷ xs else Rooted v ∷ with_rooted w xs in
      either (Chain t last) (w == v) (Rooted v ∷ xs) later (λ _. chain_cons t last (Rooted v) xs p.less rest)
      (λ other. either (Chain t last) (nat_lt w v) (Rooted w ∷ Rooted v ∷ xs) (Rooted v ∷ with_rooted w xs)
      (λ so. chain_cons t last (Rooted w) (Rooted v ∷ xs) less (chain_cons t w (Rooted v) xs (ltb-true w v so) rest))
      (λ not_so. chain_cons t last (Rooted v) (with_rooted w xs) p.less
      (put_in v (next_of_root root above v) xs (above_from w v other not_so)
      (next_limits root above v w is (above_from w v other not_so)) p.rest)))

  put_all : (xs : List SymbolicWeight) → ascend_all root above t xs ≡ true → AscendAmong t (with_rooted w xs)
  unfolding with_rooted
  put_all [] e = ascend_cons t (Rooted w) [] (chain_none t w)
  put_all (Tailored k ∷ xs) e = cc
  put_all (Rooted v ∷ xs) e =
      let rest : Chain t v xs = chain_of root above t v (next_of_root root above v) xs e in
      let later : List SymbolicWeight = if nat_lt w v then Rooted w ∷ Rooted v ∷ xs else Rooted v ∷ with_rooted w xs in
      either (AscendAmong t) (w == v) (Rooted v ∷ xs) later (λ _. ascend_cons t (Rooted v) xs rest)
      (λ other. either (AscendAmong t) (nat_lt w v) (Rooted w ∷ Rooted v ∷ xs) (Rooted v ∷ with_rooted w xs)
      (λ so. ascend_cons t (Rooted w) (Rooted v ∷ xs) (chain_cons t w (Rooted v) xs (ltb-true w v so) rest))
      (λ not_so. ascend_cons t (Rooted v) (with_rooted w xs)
      (put_in v (next_of_root root above v) xs (above_from w v other not_so)
      (next_limits root above v w is (above_from w v other not_so)) e)))

put_beside : (t : TailoringNumbers) (w v : ℕ) → AscendAmong t (with_rooted w (Rooted v ∷ []))
unfolding with_rooted
put_beside t w v =
    let later : List SymbolicWeight = if nat_lt w v then Rooted w ∷ Rooted v ∷ [] else Rooted v ∷ Rooted w ∷ [] in
    either (AscendAmong t) (w == v) (Rooted v ∷ []) later (λ _. ascend_cons t (Rooted v) [] (chain_none t v))
    (λ other. either (AscendAmong t) (nat_lt w v) (Rooted w ∷ Rooted v ∷ []) (Rooted v ∷ Rooted w ∷ [])
    (λ so. ascend_cons t (Rooted w) (Rooted v ∷ []) (chain_cons t w (Rooted v) [] (ltb-true w v so) (chain_none t v)))
    (λ not_so. ascend_cons t (Rooted v) (Rooted w ∷ []) (chain_cons t v (Rooted w) [] (above_from w v other not_so) (chain_none t w))))

put_first : (t : TailoringNumbers) (w : ℕ) (above : List SymbolicWeight) → AscendAmong t (with_rooted w (first_tree above))
unfolding with_rooted
put_first t w [] = ascend_cons t (Rooted w) [] (chain_none t w)
put_first t w (u ∷ above) =
    either (λ (v : SymbolicWeight). AscendAmong t (with_rooted w (v ∷ []))) (length (u ∷ above) == 3 || ends_with_zero (u ∷ above)) (Rooted 0)
    (Rooted common) (λ _. put_beside t w 0) (λ _. put_beside t w common)

-- ---- the tree

pub keeps_neighbours : (root : Root) (t : TailoringNumbers) (tree : WeightTree) (begun : List Parents) → AreBegun tree begun
    → AscendBelow root t tree begun → KeepsNeighbours root tree (numbering_of t)
keeps_neighbours root t tree begun are ascend above w is = numbers_by t (with_weight tree above (Rooted w)) everywhere
  where
    put : AscendAmong t (with_rooted w (tree above))
    put = elim (are above) [
      | inl among ↦ put_all root above t w is (tree above) (among_begun root t tree begun above ascend among)
      | inr first ↦ subst (λ xs. AscendAmong t (with_rooted w xs)) (sym first) (put_first t w above)
    ]

    everywhere : (other : List SymbolicWeight) → AscendAmong t (with_weight tree above (Rooted w) other)
    everywhere other =
        either (AscendAmong t) (are_same_weights other above) (with_rooted w (tree above)) (tree other) (λ _. put)
        (λ _. ascends_everywhere root t tree begun are ascend other)
