-- Weights of the root keep their order.
use Rattle.std.proofs.Common.{◌≡◌, ℕ, zero, suc, ◌<◌, ◌≤◌, true, false, ◌==◌, ◌||◌, ◌⊎◌, inl, inr, nat_lt, List, [], ◌∷◌, ◌++◌, length, take, Option, Some, None, if◌then◌else◌, ap, sym, subst, ◌∙◌, arith}
use Rattle.std.proofs.lemmas.Bool.{true≢false, ltb-true}
use Rattle.std.proofs.lemmas.Bool.Decides.{nat_tests}
use Rattle.icu_options.specs.declared.settings.Strength.{Strength}
use Rattle.icu_options.specs.declared.settings.Strength.TheVariants.{Primary, Secondary, Tertiary, Quaternary, Identical}
use Rattle.unicode_normalization.specs.Forms.{nfd}
use Rattle.icu_table_entries.specs.Elements.{common}
use Rattle.icu_rule_meaning.specs.Rules.{ResetPlace, Rule, reset, relation, suppression, setting}
use Rattle.icu_rule_meaning.specs.declared.symbolic.SymbolicWeight.{SymbolicWeight}
use Rattle.icu_rule_meaning.specs.declared.symbolic.SymbolicWeight.TheVariants.{Rooted, Tailored}
use Rattle.icu_rule_meaning.specs.declared.symbolic.SymbolicElement.{SymbolicElement}
use Rattle.icu_rule_meaning.specs.SymbolicElements.{is_same_weight, are_same_weights, ends_with_zero}
use Rattle.icu_rule_meaning.specs.WeightTrees.{WeightTree, first_tree, with_siblings, with_rooted, with_behind, with_weight, with_weights, above_level, weight_at_level}
use Rattle.icu_rule_meaning.specs.TailoredRoots.{Root, lesser_weight}
use Rattle.icu_rule_meaning.specs.Steps.{TailoringState, first_state, counting_at, last_element, with_lesser, place_elements, before_level, before_step, reset_step, difference_step, strength_step, case_step, relation_step, suppression_step, rule_step, state_after, tailoring_of}
use Rattle.icu_rule_meaning.specs.SymbolicOrders.{IsAmongWeights, IsOrderedBefore}
use Rattle.icu_rule_meaning.specs.AscendingLaws.{WeightsOfTheRootAscend}
use Rattle.icu_rule_meaning.proofs.TreeLemmas.{either, is_itself, mapping_tree}
use Rattle.icu_rule_meaning.proofs.WholeElements.{IsWhole, counting_whole, last_whole}
use Rattle.icu_rule_meaning.proofs.WholeStates.{IsWholeState, rule_whole, first_whole_state}
use Rattle.icu_rule_meaning.proofs.BetweenLemmas.{rooted_is_among, with_rooted_siblings}

-- all weights of the root among the siblings are greater
abbrev AreGreater : ℕ → List SymbolicWeight → Type 0
AreGreater v siblings = (u : ℕ) → IsAmongWeights (Rooted u) siblings → v < u

-- the weights of the root ascend
abbrev Ascends : List SymbolicWeight → Type 0
Ascends [] = Unit {0}
Ascends (Tailored k ∷ siblings) = Ascends siblings
Ascends (Rooted v ∷ siblings) = AreGreater v siblings × Ascends siblings

number : SymbolicWeight → ℕ
number (Rooted w) = w
number (Tailored k) = k

same_number : (v w : ℕ) → Rooted v ≡ Rooted w → v ≡ w
unfolding number
same_number v w e = ap number e

not_rooted : (k w : ℕ) → Tailored k ≡ Rooted w → ⊥
not_rooted k w e = cc

greater_from : (n u : ℕ) → (n == u) ≡ false → nat_lt n u ≡ false → u < n
greater_from n u e f = grind (arith, nat_tests)

-- ---- among siblings

pub among_or : (n : ℕ) (w : SymbolicWeight) (xs : List SymbolicWeight) → IsAmongWeights w (with_rooted n xs)
    → (Rooted n ≡ w) ⊎ IsAmongWeights w xs
unfolding with_rooted
among_or n w [] (inl e) = inl e
among_or n w [] (inr a) = absurd a
among_or n w (Tailored k ∷ xs) (inl e) = inr (inl e)
among_or n w (Tailored k ∷ xs) (inr a) = elim (among_or n w xs a) [ inl e ↦ inl e | inr b ↦ inr (inr b) ]
among_or n w (Rooted u ∷ xs) a =
    let Says : List SymbolicWeight → Type 0 = λ ys. IsAmongWeights w ys → (Rooted n ≡ w) ⊎ IsAmongWeights w (Rooted u ∷ xs) in
    let later : List SymbolicWeight = if nat_lt n u then Rooted n ∷ Rooted u ∷ xs else Rooted u ∷ with_rooted n xs in
    let put : IsAmongWeights w (Rooted n ∷ Rooted u ∷ xs) → (Rooted n ≡ w) ⊎ IsAmongWeights w (Rooted u ∷ xs) = λ b. b in
    let further : IsAmongWeights w (Rooted u ∷ with_rooted n xs) → (Rooted n ≡ w) ⊎ IsAmongWeights w (Rooted u ∷ xs) = λ b. elim b [
      | inl e ↦ inr (inl e)
      | inr c ↦ (elim (among_or n w xs c) [ inl e ↦ inl e | inr d ↦ inr (inr d) ])
    ] in
    either Says (n == u) (Rooted u ∷ xs) later (λ _. λ b. inr b)
    (λ _. either Says (nat_lt n u) (Rooted n ∷ Rooted u ∷ xs) (Rooted u ∷ with_rooted n xs) (λ _. put) (λ _. further)) a

ascends_rooted : (n : ℕ) (xs : List SymbolicWeight) → Ascends xs → Ascends (with_rooted n xs)
unfolding with_rooted
ascends_rooted n [] s = (λ u a. absurd a, tt)
ascends_rooted n (Tailored k ∷ xs) s = ascends_rooted n xs s
ascends_rooted n (Rooted u ∷ xs) (greater, s) =
    let later : List SymbolicWeight = if nat_lt n u then Rooted n ∷ Rooted u ∷ xs else Rooted u ∷ with_rooted n xs in
    either Ascends (n == u) (Rooted u ∷ xs) later (λ _. (greater, s))
    (λ other. either Ascends (nat_lt n u) (Rooted n ∷ Rooted u ∷ xs) (Rooted u ∷ with_rooted n xs)
    (λ less. (λ t a. above_new (ltb-true n u less) t a, (greater, s)))
    (λ no. (λ t a. above_old (greater_from n u other no) t a, ascends_rooted n xs s))) where
      above_new : n < u → (t : ℕ) → IsAmongWeights (Rooted t) (Rooted u ∷ xs) → n < t
      above_new less t (inl e) = let same = same_number u t e in omega (arith, less, same)
      above_new less t (inr a) = let more = greater t a in omega (arith, less, more)

      above_old : u < n → (t : ℕ) → IsAmongWeights (Rooted t) (with_rooted n xs) → u < t
      above_old more t a = elim (among_or n (Rooted t) xs a) [
        | inl e ↦ (let same = same_number n t e in omega (arith, more, same))
        | inr b ↦ greater t b
      ]

-- a weight of the root is among the siblings
abbrev IsPut : SymbolicWeight → List SymbolicWeight → Type 0
IsPut (Rooted n) siblings = IsAmongWeights (Rooted n) siblings
IsPut (Tailored k) siblings = Unit {0}

put_further : (w u : SymbolicWeight) (xs : List SymbolicWeight) → is_same_weight u w ≡ false → IsPut w (u ∷ xs) → IsPut w xs
put_further (Rooted n) u xs other (inl e) = absurd (true≢false (sym (subst (λ v. is_same_weight v (Rooted n) ≡ true) (sym e) (is_itself (Rooted n))) ∙ other))
put_further (Rooted n) u xs other (inr a) = a
put_further (Tailored k) u xs other p = tt

among_behind : (w : SymbolicWeight) (k t : ℕ) (xs : List SymbolicWeight) → IsPut w xs
    → IsAmongWeights (Rooted t) (with_behind w (Tailored k) xs) → IsAmongWeights (Rooted t) xs
unfolding with_behind
among_behind (Rooted n) k t [] p a = absurd p
among_behind (Tailored j) k t [] p (inl e) = absurd (not_rooted j t e)
among_behind (Tailored j) k t [] p (inr (inl e)) = absurd (not_rooted k t e)
among_behind (Tailored j) k t [] p (inr (inr a)) = absurd a
among_behind w k t (u ∷ xs) p a =
    let Says : List SymbolicWeight → Type 0 = λ ys. IsAmongWeights (Rooted t) ys → IsAmongWeights (Rooted t) (u ∷ xs) in
    let near : IsAmongWeights (Rooted t) (u ∷ Tailored k ∷ xs) → IsAmongWeights (Rooted t) (u ∷ xs) = λ b. elim b [
      | inl e ↦ inl e
      | inr c ↦ (elim c [ inl e ↦ absurd (not_rooted k t e) | inr d ↦ inr d ])
    ] in
    either Says (is_same_weight u w) (u ∷ Tailored k ∷ xs) (u ∷ with_behind w (Tailored k) xs) (λ _. near)
    (λ other. λ b. elim b [ inl e ↦ inl e | inr c ↦ inr (among_behind w k t xs (put_further w u xs other p) c) ]) a

ascends_behind : (w : SymbolicWeight) (k : ℕ) (xs : List SymbolicWeight) → IsPut w xs → Ascends xs
    → Ascends (with_behind w (Tailored k) xs)
unfolding with_behind
ascends_behind (Rooted n) k [] p s = absurd p
ascends_behind (Tailored j) k [] p s = tt
ascends_behind w k (Tailored j ∷ xs) p s =
    either Ascends (is_same_weight (Tailored j) w) (Tailored j ∷ Tailored k ∷ xs) (Tailored j ∷ with_behind w (Tailored k) xs)
    (λ _. s) (λ other. ascends_behind w k xs (put_further w (Tailored j) xs other p) s)
ascends_behind w k (Rooted u ∷ xs) p (greater, s) =
    either Ascends (is_same_weight (Rooted u) w) (Rooted u ∷ Tailored k ∷ xs) (Rooted u ∷ with_behind w (Tailored k) xs)
    (λ _. (λ t a. elim a [ inl e ↦ absurd (not_rooted k t e) | inr b ↦ greater t b ], s))
    (λ other. let put = put_further w (Rooted u) xs other p in
    (λ t a. greater t (among_behind w k t xs put a), ascends_behind w k xs put s))

-- ---- in the tree

abbrev TreeAscends : WeightTree → Type 0
TreeAscends tree = (above : List SymbolicWeight) → Ascends (tree above)

first_ascends : TreeAscends first_tree
first_ascends [] = tt
first_ascends (w ∷ ws) =
    either (λ c. Ascends (c ∷ [])) (length (w ∷ ws) == 3 || ends_with_zero (w ∷ ws)) (Rooted 0) (Rooted common)
    (λ _. (λ u a. absurd a, tt)) (λ _. (λ u a. absurd a, tt))

siblings_ascend : (tree : WeightTree) (above siblings : List SymbolicWeight) → TreeAscends tree → Ascends siblings
    → TreeAscends (with_siblings tree above siblings)
siblings_ascend tree above siblings t s other =
    either Ascends (are_same_weights other above) siblings (tree other) (λ _. s) (λ _. t other)

weight_ascends : (tree : WeightTree) (above : List SymbolicWeight) (w : SymbolicWeight) → TreeAscends tree
    → TreeAscends (with_weight tree above w)
weight_ascends tree above (Rooted n) t = siblings_ascend tree above (with_rooted n (tree above)) t (ascends_rooted n (tree above) (t above))
weight_ascends tree above (Tailored k) t = t

weights_ascend : (tree : WeightTree) (above ws : List SymbolicWeight) → TreeAscends tree → TreeAscends (with_weights tree above ws)
unfolding with_weights
weights_ascend tree above [] t = t
weights_ascend tree above (x ∷ ws) t = weights_ascend (with_weight tree above x) (above ++ x ∷ []) ws (weight_ascends tree above x t)

pub is_put : (tree : WeightTree) (above : List SymbolicWeight) (w : SymbolicWeight) → IsPut w (with_weight tree above w above)
is_put tree above (Rooted n) = subst (IsAmongWeights (Rooted n)) (sym (with_rooted_siblings tree above n)) (rooted_is_among n (tree above))
is_put tree above (Tailored k) = tt

abbrev IsPutAt : WeightTree → ℕ → List SymbolicWeight → Type 0
IsPutAt tree level ws = IsPut (weight_at_level level ws) (with_weights tree [] (take level ws) (above_level level ws))

pub level_is_put : (tree : WeightTree) (level : ℕ) (e : SymbolicElement) → 1 ≤ level → level ≤ 4 → IsWhole e → IsPutAt tree level e.weights
unfolding with_weights
level_is_put tree zero e p q w = absurd (omega arith)
level_is_put tree (suc zero) e p q w = subst (IsPutAt tree 1) (sym w.weights) (is_put tree [] w.primary)
level_is_put tree (suc (suc zero)) e p q w =
    subst (IsPutAt tree 2) (sym w.weights) (is_put (with_weight tree [] w.primary) (w.primary ∷ []) w.secondary)
level_is_put tree (suc (suc (suc zero))) e p q w =
    subst (IsPutAt tree 3) (sym w.weights)
    (is_put (with_weight (with_weight tree [] w.primary) (w.primary ∷ []) w.secondary) (w.primary ∷ w.secondary ∷ []) w.tertiary)
level_is_put tree (suc (suc (suc (suc zero)))) e p q w =
    subst (IsPutAt tree 4) (sym w.weights)
    (is_put (with_weight (with_weight (with_weight tree [] w.primary) (w.primary ∷ []) w.secondary) (w.primary ∷ w.secondary ∷ []) w.tertiary)
    (w.primary ∷ w.secondary ∷ w.tertiary ∷ []) w.quaternary)
level_is_put tree (suc (suc (suc (suc (suc level))))) e p q w = absurd (omega arith)

-- ---- rules

lesser_ascends : (root : Root) (tree : WeightTree) (above : List SymbolicWeight) (w : SymbolicWeight) → TreeAscends tree
    → TreeAscends (with_lesser root tree above w)
lesser_ascends root tree above (Rooted n) t = weight_ascends tree above (Rooted (lesser_weight root above n)) t
lesser_ascends root tree above (Tailored k) t = t

before_ascends : (root : Root) (level : ℕ) (state : TailoringState) → TreeAscends state.tree
    → TreeAscends (before_step root level state).tree
unfolding before_step
before_ascends root level state t =
    let e = last_element (counting_at level state.elements) in
    lesser_ascends root (with_weights state.tree [] (take level e.weights)) (above_level level e.weights)
    (weight_at_level level e.weights) (weights_ascend state.tree [] (take level e.weights) t)

reset_ascends : (root : Root) (before : Option Strength) (place : ResetPlace) (state : TailoringState)
    → TreeAscends state.tree → TreeAscends (reset_step root before place state).tree
unfolding reset_step
reset_ascends root None place state t = t
reset_ascends root (Some strength) place state t =
    before_ascends root (before_level strength) (record state { elements = place_elements root state place }) t

difference_ascends : (level : ℕ) (state : TailoringState) → 1 ≤ level → level ≤ 4 → IsWholeState state
    → TreeAscends state.tree → TreeAscends (difference_step level state).tree
unfolding difference_step
difference_ascends level state p q whole t =
    let e = last_element (counting_at level state.elements) in
    let above = above_level level e.weights in
    let placed = with_weights state.tree [] (take level e.weights) in
    let v = weight_at_level level e.weights in
    let ascends = weights_ascend state.tree [] (take level e.weights) t in
    siblings_ascend placed above (with_behind v (Tailored state.made) (placed above)) ascends
    (ascends_behind v state.made (placed above)
    (level_is_put state.tree level e p q (last_whole (counting_at level state.elements) (counting_whole level state.elements whole.elements)))
    (ascends above))

strength_ascends : (strength : Strength) (state : TailoringState) → IsWholeState state → TreeAscends state.tree
    → TreeAscends (strength_step strength state).tree
strength_ascends Primary state w t = difference_ascends 1 state (omega arith) (omega arith) w t
strength_ascends Secondary state w t = difference_ascends 2 state (omega arith) (omega arith) w t
strength_ascends Tertiary state w t = difference_ascends 3 state (omega arith) (omega arith) w t
strength_ascends Quaternary state w t = difference_ascends 4 state (omega arith) (omega arith) w t
strength_ascends Identical state w t = t

rule_ascends : (root : Root) (state : TailoringState) (rule : Rule) → IsWholeState state → TreeAscends state.tree
    → TreeAscends (rule_step root state rule).tree
unfolding relation_step suppression_step
rule_ascends root state (reset before place) w t = reset_ascends root before place state t
rule_ascends root state (relation strength prefix string extension) w t =
    subst TreeAscends
    (sym (mapping_tree (nfd prefix) (nfd string) _ (case_step root (nfd string) (strength_step strength state))))
    (strength_ascends strength state w t)
rule_ascends root state (suppression ranges) w t = t
rule_ascends root state (setting said) w t = t

state_ascends : (root : Root) (state : TailoringState) (rules : List Rule) → IsWholeState state → TreeAscends state.tree
    → TreeAscends (state_after root state rules).tree
state_ascends root state [] w t = t
state_ascends root state (rule ∷ rules) w t =
    state_ascends root (rule_step root state rule) rules (rule_whole root state rule w) (rule_ascends root state rule w t)

pub stands_less : (xs : List SymbolicWeight) (v w : ℕ) → Ascends xs → IsOrderedBefore (Rooted v) (Rooted w) xs → v < w
stands_less [] v w s b = absurd b
stands_less (Tailored k ∷ xs) v w s (inl e) = absurd (not_rooted k v e.0)
stands_less (Tailored k ∷ xs) v w s (inr b) = stands_less xs v w s b
stands_less (Rooted u ∷ xs) v w (greater, s) (inl e) =
    let same = same_number u v e.0 in let more = greater w e.1 in omega (arith, same, more)
stands_less (Rooted u ∷ xs) v w (greater, s) (inr b) = stands_less xs v w s b

pub root_ascends : WeightsOfTheRootAscend
root_ascends root rules above v w b =
    stands_less ((tailoring_of root rules).tree above) v w
    (state_ascends root (first_state root) rules (first_whole_state root) first_ascends above) b
