-- Nothing of the root stands between the two sides of a relation.
use Rattle.std.proofs.Common.{◌≡◌, ℕ, Bool, ◌==◌, ◌⊎◌, inl, inr, nat_lt, List, [], ◌∷◌, ◌++◌, take, Option, Some, None, if◌then◌else◌, refl, ap, sym, subst, ◌∙◌, arith}
use Rattle.std.proofs.lemmas.Bool.{true≢false}
use Rattle.icu_options.specs.declared.settings.Strength.{Strength}
use Rattle.icu_options.specs.declared.settings.Strength.TheVariants.{Primary, Secondary, Tertiary, Quaternary, Identical}
use Rattle.unicode_normalization.specs.Forms.{nfd}
use Rattle.icu_rule_meaning.specs.Rules.{ResetPlace, Rule, reset, relation, suppression, setting, level_of}
use Rattle.icu_rule_meaning.specs.declared.symbolic.SymbolicWeight.{SymbolicWeight}
use Rattle.icu_rule_meaning.specs.declared.symbolic.SymbolicWeight.TheVariants.{Rooted, Tailored}
use Rattle.icu_rule_meaning.specs.SymbolicElements.{is_same_weight, are_same_weights}
use Rattle.icu_rule_meaning.specs.WeightTrees.{WeightTree, with_siblings, with_rooted, with_behind, with_weight, with_weights, with_new_weight, above_level, weight_at_level}
use Rattle.icu_rule_meaning.specs.TailoredRoots.{Root, lesser_weight}
use Rattle.icu_rule_meaning.specs.Steps.{TailoringState, first_state, counting_at, last_element, with_lesser, place_elements, before_level, before_step, reset_step, difference_step, strength_step, case_step, relation_step, suppression_step, rule_step, state_after, tailoring_of}
use Rattle.icu_rule_meaning.specs.SymbolicOrders.{IsAmongWeights, IsOrderedBefore, Numbering, NumbersTree}
use Rattle.icu_rule_meaning.specs.BetweenLaws.{IsNotBetween, NothingOfTheRootIsBetween}
use Rattle.icu_rule_meaning.specs.RelationLaws.{weights_before}
use Rattle.icu_rule_meaning.proofs.TreeLemmas.{either, same_weight_is, same_weights_are, are_themselves, mapping_tree}
use Rattle.icu_rule_meaning.proofs.RelationLemmas.{state_after-append}

-- the siblings come to a tailored weight past tailored ones alone
abbrev LeadsTo : ℕ → List SymbolicWeight → Type 0
LeadsTo k [] = ⊥
LeadsTo k (Rooted v ∷ siblings) = ⊥
LeadsTo k (Tailored j ∷ siblings) = (j ≡ k) ⊎ LeadsTo k siblings

-- behind a weight the siblings come to a tailored one past tailored ones alone
abbrev IsCloseBehind : ℕ → SymbolicWeight → List SymbolicWeight → Type 0
IsCloseBehind k w [] = ⊥
IsCloseBehind k w (x ∷ siblings) = ((x ≡ w) × LeadsTo k siblings) ⊎ IsCloseBehind k w siblings

-- ---- among siblings

leads_rooted : (n k : ℕ) (xs : List SymbolicWeight) → LeadsTo k xs → LeadsTo k (with_rooted n xs)
unfolding with_rooted
leads_rooted n k [] l = l
leads_rooted n k (Rooted v ∷ xs) l = absurd l
leads_rooted n k (Tailored j ∷ xs) (inl e) = inl e
leads_rooted n k (Tailored j ∷ xs) (inr l) = inr (leads_rooted n k xs l)

close_rooted : (n k : ℕ) (w : SymbolicWeight) (xs : List SymbolicWeight) → IsCloseBehind k w xs
    → IsCloseBehind k w (with_rooted n xs)
unfolding with_rooted
close_rooted n k w [] c = absurd c
close_rooted n k w (Tailored j ∷ xs) (inl e) = inl (e.0, leads_rooted n k xs e.1)
close_rooted n k w (Tailored j ∷ xs) (inr c) = inr (close_rooted n k w xs c)
close_rooted n k w (Rooted u ∷ xs) c =
    let further : IsCloseBehind k w (Rooted u ∷ with_rooted n xs) = elim c [
      | inl e ↦ inl (e.0, leads_rooted n k xs e.1)
      | inr d ↦ inr (close_rooted n k w xs d)
    ] in
    let later : List SymbolicWeight = if nat_lt n u then Rooted n ∷ Rooted u ∷ xs else Rooted u ∷ with_rooted n xs in
    either (IsCloseBehind k w) (n == u) (Rooted u ∷ xs) later (λ _. c)
    (λ _. either (IsCloseBehind k w) (nat_lt n u) (Rooted n ∷ Rooted u ∷ xs) (Rooted u ∷ with_rooted n xs)
    (λ _. inr c) (λ _. further))

leads_behind : (v : SymbolicWeight) (made k : ℕ) (xs : List SymbolicWeight) → LeadsTo k xs
    → LeadsTo k (with_behind v (Tailored made) xs)
unfolding with_behind
leads_behind v made k [] l = absurd l
leads_behind v made k (Rooted u ∷ xs) l = absurd l
leads_behind v made k (Tailored j ∷ xs) l =
    let near : LeadsTo k (Tailored j ∷ Tailored made ∷ xs) = elim l [ inl e ↦ inl e | inr m ↦ inr (inr m) ] in
    let further : LeadsTo k (Tailored j ∷ with_behind v (Tailored made) xs) = elim l [
      | inl e ↦ inl e
      | inr m ↦ inr (leads_behind v made k xs m)
    ] in
    either (LeadsTo k) (is_same_weight (Tailored j) v) (Tailored j ∷ Tailored made ∷ xs)
    (Tailored j ∷ with_behind v (Tailored made) xs) (λ _. near) (λ _. further)

close_behind : (v : SymbolicWeight) (made k : ℕ) (w : SymbolicWeight) (xs : List SymbolicWeight) → IsCloseBehind k w xs
    → IsCloseBehind k w (with_behind v (Tailored made) xs)
unfolding with_behind
close_behind v made k w [] c = absurd c
close_behind v made k w (x ∷ xs) c =
    let near : IsCloseBehind k w (x ∷ Tailored made ∷ xs) = elim c [ inl e ↦ inl (e.0, inr e.1) | inr d ↦ inr (inr d) ] in
    let further : IsCloseBehind k w (x ∷ with_behind v (Tailored made) xs) = elim c [
      | inl e ↦ inl (e.0, leads_behind v made k xs e.1)
      | inr d ↦ inr (close_behind v made k w xs d)
    ] in
    either (IsCloseBehind k w) (is_same_weight x v) (x ∷ Tailored made ∷ xs) (x ∷ with_behind v (Tailored made) xs)
    (λ _. near) (λ _. further)

new_is_close : (w : SymbolicWeight) (k : ℕ) (xs : List SymbolicWeight) → IsCloseBehind k w (with_behind w (Tailored k) xs)
unfolding with_behind
new_is_close w k [] = inl (refl, inl refl)
new_is_close w k (u ∷ xs) =
    either (IsCloseBehind k w) (is_same_weight u w) (u ∷ Tailored k ∷ xs) (u ∷ with_behind w (Tailored k) xs)
    (λ e. inl (same_weight_is u w e, inl refl)) (λ _. inr (new_is_close w k xs))

-- ---- in the tree

abbrev KeepsClose : WeightTree → WeightTree → Type 0
KeepsClose tree later = (above : List SymbolicWeight) (k : ℕ) (w : SymbolicWeight)
    → IsCloseBehind k w (tree above) → IsCloseBehind k w (later above)

siblings_keep : (tree : WeightTree) (above siblings : List SymbolicWeight)
    → ((k : ℕ) (w : SymbolicWeight) → IsCloseBehind k w (tree above) → IsCloseBehind k w siblings)
    → KeepsClose tree (with_siblings tree above siblings)
siblings_keep tree above siblings keeps other k w c =
    either (IsCloseBehind k w) (are_same_weights other above) siblings (tree other)
    (λ e. keeps k w (subst (λ o. IsCloseBehind k w (tree o)) (same_weights_are other above e) c)) (λ _. c)

weight_keeps : (tree : WeightTree) (above : List SymbolicWeight) (w : SymbolicWeight)
    → KeepsClose tree (with_weight tree above w)
weight_keeps tree above (Rooted n) =
    siblings_keep tree above (with_rooted n (tree above)) (λ k w. close_rooted n k w (tree above))
weight_keeps tree above (Tailored j) = λ other k w c. c

weights_keep : (tree : WeightTree) (above ws : List SymbolicWeight) → KeepsClose tree (with_weights tree above ws)
unfolding with_weights
weights_keep tree above [] = λ other k w c. c
weights_keep tree above (x ∷ ws) = λ other k w c.
    weights_keep (with_weight tree above x) (above ++ x ∷ []) ws other k w (weight_keeps tree above x other k w c)

new_weight_keeps : (tree : WeightTree) (level : ℕ) (ws : List SymbolicWeight) (made : ℕ)
    → KeepsClose tree (with_new_weight tree level ws (Tailored made))
new_weight_keeps tree level ws made = λ other k w c.
    let above = above_level level ws in
    let placed = with_weights tree [] (take level ws) in
    siblings_keep placed above (with_behind (weight_at_level level ws) (Tailored made) (placed above))
    (λ j x. close_behind (weight_at_level level ws) made j x (placed above)) other k w
    (weights_keep tree [] (take level ws) other k w c)

lesser_keeps : (root : Root) (tree : WeightTree) (above : List SymbolicWeight) (w : SymbolicWeight)
    → KeepsClose tree (with_lesser root tree above w)
lesser_keeps root tree above (Rooted n) = weight_keeps tree above (Rooted (lesser_weight root above n))
lesser_keeps root tree above (Tailored j) = λ other k w c. c

before_keeps : (root : Root) (level : ℕ) (state : TailoringState) → KeepsClose state.tree (before_step root level state).tree
unfolding before_step
before_keeps root level state = λ other k w c.
    let e = last_element (counting_at level state.elements) in
    lesser_keeps root (with_weights state.tree [] (take level e.weights)) (above_level level e.weights)
    (weight_at_level level e.weights) other k w (weights_keep state.tree [] (take level e.weights) other k w c)

reset_keeps : (root : Root) (before : Option Strength) (place : ResetPlace) (state : TailoringState)
    → KeepsClose state.tree (reset_step root before place state).tree
unfolding reset_step
reset_keeps root None place state = λ other k w c. c
reset_keeps root (Some strength) place state =
    before_keeps root (before_level strength) (record state { elements = place_elements root state place })

difference_keeps : (level : ℕ) (state : TailoringState) → KeepsClose state.tree (difference_step level state).tree
unfolding difference_step
difference_keeps level state =
    new_weight_keeps state.tree level (last_element (counting_at level state.elements)).weights state.made

strength_keeps : (strength : Strength) (state : TailoringState) → KeepsClose state.tree (strength_step strength state).tree
strength_keeps Primary state = difference_keeps 1 state
strength_keeps Secondary state = difference_keeps 2 state
strength_keeps Tertiary state = difference_keeps 3 state
strength_keeps Quaternary state = difference_keeps 4 state
strength_keeps Identical state = λ other k w c. c

rule_keeps : (root : Root) (state : TailoringState) (rule : Rule) → KeepsClose state.tree (rule_step root state rule).tree
unfolding relation_step suppression_step
rule_keeps root state (reset before place) = reset_keeps root before place state
rule_keeps root state (relation strength prefix string extension) = λ other k w c.
    subst (λ (t : WeightTree). IsCloseBehind k w (t other))
    (sym (mapping_tree (nfd prefix) (nfd string) _ (case_step root (nfd string) (strength_step strength state))))
    (strength_keeps strength state other k w c)
rule_keeps root state (suppression ranges) = λ other k w c. c
rule_keeps root state (setting said) = λ other k w c. c

pub state_keeps : (root : Root) (state : TailoringState) (rules : List Rule)
    → KeepsClose state.tree (state_after root state rules).tree
state_keeps root state [] = λ other k w c. c
state_keeps root state (rule ∷ rules) = λ other k w c.
    state_keeps root (rule_step root state rule) rules other k w (rule_keeps root state rule other k w c)

-- ---- the weight of a relation

abbrev IsCloseIn : WeightTree → ℕ → List SymbolicWeight → ℕ → Type 0
IsCloseIn tree level ws k = IsCloseBehind k (weight_at_level level ws) (tree (above_level level ws))

pub difference_is_close : (level : ℕ) (state : TailoringState)
    → IsCloseIn (difference_step level state).tree level (last_element (counting_at level state.elements)).weights state.made
unfolding difference_step
difference_is_close level state =
    let ws = (last_element (counting_at level state.elements)).weights in
    let above = above_level level ws in
    let placed = with_weights state.tree [] (take level ws) in
    let w = weight_at_level level ws in
    either (IsCloseBehind state.made w) (are_same_weights above above) (with_behind w (Tailored state.made) (placed above)) (placed above)
    (λ _. new_is_close w state.made (placed above)) (λ e. absurd (true≢false (sym (are_themselves above) ∙ e)))

strength_is_close : (strength : Strength) (state : TailoringState) → (strength ≡ Identical → ⊥)
    → IsCloseIn (strength_step strength state).tree (level_of strength)
    (last_element (counting_at (level_of strength) state.elements)).weights state.made
strength_is_close Primary state other = difference_is_close 1 state
strength_is_close Secondary state other = difference_is_close 2 state
strength_is_close Tertiary state other = difference_is_close 3 state
strength_is_close Quaternary state other = difference_is_close 4 state
strength_is_close Identical state other = absurd (other refl)

relation_is_close : (root : Root) (strength : Strength) (prefix string extension : List ℕ) (state : TailoringState)
    → (strength ≡ Identical → ⊥)
    → IsCloseIn (relation_step root strength prefix string extension state).tree (level_of strength)
    (last_element (counting_at (level_of strength) state.elements)).weights state.made
unfolding relation_step
relation_is_close root strength prefix string extension state other =
    subst (λ (t : WeightTree). IsCloseIn t (level_of strength) (last_element (counting_at (level_of strength) state.elements)).weights state.made)
    (sym (mapping_tree (nfd prefix) (nfd string) _ (case_step root (nfd string) (strength_step strength state))))
    (strength_is_close strength state other)

-- ---- a weight of the root beside it

pub rooted_is_among : (n : ℕ) (xs : List SymbolicWeight) → IsAmongWeights (Rooted n) (with_rooted n xs)
unfolding with_rooted
rooted_is_among n [] = inl refl
rooted_is_among n (Tailored j ∷ xs) = inr (rooted_is_among n xs)
rooted_is_among n (Rooted u ∷ xs) =
    let later : List SymbolicWeight = if nat_lt n u then Rooted n ∷ Rooted u ∷ xs else Rooted u ∷ with_rooted n xs in
    either (IsAmongWeights (Rooted n)) (n == u) (Rooted u ∷ xs) later
    (λ e. inl (sym (same_weight_is (Rooted n) (Rooted u) e)))
    (λ _. either (IsAmongWeights (Rooted n)) (nat_lt n u) (Rooted n ∷ Rooted u ∷ xs) (Rooted u ∷ with_rooted n xs)
    (λ _. inl refl) (λ _. inr (rooted_is_among n xs)))

pub close_is_among : (k : ℕ) (w : SymbolicWeight) (xs : List SymbolicWeight) → IsCloseBehind k w xs → IsAmongWeights w xs
close_is_among k w [] c = absurd c
close_is_among k w (x ∷ xs) (inl e) = inl e.0
close_is_among k w (x ∷ xs) (inr c) = inr (close_is_among k w xs c)

-- of a list that leads to a tailored weight, a weight of the root stands behind that one
stands_past : (k n : ℕ) (xs : List SymbolicWeight) → LeadsTo k xs → IsAmongWeights (Rooted n) xs → IsOrderedBefore (Tailored k) (Rooted n) xs
stands_past k n [] l a = absurd l
stands_past k n (Rooted v ∷ xs) l a = absurd l
stands_past k n (Tailored j ∷ xs) l (inl e) = absurd (apart e) where
  apart : Tailored j ≡ Rooted n → ⊥
  apart e = cc
stands_past k n (Tailored j ∷ xs) (inl e) (inr a) = inl (ap Tailored e, a)
stands_past k n (Tailored j ∷ xs) (inr l) (inr a) = inr (stands_past k n xs l a)

-- a weight of the root is the first one, stands before it, or stands behind the tailored one
stands_apart : (k n : ℕ) (w : SymbolicWeight) (xs : List SymbolicWeight) → IsCloseBehind k w xs → IsAmongWeights (Rooted n) xs
    → (Rooted n ≡ w) ⊎ (IsOrderedBefore (Rooted n) w xs ⊎ IsOrderedBefore (Tailored k) (Rooted n) xs)
stands_apart k n w [] c a = absurd c
stands_apart k n w (x ∷ xs) (inl e) (inl f) = inl (sym f ∙ e.0)
stands_apart k n w (x ∷ xs) (inl e) (inr a) = inr (inr (inr (stands_past k n xs e.1 a)))
stands_apart k n w (x ∷ xs) (inr c) (inl f) = inr (inl (inl (f, close_is_among k w xs c)))
stands_apart k n w (x ∷ xs) (inr c) (inr a) = elim (stands_apart k n w xs c a) [
  | inl e ↦ inl e
  | inr s ↦ (elim s [ inl b ↦ inr (inl (inr b)) | inr b ↦ inr (inr (inr b)) ])
]

pub with_rooted_siblings : (tree : WeightTree) (above : List SymbolicWeight) (n : ℕ)
    → with_weight tree above (Rooted n) above ≡ with_rooted n (tree above)
with_rooted_siblings tree above n = ap (λ (b : Bool). if b then with_rooted n (tree above) else tree above) (are_themselves above)

close_is_not_between : (tree : WeightTree) (level : ℕ) (ws : List SymbolicWeight) (k n : ℕ) (numbering : Numbering)
    → IsCloseIn tree level ws k → NumbersTree (with_weight tree (above_level level ws) (Rooted n)) numbering
    → IsNotBetween numbering level ws (Tailored k) n
close_is_not_between tree level ws k n numbering c g below put_behind =
    let above = above_level level ws in
    let w = weight_at_level level ws in
    let siblings = with_weight tree above (Rooted n) above in
    let among : IsAmongWeights (Rooted n) siblings =
    subst (IsAmongWeights (Rooted n)) (sym (with_rooted_siblings tree above n)) (rooted_is_among n (tree above)) in
    let close : IsCloseBehind k w siblings = weight_keeps tree above (Rooted n) above k w c in
    elim (stands_apart k n w siblings close among) [
      | inl e ↦ (let same = ap (λ v. numbering (above ++ v ∷ [])) e in absurd (omega (arith, same, below)))
      | inr s ↦ (elim s [
        | inl b ↦ (let less = g.ascends above (Rooted n) w b in absurd (omega (arith, less, below)))
        | inr b ↦ (let less = g.ascends above (Tailored k) (Rooted n) b in absurd (omega (arith, less, put_behind)))
      ])
    ]

pub nothing_between : NothingOfTheRootIsBetween
nothing_between root earlier later strength prefix string extension n numbering other g =
    let rule = relation strength prefix string extension in
    let level = level_of strength in
    let ws = weights_before root earlier level in
    let before = tailoring_of root earlier in
    let after = rule_step root before rule in
    let last = state_after root after later in
    let numbers : NumbersTree (with_weight last.tree (above_level level ws) (Rooted n)) numbering =
    subst (λ (s : TailoringState). NumbersTree (with_weight s.tree (above_level level ws) (Rooted n)) numbering)
    (state_after-append root (first_state root) earlier (rule ∷ later)) g in
    close_is_not_between last.tree level ws before.made n numbering
    (state_keeps root after later (above_level level ws) before.made (weight_at_level level ws)
    (relation_is_close root strength prefix string extension before other))
    numbers
