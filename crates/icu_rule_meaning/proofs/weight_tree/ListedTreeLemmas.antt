-- What lists of siblings are of a tree, after one of them was written or begun.
use Rattle.std.proofs.Common.{◌≡◌, Bool, true, false, List, [], ◌∷◌, Option, Some, None, if◌then◌else◌, inl, inr, refl, ap, sym, ◌∙◌}
use Rattle.std.proofs.Math.Path.{fun_ext}
use Rattle.std.proofs.lemmas.Bool.{cases_Bool, both_ways}
use Rattle.std.specs.BTreeMap.{insert_entry, is_at}
use Rattle.std.specs.Map.{lookup, set_value}
use Rattle.std.specs.Ordering.{is_eq, match_ordering}
use Rattle.std.specs.declared.cmp.Ordering.{Ordering}
use Rattle.std.specs.declared.cmp.Ordering.TheVariants.{Less, Equal, Greater}
use Rattle.icu_rule_meaning.specs.declared.symbolic.SymbolicWeight.{SymbolicWeight}
use Rattle.icu_rule_meaning.specs.SymbolicElements.{common_below, is_same_weight, are_same_weights}
use Rattle.icu_rule_meaning.specs.WeightTrees.{first_tree, with_siblings, directly_before, before_from}
use Rattle.icu_rule_meaning.proofs.TreeLemmas.{are_themselves, either}
use Rattle.icu_rule_meaning.specs.declared.weight_tree.parents.Parents.{Parents}
use Rattle.icu_rule_meaning.specs.declared.weight_tree.siblings.Siblings.{Siblings}
use Rattle.icu_rule_meaning.specs.weight_tree.BuiltTrees.{parent_weights, are_parents, sibling_weights, begun_siblings, tree_in}
use Rattle.icu_rule_meaning.proofs.weight_tree.ParentOrderLemmas.{parents_order, parents_tie, parents_tie_themselves, one_parent}

-- ---- look-ups by another test

once : {A : Type 0} (b : Bool) (x y o : A) → (if b then x else o) ≡ (if b then x else (if b then y else o))
once true x y o = refl
once false x y o = refl

exchanged : {A : Type 0} (a b : Bool) (x y o : A) → (a ≡ true → b ≡ true → ⊥)
    → (if a then x else (if b then y else o)) ≡ (if b then y else (if a then x else o))
exchanged true true x y o apart = absurd (apart refl refl)
exchanged true false x y o apart = refl
exchanged false true x y o apart = refl
exchanged false false x y o apart = refl

lookup_written : {K X : Type 0} (same here : K → Bool) (key : K) (es : List (K × X)) (w : X)
    → ((q : K) → same q ≡ true → q ≡ key) → same key ≡ true
    → ((q : K) → here q ≡ true → here key ≡ true → q ≡ key) → (v : X) → lookup same es ≡ Some v
    → lookup here (set_value same es w) ≡ (if here key then Some w else lookup here es)
lookup_written same here key [] w ties itself one v found = cc
lookup_written same here key (e ∷ es) w ties itself one v found = elim (cases_Bool (same e.0)) [
  | inl t ↦ rw (t, ap here (ties e.0 t)) (once (here key) (Some w) (Some e.1) (lookup here es))
  | inr f ↦
      let rest : lookup same es ≡ Some v = ap (λ b. if b then Some e.1 else lookup same es) (sym f) ∙ found in
      rw (f, lookup_written same here key es w ties itself one v rest)
      (exchanged (here e.0) (here key) (Some e.1) (Some w) (lookup here es)
      (λ a b. both_ways (same e.0) f (ap same (one e.0 a b) ∙ itself)))
]

begun_before : {K X : Type 0} (cmp : K → K → Ordering) (here : K → Bool) (key : K) (w : X) (e : K × X) (es : List (K × X)) (r : Ordering)
    → (if is_eq r then Some e.1 else lookup (is_at (cmp key)) es) ≡ None
    → (r ≡ Greater → here e.0 ≡ true → here key ≡ true → ⊥)
    → (lookup (is_at (cmp key)) es ≡ None
    → lookup here (insert_entry cmp es key w) ≡ (if here key then Some w else lookup here es))
    → lookup here (match_ordering r ((key, w) ∷ e ∷ es) ((e.0, w) ∷ es) (e ∷ insert_entry cmp es key w))
    ≡ (if here key then Some w else (if here e.0 then Some e.1 else lookup here es))
begun_before cmp here key w e es Less none apart more = refl
begun_before cmp here key w e es Equal none apart more = cc
begun_before cmp here key w e es Greater none apart more =
    rw (more none) (exchanged (here e.0) (here key) (Some e.1) (Some w) (lookup here es) (apart refl))

lookup_begun : {K X : Type 0} (cmp : K → K → Ordering) (here : K → Bool) (key : K) (w : X) (es : List (K × X))
    → is_eq (cmp key key) ≡ true → ((q : K) → here q ≡ true → here key ≡ true → q ≡ key)
    → lookup (is_at (cmp key)) es ≡ None
    → lookup here (insert_entry cmp es key w) ≡ (if here key then Some w else lookup here es)
lookup_begun cmp here key w [] itself one none = refl
lookup_begun cmp here key w (e ∷ es) itself one none =
    begun_before cmp here key w e es (cmp key e.0) none
    (λ g a b. both_ways (is_eq (cmp key e.0)) (ap is_eq g) (ap (λ q. is_eq (cmp key q)) (one e.0 a b) ∙ itself))
    (lookup_begun cmp here key w es itself one)

-- ---- the list of the tree

-- a map looks for parents as the tree does
same_test : (key : Parents) (above : List SymbolicWeight) → parent_weights key ≡ above → are_parents above ≡ is_at (parents_order key)
same_test key above is = fun_ext (λ q. elim (cases_Bool (is_eq (parents_order key q))) [
  | inl t ↦ ap (are_parents above) (parents_tie key q t) ∙ (here ∙ sym t)
  | inr f ↦ elim (cases_Bool (are_parents above q)) [
    | inl a ↦
        absurd (both_ways (is_eq (parents_order key q)) f
        (ap (λ p. is_eq (parents_order key p)) (one_parent above key q a here) ∙ parents_tie_themselves key))
    | inr a ↦ a ∙ sym f
  ]
])
  where
    here : are_parents above key ≡ true
    here = ap (are_same_weights above) is ∙ are_themselves above

-- what a map has at parents is what the tree has below them
pub found_in_tree : (es : List (Parents × Siblings)) (key : Parents) (above : List SymbolicWeight) (found : Option Siblings)
    → parent_weights key ≡ above → lookup (is_at (parents_order key)) es ≡ found → tree_in es above ≡ begun_siblings above found
found_in_tree es key above found is at = ap (begun_siblings above) (ap (λ test. lookup test es) (same_test key above is) ∙ at)

begun_siblings_if : (b : Bool) (above : List SymbolicWeight) (s : Siblings) (o : Option Siblings)
    → begun_siblings above (if b then Some s else o) ≡ (if b then sibling_weights s else begun_siblings above o)
begun_siblings_if true above s o = refl
begun_siblings_if false above s o = refl

-- a tree where the list at parents is another one
replaced : (es fs : List (Parents × Siblings)) (key : Parents) (above siblings : List SymbolicWeight) (s : Siblings)
    → parent_weights key ≡ above → sibling_weights s ≡ siblings
    → ((other : List SymbolicWeight) → lookup (are_parents other) fs
    ≡ (if are_parents other key then Some s else lookup (are_parents other) es))
    → tree_in fs ≡ with_siblings (tree_in es) above siblings
replaced es fs key above siblings s is items looks = fun_ext (λ other.
    ap (begun_siblings other) (looks other) ∙ (begun_siblings_if (are_parents other key) other s (lookup (are_parents other) es)
    ∙ (ap (λ ws. if are_same_weights other ws then sibling_weights s else tree_in es other) is
    ∙ ap (λ ws. if are_same_weights other above then ws else tree_in es other) items)))

-- a list was written
pub tree_written : (es : List (Parents × Siblings)) (key : Parents) (above : List SymbolicWeight) (s t : Siblings)
    (f : List SymbolicWeight → List SymbolicWeight) → parent_weights key ≡ above
    → lookup (is_at (parents_order key)) es ≡ Some s → sibling_weights t ≡ f (sibling_weights s)
    → tree_in (set_value (is_at (parents_order key)) es t) ≡ with_siblings (tree_in es) above (f (tree_in es above))
tree_written es key above s t f is at items =
    replaced es (set_value (is_at (parents_order key)) es t) key above (f (tree_in es above)) t is
    (items ∙ ap f (sym (found_in_tree es key above (Some s) is at)))
    (λ other. lookup_written (is_at (parents_order key)) (are_parents other) key es t (parents_tie key) (parents_tie_themselves key)
    (one_parent other key) s at)

-- a list was begun
pub tree_begun : (es : List (Parents × Siblings)) (key : Parents) (above : List SymbolicWeight) (t : Siblings)
    (f : List SymbolicWeight → List SymbolicWeight) → parent_weights key ≡ above
    → lookup (is_at (parents_order key)) es ≡ None → sibling_weights t ≡ f (first_tree above)
    → tree_in (insert_entry parents_order es key t) ≡ with_siblings (tree_in es) above (f (tree_in es above))
tree_begun es key above t f is at items =
    replaced es (insert_entry parents_order es key t) key above (f (tree_in es above)) t is
    (items ∙ ap f (sym (found_in_tree es key above None is at)))
    (λ other. lookup_begun parents_order (are_parents other) key t es (parents_tie_themselves key) (one_parent other key) at)

-- before any rule nothing stands before a weight
pub first_has_none : (w : SymbolicWeight) (above : List SymbolicWeight) → directly_before w (first_tree above) ≡ None
unfolding before_from
first_has_none w [] = refl
first_has_none w (v ∷ vs) =
    either (λ (o : Option SymbolicWeight). o ≡ None) (is_same_weight (common_below (v ∷ vs)) w) None None (λ _. refl) (λ _. refl)
