-- Relations hold with elements behind both sides.
use Rattle.std.proofs.Common.{◌≡◌, ◌≢◌, ℕ, ◌<◌, ◌≤◌, false, not, ◌==◌, inl, inr, List, [], ◌∷◌, ◌++◌, length, map, take, Less, ap, sym, subst, ◌∙◌, arith}
use Rattle.std.proofs.lemmas.Bool.{cases_Bool}
use Rattle.std.proofs.lemmas.List.{append_assoc, map-append}
use Rattle.std.proofs.lemmas.List.Elements.{filter-append}
use Rattle.icu_order_levels.specs.ListOrder.{list_order}
use Rattle.icu_order_levels.proofs.Order.{less_head, same_front}
use Rattle.icu_options.specs.declared.settings.Strength.{Strength}
use Rattle.icu_options.specs.declared.settings.Strength.TheVariants.{Primary, Secondary, Tertiary, Quaternary, Identical}
use Rattle.unicode_normalization.specs.Forms.{nfd}
use Rattle.icu_rule_meaning.specs.Rules.{relation, level_of}
use Rattle.icu_rule_meaning.specs.declared.symbolic.SymbolicWeight.{SymbolicWeight}
use Rattle.icu_rule_meaning.specs.declared.symbolic.SymbolicElement.{SymbolicElement}
use Rattle.icu_rule_meaning.specs.SymbolicElements.{ignorable}
use Rattle.icu_rule_meaning.specs.WeightTrees.{WeightTree}
use Rattle.icu_rule_meaning.specs.TailoredRoots.{Root}
use Rattle.icu_rule_meaning.specs.TailoredMappings.{root_mappings, symbolic_elements}
use Rattle.icu_rule_meaning.specs.TailoredCases.{cases_for, cases_of, primary_elements}
use Rattle.icu_rule_meaning.specs.Steps.{TailoringState, first_state, counting_at, last_element, with_last_element, difference_step, strength_step, case_step, mapping_step, relation_step, rule_step, state_after, tailoring_of}
use Rattle.icu_rule_meaning.specs.SymbolicOrders.{Numbering, NumbersTree, KeepsOrder, weights_in, level_numbers, AreLessAt}
use Rattle.icu_rule_meaning.specs.RelationLaws.{AreRelated, ExtendedRelationsHold}
use Rattle.icu_rule_meaning.proofs.TreeLemmas.{mapping_tree, state_keeps}
use Rattle.icu_rule_meaning.proofs.WholeStates.{tailoring_whole}
use Rattle.icu_rule_meaning.proofs.WholeElements.{AreWhole, ignorable_is_whole, zero_before}
use Rattle.icu_rule_meaning.proofs.RelationLemmas.{nonzero, zero_more, is_zero, not_zero, first_stays, counting_numbers, new_element, last_at, new_is_greater, difference_less, cases_weights, numbers_by, mapping_elements, state_after-append}

-- two lists are the same up to the last number of each, which is less in the first
pub record PartAtEnd (xs ys : List ℕ) (v w : ℕ) : Type 0 where
  front : List ℕ
  left : xs ≡ front ++ v ∷ []
  right : ys ≡ front ++ w ∷ []

pub parts_more : (x : ℕ) (xs ys : List ℕ) (v w : ℕ) → PartAtEnd (nonzero xs) (nonzero ys) v w
    → PartAtEnd (nonzero (x ∷ xs)) (nonzero (x ∷ ys)) v w
parts_more x xs ys v w p = elim (cases_Bool (x == 0)) [
  | inl e ↦ record {
    front = p.front;
    left = zero_more x xs (is_zero x e) ∙ p.left;
    right = zero_more x ys (is_zero x e) ∙ p.right;
  }
  | inr e ↦ record {
    front = x ∷ p.front;
    left = first_stays x xs e ∙ ap (λ zs. x ∷ zs) p.left;
    right = first_stays x ys e ∙ ap (λ zs. x ∷ zs) p.right;
  }
]

pub nonzero_test : (x : ℕ) → x ≢ 0 → (x == 0) ≡ false
nonzero_test x other = elim (cases_Bool (x == 0)) [ inl e ↦ absurd (other (is_zero x e)) | inr e ↦ e ]

pub last_parts : (numbering : Numbering) (level : ℕ) (es : List SymbolicElement) (new : SymbolicElement)
    → numbering (take level ignorable.weights) ≡ 0
    → numbering (take level (last_element es).weights) ≢ 0
    → numbering (take level (last_element es).weights) < numbering (take level new.weights)
    → PartAtEnd (level_numbers numbering level es) (level_numbers numbering level (with_last_element es new))
    (numbering (take level (last_element es).weights)) (numbering (take level new.weights))
last_parts numbering level [] new z other l = absurd (other z)
last_parts numbering level (e ∷ []) new z other l = record {
  front = [];
  left = first_stays (numbering (take level e.weights)) [] (nonzero_test (numbering (take level e.weights)) other);
  right = first_stays (numbering (take level new.weights)) [] (not_zero (numbering (take level e.weights)) (numbering (take level new.weights)) l);
}
last_parts numbering level (e ∷ f ∷ es) new z other l =
    parts_more (numbering (take level e.weights)) (map (λ ws. numbering (take level ws)) (weights_in (f ∷ es)))
    (map (λ ws. numbering (take level ws)) (weights_in (with_last_element (f ∷ es) new)))
    (numbering (take level (last_element (f ∷ es)).weights)) (numbering (take level new.weights))
    (last_parts numbering level (f ∷ es) new z other l)

pub parted_less : (xs ys put_behind : List ℕ) (v w : ℕ) → v < w → PartAtEnd xs ys v w → list_order (xs ++ put_behind) (ys ++ put_behind) ≡ Less
parted_less xs ys put_behind v w l p =
    ap (λ zs. list_order (zs ++ put_behind) (ys ++ put_behind)) p.left
    ∙ ap (λ zs. list_order ((p.front ++ v ∷ []) ++ put_behind) (zs ++ put_behind)) p.right
    ∙ ap (λ zs. list_order zs ((p.front ++ w ∷ []) ++ put_behind)) (append_assoc p.front (v ∷ []) put_behind)
    ∙ ap (λ zs. list_order (p.front ++ v ∷ put_behind) zs) (append_assoc p.front (w ∷ []) put_behind)
    ∙ same_front p.front (v ∷ put_behind) (w ∷ put_behind)
    ∙ less_head v w put_behind put_behind l

pub weights_append : (es fs : List SymbolicElement) → weights_in (es ++ fs) ≡ weights_in es ++ weights_in fs
weights_append es fs = map-append (λ (e : SymbolicElement). e.weights) es fs

pub numbers_append : (numbering : Numbering) (level : ℕ) (all more : List (List SymbolicWeight))
    → numbers_by numbering level (all ++ more) ≡ numbers_by numbering level all ++ numbers_by numbering level more
numbers_append numbering level all more =
    ap nonzero (map-append (λ ws. numbering (take level ws)) all more)
    ∙ filter-append (λ w. not (w == 0)) (map (λ ws. numbering (take level ws)) all) (map (λ ws. numbering (take level ws)) more)

pub level_append : (numbering : Numbering) (level : ℕ) (es fs : List SymbolicElement)
    → level_numbers numbering level (es ++ fs) ≡ level_numbers numbering level es ++ level_numbers numbering level fs
level_append numbering level es fs =
    ap (numbers_by numbering level) (weights_append es fs) ∙ numbers_append numbering level (weights_in es) (weights_in fs)

pub extended_less : (tree : WeightTree) (numbering : Numbering) → NumbersTree tree numbering → (n : ℕ) → 1 ≤ n → n ≤ 4
    → (state : TailoringState) (fs put_behind : List SymbolicElement) → AreWhole state.elements
    → KeepsOrder (difference_step n state).tree tree → numbering (take n (last_at n state).weights) ≢ 0
    → weights_in fs ≡ weights_in (difference_step n state).elements
    → AreLessAt numbering n (state.elements ++ put_behind) (fs ++ put_behind)
unfolding difference_step
extended_less tree numbering g n p q state fs put_behind ws keeps other e =
    let counting = counting_at n state.elements in
    let new = new_element n (last_at n state) state.made in
    let further = difference_less tree numbering g n p q state ws keeps in
    let more = level_numbers numbering n put_behind in
    let greater = new_is_greater tree numbering g n p q state ws keeps in
    let parts = last_parts numbering n counting new (zero_before tree numbering g n ignorable p q (omega (arith, q)) ignorable_is_whole) other greater in
    let less = parted_less (level_numbers numbering n counting) (level_numbers numbering n (with_last_element counting new)) more
    (numbering (take n (last_at n state).weights)) (numbering (take n new.weights)) greater parts in
    let right : level_numbers numbering n (fs ++ put_behind) ≡ level_numbers numbering n (with_last_element counting new) ++ more =
    level_append numbering n fs put_behind ∙ ap (λ all. numbers_by numbering n all ++ more) e in
    let left : level_numbers numbering n (state.elements ++ put_behind) ≡ level_numbers numbering n counting ++ more =
    level_append numbering n state.elements put_behind
    ∙ ap (λ ns. ns ++ more) (sym (counting_numbers tree numbering g n n p (omega arith) q state.elements ws)) in
    record {
      same = λ level a b.
          level_append numbering level state.elements put_behind
          ∙ ap (λ ns. ns ++ level_numbers numbering level put_behind)
          (further.same level a b ∙ ap (numbers_by numbering level) (sym e))
          ∙ sym (level_append numbering level fs put_behind);
      less =
          ap (λ ns. list_order ns (level_numbers numbering n (fs ++ put_behind))) left
          ∙ ap (λ ns. list_order (level_numbers numbering n counting ++ more) ns) right
          ∙ less;
    }

related : (tree : WeightTree) (numbering : Numbering) → NumbersTree tree numbering → (strength : Strength)
    → (state : TailoringState) (fs put_behind : List SymbolicElement) → AreWhole state.elements
    → KeepsOrder (strength_step strength state).tree tree
    → numbering (take (level_of strength) (last_at (level_of strength) state).weights) ≢ 0
    → weights_in fs ≡ weights_in (strength_step strength state).elements
    → AreRelated numbering strength (state.elements ++ put_behind) (fs ++ put_behind)
related tree numbering g Primary state fs put_behind ws keeps other e =
    extended_less tree numbering g 1 (omega arith) (omega arith) state fs put_behind ws keeps other e
related tree numbering g Secondary state fs put_behind ws keeps other e =
    extended_less tree numbering g 2 (omega arith) (omega arith) state fs put_behind ws keeps other e
related tree numbering g Tertiary state fs put_behind ws keeps other e =
    extended_less tree numbering g 3 (omega arith) (omega arith) state fs put_behind ws keeps other e
related tree numbering g Quaternary state fs put_behind ws keeps other e =
    extended_less tree numbering g 4 (omega arith) (omega arith) state fs put_behind ws keeps other e
related tree numbering g Identical state fs put_behind ws keeps other e = λ level.
    level_append numbering level state.elements put_behind
    ∙ ap (λ all. numbers_by numbering level all ++ level_numbers numbering level put_behind) (sym e)
    ∙ sym (level_append numbering level fs put_behind)

relation_related : (root : Root) (tree : WeightTree) (numbering : Numbering) → NumbersTree tree numbering
    → (strength : Strength) (prefix string extension : List ℕ) (state : TailoringState) (put_behind : List SymbolicElement)
    → AreWhole state.elements → KeepsOrder (relation_step root strength prefix string extension state).tree tree
    → numbering (take (level_of strength) (last_at (level_of strength) state).weights) ≢ 0
    → AreRelated numbering strength (state.elements ++ put_behind)
    ((relation_step root strength prefix string extension state).elements ++ put_behind)
unfolding relation_step
relation_related root tree numbering g strength prefix string extension state put_behind ws keeps other =
    let stepped = strength_step strength state in
    let different : TailoringState = case_step root (nfd string) stepped in
    let of_string = symbolic_elements (root_mappings root) (nfd string) in
    let es = different.elements ++ symbolic_elements state.mappings (nfd extension) in
    related tree numbering g strength state (mapping_step (nfd prefix) (nfd string) es different).elements put_behind ws
    (subst (λ t. KeepsOrder t tree) (mapping_tree (nfd prefix) (nfd string) es different) keeps) other
    (ap weights_in (mapping_elements (nfd prefix) (nfd string) es different)
    ∙ cases_weights (cases_for (length (primary_elements stepped.elements)) (cases_of of_string)) stepped.elements)

pub extended_hold : ExtendedRelationsHold
extended_hold root earlier later strength prefix string extension put_behind numbering g other =
    let rule = relation strength prefix string extension in
    let before = tailoring_of root earlier in
    let after = rule_step root before rule in
    let last = state_after root after later in
    let numbers : NumbersTree last.tree numbering =
    subst (λ (s : TailoringState). NumbersTree s.tree numbering) (state_after-append root (first_state root) earlier (rule ∷ later)) g in
    subst (λ (s : TailoringState). AreRelated numbering strength (before.elements ++ put_behind) (s.elements ++ put_behind))
    (sym (state_after-append root (first_state root) earlier (rule ∷ [])))
    (relation_related root last.tree numbering numbers strength prefix string extension before put_behind
    (tailoring_whole root earlier).elements (state_keeps root after later) other)
