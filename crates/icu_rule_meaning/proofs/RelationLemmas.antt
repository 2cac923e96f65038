-- Relations hold, whatever rules follow.
use Rattle.std.proofs.Common.{◌≡◌, ℕ, ◌<◌, ◌≤◌, min, true, false, cond, not, ◌==◌, nat_le, inl, inr, List, [], ◌∷◌, ◌++◌, length, map, filter, take, if◌then◌else◌, Less, refl, ap, sym, subst, ◌∙◌, arith}
use Rattle.std.proofs.lemmas.Bool.{cases_Bool, true≢false}
use Rattle.std.proofs.lemmas.Bool.Decides.{nat_tests}
use Rattle.icu_order_levels.specs.ListOrder.{list_order}
use Rattle.icu_order_levels.proofs.Order.{less_head, same_head}
use Rattle.icu_options.specs.declared.settings.Strength.{Strength}
use Rattle.icu_options.specs.declared.settings.Strength.TheVariants.{Primary, Secondary, Tertiary, Quaternary, Identical}
use Rattle.unicode_normalization.specs.Forms.{nfd}
use Rattle.icu_rule_meaning.specs.Rules.{Rule, relation}
use Rattle.icu_rule_meaning.specs.declared.symbolic.SymbolicWeight.{SymbolicWeight}
use Rattle.icu_rule_meaning.specs.declared.symbolic.SymbolicWeight.TheVariants.{Tailored}
use Rattle.icu_rule_meaning.specs.declared.symbolic.SymbolicElement.{SymbolicElement}
use Rattle.icu_rule_meaning.specs.SymbolicElements.{are_same_weights, element_with, ignorable}
use Rattle.icu_rule_meaning.specs.WeightTrees.{WeightTree, with_behind, with_weights, with_new_weight, above_level, weight_at_level}
use Rattle.icu_rule_meaning.specs.TailoredRoots.{Root}
use Rattle.icu_rule_meaning.specs.TailoredMappings.{root_mappings, symbolic_elements}
use Rattle.icu_rule_meaning.specs.TailoredCases.{counts_first_at, with_case_bits, upper_case_bits, with_cases, cases_for, cases_of, primary_elements}
use Rattle.icu_rule_meaning.specs.Steps.{TailoringState, first_state, counting_at, last_element, with_last_element, difference_step, strength_step, case_step, mapping_step, relation_step, rule_step, state_after, tailoring_of}
use Rattle.icu_rule_meaning.specs.SymbolicOrders.{Numbering, NumbersTree, IsOrderedBefore, KeepsOrder, weights_in, level_numbers, level_order, AreLessAt}
use Rattle.icu_rule_meaning.specs.RelationLaws.{AreRelated, elements_at, RelationsHold, UnmovedStringsAreRelated}
use Rattle.icu_rule_meaning.proofs.TreeLemmas.{either, are_themselves, stands_behind, mapping_tree, state_keeps}
use Rattle.icu_rule_meaning.proofs.WholeStates.{tailoring_whole}
use Rattle.icu_rule_meaning.proofs.WholeElements.{AreWhole, ignorable_is_whole, counting_whole, last_whole, same_before, new_number, own_number, zero_before}

-- ---- numbers that aren't 0

abbrev pub nonzero : List ℕ → List ℕ
nonzero = filter (λ w. not (w == 0))

pub one_more : (x : ℕ) (xs ys : List ℕ) → nonzero xs ≡ nonzero ys → nonzero (x ∷ xs) ≡ nonzero (x ∷ ys)
one_more x xs ys e = ap (λ zs. cond (not (x == 0)) (x ∷ zs) zs) e

pub zero_more : (x : ℕ) (xs : List ℕ) → x ≡ 0 → nonzero (x ∷ xs) ≡ nonzero xs
zero_more x xs e = ap (λ y. nonzero (y ∷ xs)) e

pub is_zero : (x : ℕ) → (x == 0) ≡ true → x ≡ 0
is_zero x e = grind (arith, nat_tests)

pub not_zero : (x y : ℕ) → x < y → (y == 0) ≡ false
not_zero x y h = grind (arith, nat_tests)

pub first_stays : (x : ℕ) (xs : List ℕ) → (x == 0) ≡ false → nonzero (x ∷ xs) ≡ x ∷ nonzero xs
first_stays x xs e = ap (λ b. cond (not b) (x ∷ nonzero xs) (nonzero xs)) e

pub moved : (xs vs ys ws : List ℕ) → xs ≡ vs → ys ≡ ws → list_order vs ws ≡ Less → list_order xs ys ≡ Less
moved xs vs ys ws e f l = ap (λ z. list_order z ys) e ∙ ap (λ z. list_order vs z) f ∙ l

pub none_less : (y : ℕ) → (y == 0) ≡ false → list_order [] (nonzero (y ∷ [])) ≡ Less
none_less y e = ap (λ z. list_order [] z) (first_stays y [] e)

pub one_less : (x y : ℕ) → x < y → list_order (nonzero (x ∷ [])) (nonzero (y ∷ [])) ≡ Less
one_less x y h = elim (cases_Bool (x == 0)) [
  | inl e ↦ moved (nonzero (x ∷ [])) [] (nonzero (y ∷ [])) (y ∷ []) (zero_more x [] (is_zero x e)) (first_stays y [] (not_zero x y h)) refl
  | inr e ↦ moved (nonzero (x ∷ [])) (x ∷ []) (nonzero (y ∷ [])) (y ∷ []) (first_stays x [] e) (first_stays y [] (not_zero x y h)) (less_head x y [] [] h)
]

pub less_more : (x : ℕ) (xs ys : List ℕ) → list_order (nonzero xs) (nonzero ys) ≡ Less
    → list_order (nonzero (x ∷ xs)) (nonzero (x ∷ ys)) ≡ Less
less_more x xs ys l = elim (cases_Bool (x == 0)) [
  | inl e ↦ moved (nonzero (x ∷ xs)) (nonzero xs) (nonzero (x ∷ ys)) (nonzero ys) (zero_more x xs (is_zero x e)) (zero_more x ys (is_zero x e)) l
  | inr e ↦ moved (nonzero (x ∷ xs)) (x ∷ nonzero xs) (nonzero (x ∷ ys)) (x ∷ nonzero ys) (first_stays x xs e) (first_stays x ys e) (same_head x (nonzero xs) (nonzero ys) ∙ l)
]

-- ---- elements that are weaker than a level have no number there

abbrev pub numbers_in : Numbering → ℕ → List SymbolicElement → List ℕ
numbers_in numbering level es = map (λ ws. numbering (take level ws)) (weights_in es)

pub weaker : (s n : ℕ) → nat_le s n ≡ false → n < s
weaker s n e = grind (arith, nat_tests)

pub kept_numbers : (numbering : Numbering) (n level : ℕ) (e : SymbolicElement) (rest : List SymbolicElement)
    → (n < e.strength → numbering (take level e.weights) ≡ 0)
    → level_numbers numbering level (elim rest as (λ _. List SymbolicElement) [ [] ↦ if nat_le e.strength n then e ∷ [] else [] | f ∷ fs ↦ e ∷ f ∷ fs ])
    ≡ level_numbers numbering level (e ∷ rest)
kept_numbers numbering n level e [] z =
    either (λ es. level_numbers numbering level es ≡ level_numbers numbering level (e ∷ [])) (nat_le e.strength n) (e ∷ []) []
    (λ _. refl) (λ b. sym (zero_more (numbering (take level e.weights)) [] (z (weaker e.strength n b))))
kept_numbers numbering n level e (f ∷ fs) z = refl

pub counting_numbers : (tree : WeightTree) (numbering : Numbering) → NumbersTree tree numbering → (n level : ℕ)
    → 1 ≤ level → level ≤ n → n ≤ 4 → (es : List SymbolicElement) → AreWhole es
    → level_numbers numbering level (counting_at n es) ≡ level_numbers numbering level es
unfolding counting_at
counting_numbers tree numbering g n level p q r [] ws = refl
counting_numbers tree numbering g n level p q r (e ∷ es) (w, ws) =
    kept_numbers numbering n level e (counting_at n es)
    (λ h. zero_before tree numbering g level e p (omega (arith, q, r)) (omega (arith, q, h)) w)
    ∙ one_more (numbering (take level e.weights)) (numbers_in numbering level (counting_at n es)) (numbers_in numbering level es)
    (counting_numbers tree numbering g n level p q r es ws)

-- ---- another last element

pub last_same : (numbering : Numbering) (level : ℕ) (es : List SymbolicElement) (new : SymbolicElement)
    → numbering (take level ignorable.weights) ≡ 0
    → numbering (take level new.weights) ≡ numbering (take level (last_element es).weights)
    → level_numbers numbering level es ≡ level_numbers numbering level (with_last_element es new)
last_same numbering level [] new z e = sym (zero_more (numbering (take level new.weights)) [] (e ∙ z))
last_same numbering level (e ∷ []) new z same = ap (λ n. nonzero (n ∷ [])) (sym same)
last_same numbering level (e ∷ f ∷ es) new z same =
    one_more (numbering (take level e.weights)) (numbers_in numbering level (f ∷ es))
    (numbers_in numbering level (with_last_element (f ∷ es) new)) (last_same numbering level (f ∷ es) new z same)

pub last_less : (numbering : Numbering) (level : ℕ) (es : List SymbolicElement) (new : SymbolicElement)
    → numbering (take level (last_element es).weights) < numbering (take level new.weights)
    → level_order numbering level es (with_last_element es new) ≡ Less
last_less numbering level [] new l =
    none_less (numbering (take level new.weights))
    (not_zero (numbering (take level ignorable.weights)) (numbering (take level new.weights)) l)
last_less numbering level (e ∷ []) new l =
    one_less (numbering (take level e.weights)) (numbering (take level new.weights)) l
last_less numbering level (e ∷ f ∷ es) new l =
    less_more (numbering (take level e.weights)) (numbers_in numbering level (f ∷ es))
    (numbers_in numbering level (with_last_element (f ∷ es) new)) (last_less numbering level (f ∷ es) new l)

-- ---- a difference

pub new_stands : (tree : WeightTree) (level : ℕ) (ws : List SymbolicWeight) (new : SymbolicWeight)
    → IsOrderedBefore (weight_at_level level ws) new (with_new_weight tree level ws new (above_level level ws))
new_stands tree level ws new =
    let above = above_level level ws in
    let placed = with_weights tree [] (take level ws) in
    let w = weight_at_level level ws in
    either (IsOrderedBefore w new) (are_same_weights above above) (with_behind w new (placed above)) (placed above)
    (λ _. stands_behind w new (placed above)) (λ e. absurd (true≢false (sym (are_themselves above) ∙ e)))

-- the element that a difference of a level puts in the place of another one
abbrev pub new_element : ℕ → SymbolicElement → ℕ → SymbolicElement
new_element n e made = element_with (above_level n e.weights ++ Tailored made ∷ []) (min n e.strength)

-- the last element that counts at a level
abbrev pub last_at : ℕ → TailoringState → SymbolicElement
last_at n state = last_element (counting_at n state.elements)

pub new_is_greater : (tree : WeightTree) (numbering : Numbering) → NumbersTree tree numbering → (n : ℕ) → 1 ≤ n → n ≤ 4
    → (state : TailoringState) → AreWhole state.elements → KeepsOrder (difference_step n state).tree tree
    → numbering (take n (last_at n state).weights)
    < numbering (take n (new_element n (last_at n state) state.made).weights)
unfolding difference_step
new_is_greater tree numbering g n p q state ws keeps =
    let e = last_at n state in
    let w = last_whole (counting_at n state.elements) (counting_whole n state.elements ws) in
    let x = Tailored state.made in
    let above = above_level n e.weights in
    let v = weight_at_level n e.weights in
    let ascends = g.ascends above v x (keeps above v x (new_stands state.tree n e.weights x)) in
    let own = own_number numbering n e p q w in
    let news = new_number numbering n e x (min n e.strength) p q w in
    subst (λ a. a < numbering (take n (new_element n e state.made).weights)) (sym own)
    (subst (λ b. numbering (above ++ v ∷ []) < b) (sym news) ascends)

pub difference_less : (tree : WeightTree) (numbering : Numbering) → NumbersTree tree numbering → (n : ℕ) → 1 ≤ n → n ≤ 4
    → (state : TailoringState) → AreWhole state.elements → KeepsOrder (difference_step n state).tree tree
    → AreLessAt numbering n state.elements (difference_step n state).elements
unfolding difference_step
difference_less tree numbering g n p q state ws keeps =
    let counting = counting_at n state.elements in
    let e = last_at n state in
    let w = last_whole counting (counting_whole n state.elements ws) in
    let new = new_element n e state.made in
    record {
      same = λ level a b.
          sym (counting_numbers tree numbering g n level a (omega (arith, b)) q state.elements ws)
          ∙ last_same numbering level counting new
          (zero_before tree numbering g level ignorable a (omega (arith, b, q)) (omega (arith, b, q)) ignorable_is_whole)
          (same_before numbering n level e (Tailored state.made) (min n e.strength) a b q w);
      less =
          ap (λ z. list_order z (level_numbers numbering n (with_last_element counting new)))
          (sym (counting_numbers tree numbering g n n p (omega arith) q state.elements ws))
          ∙ last_less numbering n counting new (new_is_greater tree numbering g n p q state ws keeps);
    }

-- ---- case bits change no weight

pub cases_weights : (cases : List ℕ) (es : List SymbolicElement) → weights_in (with_cases cases es) ≡ weights_in es
unfolding with_cases
cases_weights cases [] = refl
cases_weights [] (e ∷ es) = ap (λ ws. e.weights ∷ ws) (cases_weights [] es)
cases_weights (c ∷ cases) (e ∷ es) =
    let other = with_case_bits e (if counts_first_at 3 e then upper_case_bits else 0) in
    either (λ fs. weights_in fs ≡ weights_in (e ∷ es)) (counts_first_at 1 e)
    (with_case_bits e c ∷ with_cases cases es) (other ∷ with_cases (c ∷ cases) es)
    (λ _. ap (λ ws. e.weights ∷ ws) (cases_weights cases es))
    (λ _. ap (λ ws. e.weights ∷ ws) (cases_weights (c ∷ cases) es))

abbrev pub numbers_by : Numbering → ℕ → List (List SymbolicWeight) → List ℕ
numbers_by numbering level all = nonzero (map (λ ws. numbering (take level ws)) all)

pub less_by_weights : (numbering : Numbering) (n : ℕ) (es fs gs : List SymbolicElement) → weights_in gs ≡ weights_in fs
    → AreLessAt numbering n es fs → AreLessAt numbering n es gs
less_by_weights numbering n es fs gs e l = record {
  same = λ level a b. l.same level a b ∙ ap (numbers_by numbering level) (sym e);
  less = ap (λ all. list_order (level_numbers numbering n es) (numbers_by numbering n all)) e ∙ l.less;
}

-- ---- a relation

pub mapping_elements : (prefix string : List ℕ) (es : List SymbolicElement) (state : TailoringState)
    → (mapping_step prefix string es state).elements ≡ state.elements
mapping_elements prefix [] es state = refl
mapping_elements prefix (c ∷ suffix) es state = refl

related : (tree : WeightTree) (numbering : Numbering) → NumbersTree tree numbering → (strength : Strength)
    → (state : TailoringState) (fs : List SymbolicElement) → AreWhole state.elements
    → KeepsOrder (strength_step strength state).tree tree
    → weights_in fs ≡ weights_in (strength_step strength state).elements
    → AreRelated numbering strength state.elements fs
related tree numbering g Primary state fs ws keeps e =
    less_by_weights numbering 1 state.elements (difference_step 1 state).elements fs e
    (difference_less tree numbering g 1 (omega arith) (omega arith) state ws keeps)
related tree numbering g Secondary state fs ws keeps e =
    less_by_weights numbering 2 state.elements (difference_step 2 state).elements fs e
    (difference_less tree numbering g 2 (omega arith) (omega arith) state ws keeps)
related tree numbering g Tertiary state fs ws keeps e =
    less_by_weights numbering 3 state.elements (difference_step 3 state).elements fs e
    (difference_less tree numbering g 3 (omega arith) (omega arith) state ws keeps)
related tree numbering g Quaternary state fs ws keeps e =
    less_by_weights numbering 4 state.elements (difference_step 4 state).elements fs e
    (difference_less tree numbering g 4 (omega arith) (omega arith) state ws keeps)
related tree numbering g Identical state fs ws keeps e = λ level. ap (numbers_by numbering level) (sym e)

relation_related : (root : Root) (tree : WeightTree) (numbering : Numbering) → NumbersTree tree numbering
    → (strength : Strength) (prefix string extension : List ℕ) (state : TailoringState) → AreWhole state.elements
    → KeepsOrder (relation_step root strength prefix string extension state).tree tree
    → AreRelated numbering strength state.elements (relation_step root strength prefix string extension state).elements
unfolding relation_step
relation_related root tree numbering g strength prefix string extension state ws keeps =
    let stepped = strength_step strength state in
    let different : TailoringState = case_step root (nfd string) stepped in
    let of_string = symbolic_elements (root_mappings root) (nfd string) in
    let es = different.elements ++ symbolic_elements state.mappings (nfd extension) in
    related tree numbering g strength state (mapping_step (nfd prefix) (nfd string) es different).elements ws
    (subst (λ t. KeepsOrder t tree) (mapping_tree (nfd prefix) (nfd string) es different) keeps)
    (ap weights_in (mapping_elements (nfd prefix) (nfd string) es different)
    ∙ cases_weights (cases_for (length (primary_elements stepped.elements)) (cases_of of_string)) stepped.elements)

pub state_after-append : (root : Root) (state : TailoringState) (rules more : List Rule)
    → state_after root state (rules ++ more) ≡ state_after root (state_after root state rules) more
state_after-append root state [] more = refl
state_after-append root state (rule ∷ rules) more = state_after-append root (rule_step root state rule) rules more

pub relation_holds : (root : Root) (earlier later : List Rule) (strength : Strength) (prefix string extension : List ℕ)
    (numbering : Numbering) → AreWhole (tailoring_of root earlier).elements
    → NumbersTree (tailoring_of root (earlier ++ relation strength prefix string extension ∷ later)).tree numbering
    → AreRelated numbering strength (tailoring_of root earlier).elements
    (tailoring_of root (earlier ++ relation strength prefix string extension ∷ [])).elements
relation_holds root earlier later strength prefix string extension numbering ws g =
    let rule = relation strength prefix string extension in
    let before = tailoring_of root earlier in
    let after = rule_step root before rule in
    let last = state_after root after later in
    let numbers : NumbersTree last.tree numbering =
    subst (λ (s : TailoringState). NumbersTree s.tree numbering) (state_after-append root (first_state root) earlier (rule ∷ later)) g in
    subst (λ (s : TailoringState). AreRelated numbering strength before.elements s.elements)
    (sym (state_after-append root (first_state root) earlier (rule ∷ [])))
    (relation_related root last.tree numbering numbers strength prefix string extension before ws (state_keeps root after later))

pub rules_hold : RelationsHold
rules_hold root earlier later strength prefix string extension numbering g =
    relation_holds root earlier later strength prefix string extension numbering (tailoring_whole root earlier).elements g

pub unmoved_strings : UnmovedStringsAreRelated
unmoved_strings root earlier later strength other string numbering g x y =
    let last = tailoring_of root (earlier ++ relation strength [] string [] ∷ later) in
    subst (λ es. AreRelated numbering strength es (symbolic_elements last.mappings (nfd string))) (sym x)
    (subst (λ fs. AreRelated numbering strength (elements_at root earlier) fs) (sym y)
    (rules_hold root earlier later strength [] string [] numbering g))
