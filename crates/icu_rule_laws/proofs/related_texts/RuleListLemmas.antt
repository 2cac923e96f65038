-- What levels compare of the elements of rules, with the numbers of their weights, parts at a relation's difference.
use Rattle.std.proofs.Common.{◌≡◌, ◌≢◌, ◌<◌, ◌≤◌, ◌+◌, ◌-◌, ◌/◌, ◌%◌, ◌^◌, ◌==◌, ℕ, zero, suc, Bool, true, false, ◌&&◌, cond, not, nat_le, min, inl, inr, List, [], ◌∷◌, ◌++◌, length, map, filter, take, if◌then◌else◌, refl, ap, ap₂, sym, subst, subst₂, ◌∙◌, append-nil, append_assoc, arith}
use Rattle.std.specs.Prelude.{bit_and, slice_index_or}
use Rattle.std.specs.List.{list_all}
use Rattle.std.proofs.lemmas.Bool.{cases_order, ne_eqb}
use Rattle.std.proofs.lemmas.List.{map-append}
use Rattle.std.proofs.lemmas.List.Elements.{All-cons, All-nil, filter-append}
use Rattle.std.proofs.lemmas.Nat.Bits.{and_high}
use Rattle.std.proofs.Math.Nat.{min-le_left, min-le_right}
use Rattle.unicode_normalization.specs.Forms.{nfd}
use Rattle.icu_options.specs.declared.settings.Strength.{Strength}
use Rattle.icu_options.specs.declared.settings.Strength.TheVariants.{Primary, Secondary, Tertiary, Quaternary, Identical}
use Rattle.icu_table_entries.specs.Elements.{Element, quaternary_mask}
use Rattle.icu_table_entries.specs.ElementConditions.{tertiary_of}
use Rattle.icu_rule_meaning.specs.Rules.{Rule, relation, reset, setting, suppression, level_of}
use Rattle.icu_rule_meaning.specs.RelationLaws.{elements_at}
use Rattle.icu_rule_meaning.specs.Steps.{TailoringState, case_step, counting_at, difference_step, first_state, front_elements, last_element, relation_step, rule_step, state_after, strength_step, tailoring_of, with_last_element}
use Rattle.icu_rule_meaning.specs.SymbolicElements.{element_with, ignorable, quaternary_of, to_all_levels}
use Rattle.icu_rule_meaning.specs.SymbolicOrders.{KeepsOrder, NumbersTree, weights_in}
use Rattle.icu_rule_meaning.specs.TailoredCases.{cases_for, cases_of, primary_elements}
use Rattle.icu_rule_meaning.specs.TailoredMappings.{root_mappings, symbolic_elements}
use Rattle.icu_rule_meaning.specs.TailoredRoots.{Root}
use Rattle.icu_rule_meaning.specs.WeightTrees.{WeightTree, above_level, weight_at_level}
use Rattle.icu_rule_meaning.specs.declared.symbolic.SymbolicWeight.{SymbolicWeight}
use Rattle.icu_rule_meaning.specs.declared.symbolic.SymbolicWeight.TheVariants.{Rooted, Tailored}
use Rattle.icu_rule_meaning.specs.declared.symbolic.SymbolicElement.{SymbolicElement}
use Rattle.icu_rule_meaning.proofs.TreeLemmas.{either, mapping_tree, state_keeps}
use Rattle.icu_rule_meaning.proofs.WholeElements.{AreWhole, IsWhole, counting_whole, ignorable_is_whole, last_whole}
use Rattle.icu_rule_meaning.proofs.WholeStates.{tailoring_whole}
use Rattle.icu_rule_meaning.proofs.RelationLemmas.{cases_weights, is_zero, mapping_elements, new_stands, state_after-append, weaker}
use Rattle.icu_rule_weights.specs.declared.tailoring_numbers.tailoring_numbers.TailoringNumbers.{TailoringNumbers}
use Rattle.icu_rule_weights.specs.tailoring_numbers.NumberedElements.{FitsAll, NumberedElementsKeepOrder, fits_lower, numbered_element}
use Rattle.icu_rule_weights.specs.tailoring_numbers.Numberings.{number_of, numbering_of}
use Rattle.icu_rule_laws.specs.apart_elements.UpperWeights.{compared_weights, has_nonzero}
use Rattle.icu_rule_laws.specs.related_texts.RelationOrders.{CountAt, chain_level}
use Rattle.icu_rule_laws.proofs.apart_elements.KeyedReadings.{first_same, rest_same}
use Rattle.icu_rule_laws.proofs.apart_elements.PartedListLemmas.{PartAt}

-- what the four levels compare, with the numbers of symbolic weights
abbrev pub full_by : TailoringNumbers → List SymbolicWeight → List ℕ
full_by t ws =
    number_of t (weight_at_level 1 ws) ∷ number_of t (weight_at_level 2 ws) ∷ number_of t (weight_at_level 3 ws)
    ∷ (if number_of t (weight_at_level 3 ws) == 0 then 0 else 2 ^ 32 + number_of t (weight_at_level 4 ws)) ∷ []

-- what the first levels compare of elements, for each of which one of them compares something
abbrev pub weight_lists : ℕ → TailoringNumbers → List SymbolicElement → List (List ℕ)
weight_lists n t es = filter has_nonzero (map (λ ws. take n (full_by t ws)) (weights_in es))

-- ---- an element with numbers

alone_same : (v w : ℕ) → filter (λ x. not (x == 0)) (v ∷ []) ≡ filter (λ x. not (x == 0)) (w ∷ []) → v ≡ w
alone_same v w e = by (v == 0) refl (w == 0) refl e where
  by : (b : Bool) → (v == 0) ≡ b → (c : Bool) → (w == 0) ≡ c → cond (not b) (v ∷ []) [] ≡ cond (not c) (w ∷ []) [] → v ≡ w
  by true first true second same = is_zero v first ∙ sym (is_zero w second)
  by true first false second same = cc
  by false first true second same = cc
  by false first false second same = first_same same

low_quaternary : (l : ℕ) → bit_and l quaternary_mask / 64 ≡ l / 2 ^ 6 % 2 ^ 2
low_quaternary l = omega (arith, and_high l 2 6)

module _ (keeps : NumberedElementsKeepOrder) (t : TailoringNumbers) (e : SymbolicElement) (w : IsWhole e) (fits : fits_lower t e ≡ true) where
  all_fit : FitsAll t (e ∷ [])
  all_fit =
      All-cons (λ (f : SymbolicElement). (length f.weights ≡ 4) × (fits_lower t f ≡ true)) e [] (ap length w.weights, fits)
      (All-nil (λ (f : SymbolicElement). (length f.weights ≡ 4) × (fits_lower t f ≡ true)))

  third_is : tertiary_of (numbered_element t e) ≡ number_of t (weight_at_level 3 e.weights)
  third_is =
      alone_same (tertiary_of (numbered_element t e)) (numbering_of t (take 3 e.weights)) (keeps t (e ∷ []) 3 (omega arith) (omega arith) all_fit)
      ∙ ap (λ ws. numbering_of t (take 3 ws)) w.weights ∙ sym (ap (λ ws. number_of t (weight_at_level 3 ws)) w.weights)

  fourth_is : quaternary_of (numbered_element t e) ≡ number_of t (weight_at_level 4 e.weights)
  fourth_is =
      alone_same (quaternary_of (numbered_element t e)) (numbering_of t (take 4 e.weights)) (keeps t (e ∷ []) 4 (omega arith) (omega arith) all_fit)
      ∙ ap (λ ws. numbering_of t (take 4 ws)) w.weights ∙ sym (ap (λ ws. number_of t (weight_at_level 4 ws)) w.weights)

  pub compared_is : compared_weights (numbered_element t e) ≡ full_by t e.weights
  compared_is =
      let x : Element = numbered_element t e in
      ap₂ (λ third fourth. number_of t (weight_at_level 1 e.weights) ∷ number_of t (weight_at_level 2 e.weights) ∷ third
      ∷ (if third == 0 then 0 else 2 ^ 32 + fourth) ∷ []) third_is (low_quaternary x.lower ∙ fourth_is)

-- ---- what counts at no level up to one

third_none : (t : TailoringNumbers) (p s r : SymbolicWeight) → p ≡ Rooted 0 → s ≡ Rooted 0 → r ≡ Rooted 0
    → has_nonzero (number_of t p ∷ number_of t s ∷ number_of t r ∷ []) ≡ false
third_none t p s r e f g =
    ap (λ x. has_nonzero (number_of t x ∷ number_of t s ∷ number_of t r ∷ [])) e
    ∙ ap (λ x. has_nonzero (0 ∷ number_of t x ∷ number_of t r ∷ [])) f ∙ ap (λ x. has_nonzero (0 ∷ 0 ∷ number_of t x ∷ [])) g

fourth_none : (t : TailoringNumbers) (p s r q : SymbolicWeight) → p ≡ Rooted 0 → s ≡ Rooted 0 → r ≡ Rooted 0
    → has_nonzero (full_by t (p ∷ s ∷ r ∷ q ∷ [])) ≡ false
fourth_none t p s r q e f g =
    ap (λ x. has_nonzero (full_by t (x ∷ s ∷ r ∷ q ∷ []))) e ∙ ap (λ x. has_nonzero (full_by t (Rooted 0 ∷ x ∷ r ∷ q ∷ []))) f
    ∙ ap (λ x. has_nonzero (full_by t (Rooted 0 ∷ Rooted 0 ∷ x ∷ q ∷ []))) g

quiet : (t : TailoringNumbers) (n : ℕ) (e : SymbolicElement) → n ≤ 4 → n < e.strength → IsWhole e
    → has_nonzero (take n (full_by t e.weights)) ≡ false
quiet t zero e l h w = refl
quiet t (suc zero) e l h w =
    ap (λ ws. has_nonzero (take 1 (full_by t ws))) w.weights ∙ ap (λ x. has_nonzero (number_of t x ∷ [])) (w.no_primary h)
quiet t (suc (suc zero)) e l h w =
    ap (λ ws. has_nonzero (take 2 (full_by t ws))) w.weights
    ∙ ap₂ (λ x y. has_nonzero (number_of t x ∷ number_of t y ∷ [])) (w.no_primary (omega (arith, h))) (w.no_secondary h)
quiet t (suc (suc (suc zero))) e l h w =
    ap (λ ws. has_nonzero (take 3 (full_by t ws))) w.weights
    ∙ third_none t w.primary w.secondary w.tertiary (w.no_primary (omega (arith, h))) (w.no_secondary (omega (arith, h))) (w.no_tertiary h)
quiet t (suc (suc (suc (suc zero)))) e l h w =
    ap (λ ws. has_nonzero (take 4 (full_by t ws))) w.weights
    ∙ fourth_none t w.primary w.secondary w.tertiary w.quaternary (w.no_primary (omega (arith, h))) (w.no_secondary (omega (arith, h)))
    (w.no_tertiary (omega (arith, h)))
quiet t (suc (suc (suc (suc (suc n))))) e l h w = absurd (omega arith)

-- ---- lists of elements

pub lists-append : (n : ℕ) (t : TailoringNumbers) (es fs : List SymbolicElement)
    → weight_lists n t (es ++ fs) ≡ weight_lists n t es ++ weight_lists n t fs
lists-append n t es fs =
    let full : List SymbolicWeight → List ℕ = λ ws. take n (full_by t ws) in
    ap (λ wss. filter has_nonzero (map full wss)) (map-append (λ (e : SymbolicElement). e.weights) es fs)
    ∙ ap (filter has_nonzero) (map-append full (weights_in es) (weights_in fs))
    ∙ filter-append has_nonzero (map full (weights_in es)) (map full (weights_in fs))

kept_lists : (t : TailoringNumbers) (n m : ℕ) (e : SymbolicElement) (rest : List SymbolicElement)
    → (m < e.strength → has_nonzero (take n (full_by t e.weights)) ≡ false)
    → weight_lists n t (elim rest as (λ _. List SymbolicElement) [ [] ↦ if nat_le e.strength m then e ∷ [] else [] | f ∷ fs ↦ e ∷ f ∷ fs ])
    ≡ weight_lists n t (e ∷ rest)
kept_lists t n m e [] none =
    either (λ es. weight_lists n t es ≡ weight_lists n t (e ∷ [])) (nat_le e.strength m) (e ∷ []) [] (λ _. refl)
    (λ b. sym (ap (λ c. cond c (take n (full_by t e.weights) ∷ []) []) (none (weaker e.strength m b))))
kept_lists t n m e (f ∷ fs) none = refl

pub counting_lists : (t : TailoringNumbers) (n m : ℕ) → n ≤ m → n ≤ 4 → (es : List SymbolicElement) → AreWhole es
    → weight_lists n t (counting_at m es) ≡ weight_lists n t es
unfolding counting_at
counting_lists t n m p q [] ws = refl
counting_lists t n m p q (e ∷ es) (w, ws) =
    kept_lists t n m e (counting_at m es) (λ h. quiet t n e q (omega (arith, p, h)) w)
    ∙ ap (λ l. cond (has_nonzero (take n (full_by t e.weights))) (take n (full_by t e.weights) ∷ l) l) (counting_lists t n m p q es ws)

pub front_last : (e : SymbolicElement) (es : List SymbolicElement) → e ∷ es ≡ front_elements (e ∷ es) ++ last_element (e ∷ es) ∷ []
front_last e [] = refl
front_last e (f ∷ es) = ap (λ l. e ∷ l) (front_last f es)

-- ---- weights that count

nothing_there : (k : ℕ) → ◌≡◌ {A = ℕ} (slice_index_or [] k 0) 0
nothing_there zero = refl
nothing_there (suc k) = refl

one_counts : (b a : Bool) → not a ≡ true → not (b && a) ≡ true
one_counts true a e = e
one_counts false a e = refl

pub slot_counts : (ws : List ℕ) (k : ℕ) → slice_index_or ws k 0 ≢ 0 → has_nonzero ws ≡ true
slot_counts [] k some = absurd (some (nothing_there k))
slot_counts (w ∷ ws) zero some = ap (λ b. not (b && list_all (λ x. x == 0) ws)) (ne_eqb w 0 some)
slot_counts (w ∷ ws) (suc k) some = one_counts (w == 0) (list_all (λ x. x == 0) ws) (slot_counts ws k some)

-- what levels up to one compare of an element, and of the new one in its place
record Differs (m : ℕ) (t : TailoringNumbers) (e new : SymbolicElement) : Type 0 where
  above : take (m - 1) (take m (full_by t e.weights)) ≡ take (m - 1) (take m (full_by t new.weights))
  counts : slice_index_or (take m (full_by t e.weights)) (m - 1) 0 ≢ 0
  less : slice_index_or (take m (full_by t e.weights)) (m - 1) 0 < slice_index_or (take m (full_by t new.weights)) (m - 1) 0

-- what levels compare of elements: all but the last is the same, and the last is less
pub record EndsApart (n : ℕ) (xss yss : List (List ℕ)) : Type 0 where
  pub front : List (List ℕ)
  pub u : List ℕ
  pub v : List ℕ
  pub left : xss ≡ front ++ u ∷ []
  pub right : yss ≡ front ++ v ∷ []
  pub above : take (n - 1) u ≡ take (n - 1) v
  pub counts : slice_index_or u (n - 1) 0 ≢ 0
  pub less : slice_index_or u (n - 1) 0 < slice_index_or v (n - 1) 0

abbrev pub ends_part : (n : ℕ) (xss yss : List (List ℕ)) → EndsApart n xss yss → PartAt n xss yss
ends_part n xss yss a = record {
  front = a.front;
  u = a.u;
  v = a.v;
  rest = [];
  other_rest = [];
  left = a.left;
  right = a.right;
  above = a.above;
  counts = a.counts;
  less = a.less;
  rests = refl;
}

-- ---- another last element

pub ignorable_slot : (t : TailoringNumbers) (m : ℕ) → 1 ≤ m → m ≤ 4 → slice_index_or (take m (full_by t ignorable.weights)) (m - 1) 0 ≡ 0
ignorable_slot t zero a b = absurd (omega arith)
ignorable_slot t (suc zero) a b = refl
ignorable_slot t (suc (suc zero)) a b = refl
ignorable_slot t (suc (suc (suc zero))) a b = refl
ignorable_slot t (suc (suc (suc (suc zero)))) a b = refl
ignorable_slot t (suc (suc (suc (suc (suc m))))) a b = absurd (omega arith)

last_same : (n : ℕ) (t : TailoringNumbers) (es : List SymbolicElement) (new : SymbolicElement) → n ≤ 4
    → take n (full_by t new.weights) ≡ take n (full_by t (last_element es).weights)
    → weight_lists n t (with_last_element es new) ≡ weight_lists n t es
last_same n t [] new l e =
    ap (λ ws. cond (has_nonzero ws) (ws ∷ []) []) e
    ∙ ap (λ b. cond b (take n (full_by t ignorable.weights) ∷ []) []) (quiet t n ignorable l (omega (arith, l)) ignorable_is_whole)
last_same n t (e ∷ es) new l same =
    lists-append n t (front_elements (e ∷ es)) (new ∷ [])
    ∙ ap (λ ws. weight_lists n t (front_elements (e ∷ es)) ++ cond (has_nonzero ws) (ws ∷ []) []) same
    ∙ sym (lists-append n t (front_elements (e ∷ es)) (last_element (e ∷ es) ∷ []))
    ∙ sym (ap (weight_lists n t) (front_last e es))

last_apart : (m : ℕ) (t : TailoringNumbers) (es : List SymbolicElement) (new : SymbolicElement) → 1 ≤ m → m ≤ 4
    → Differs m t (last_element es) new → EndsApart m (weight_lists m t es) (weight_lists m t (with_last_element es new))
last_apart m t [] new a b d = absurd (d.counts (ignorable_slot t m a b))
last_apart m t (e ∷ es) new a b d =
    let front = front_elements (e ∷ es) in
    let old = last_element (e ∷ es) in
    let here = slot_counts (take m (full_by t old.weights)) (m - 1) d.counts in
    let some : slice_index_or (take m (full_by t new.weights)) (m - 1) 0 ≢ 0 = λ z. let l = d.less in omega (arith, l, z) in
    let there = slot_counts (take m (full_by t new.weights)) (m - 1) some in
    record {
      front = weight_lists m t front;
      u = take m (full_by t old.weights);
      v = take m (full_by t new.weights);
      left =
          ap (weight_lists m t) (front_last e es) ∙ lists-append m t front (old ∷ [])
          ∙ ap (λ c. weight_lists m t front ++ cond c (take m (full_by t old.weights) ∷ []) []) here;
      right =
          lists-append m t front (new ∷ []) ∙ ap (λ c. weight_lists m t front ++ cond c (take m (full_by t new.weights) ∷ []) []) there;
      above = d.above;
      counts = d.counts;
      less = d.less;
    }

-- ---- an element with a new weight

by_weights : (f g : List SymbolicWeight → List ℕ) (ws vs : List SymbolicWeight) → ws ≡ vs → f vs ≡ g vs → f ws ≡ g ws
by_weights f g ws vs e same = ap f e ∙ same ∙ sym (ap g e)

-- before its level it is the same
pub new_same : (t : TailoringNumbers) (n m : ℕ) (e : SymbolicElement) (x : SymbolicWeight) (s : ℕ) → n < m → m ≤ 4 → IsWhole e
    → take n (full_by t (element_with (above_level m e.weights ++ x ∷ []) s).weights) ≡ take n (full_by t e.weights)
new_same t zero m e x s p q w = refl
new_same t (suc zero) (suc (suc zero)) e x s p q w =
    by_weights (λ ws. take 1 (full_by t (to_all_levels (above_level 2 ws ++ x ∷ [])))) (λ ws. take 1 (full_by t ws)) e.weights _ w.weights refl
new_same t (suc zero) (suc (suc (suc zero))) e x s p q w =
    by_weights (λ ws. take 1 (full_by t (to_all_levels (above_level 3 ws ++ x ∷ [])))) (λ ws. take 1 (full_by t ws)) e.weights _ w.weights refl
new_same t (suc zero) (suc (suc (suc (suc zero)))) e x s p q w =
    by_weights (λ ws. take 1 (full_by t (to_all_levels (above_level 4 ws ++ x ∷ [])))) (λ ws. take 1 (full_by t ws)) e.weights _ w.weights refl
new_same t (suc (suc zero)) (suc (suc (suc zero))) e x s p q w =
    by_weights (λ ws. take 2 (full_by t (to_all_levels (above_level 3 ws ++ x ∷ [])))) (λ ws. take 2 (full_by t ws)) e.weights _ w.weights refl
new_same t (suc (suc zero)) (suc (suc (suc (suc zero)))) e x s p q w =
    by_weights (λ ws. take 2 (full_by t (to_all_levels (above_level 4 ws ++ x ∷ [])))) (λ ws. take 2 (full_by t ws)) e.weights _ w.weights refl
new_same t (suc (suc (suc zero))) (suc (suc (suc (suc zero)))) e x s p q w =
    by_weights (λ ws. take 3 (full_by t (to_all_levels (above_level 4 ws ++ x ∷ [])))) (λ ws. take 3 (full_by t ws)) e.weights _ w.weights refl
new_same t (suc n) zero e x s p q w = absurd (omega arith)
new_same t (suc n) (suc zero) e x s p q w = absurd (omega arith)
new_same t (suc (suc n)) (suc (suc zero)) e x s p q w = absurd (omega arith)
new_same t (suc (suc (suc n))) (suc (suc (suc zero))) e x s p q w = absurd (omega arith)
new_same t (suc (suc (suc (suc n)))) (suc (suc (suc (suc zero)))) e x s p q w = absurd (omega arith)
new_same t (suc n) (suc (suc (suc (suc (suc m))))) e x s p q w = absurd (omega arith)

fourth_less : (b : Bool) (v x : ℕ) → b ≡ false → v < x → (if b then 0 else 2 ^ 32 + v) < (if b then 0 else 2 ^ 32 + x)
fourth_less true v x e l = cc
fourth_less false v x e l = omega (arith, l)

fourth_counts : (b : Bool) (v : ℕ) → b ≡ false → (if b then 0 else 2 ^ 32 + v) ≢ 0
fourth_counts true v e = cc
fourth_counts false v e = λ z. omega (arith, z)

-- at its level it is greater
differ : (t : TailoringNumbers) (m : ℕ) → 1 ≤ m → m ≤ 4 → (e : SymbolicElement) (x : SymbolicWeight) (s : ℕ) → IsWhole e
    → number_of t (weight_at_level (min m 3) e.weights) ≢ 0 → number_of t (weight_at_level m e.weights) < number_of t x
    → Differs m t e (element_with (above_level m e.weights ++ x ∷ []) s)
differ t zero a b e x s w c l = absurd (omega arith)
differ t (suc zero) a b e x s w c l = record { above = refl; counts = c; less = l }
differ t (suc (suc zero)) a b e x s w c l = record {
  above = sym (new_same t 1 2 e x s (omega arith) b w);
  counts = c;
  less = subst (λ ws. number_of t (weight_at_level 2 e.weights) < number_of t (weight_at_level 2 (to_all_levels (above_level 2 ws ++ x ∷ [])))) (sym w.weights) l;
}
differ t (suc (suc (suc zero))) a b e x s w c l = record {
  above = sym (new_same t 2 3 e x s (omega arith) b w);
  counts = c;
  less = subst (λ ws. number_of t (weight_at_level 3 e.weights) < number_of t (weight_at_level 3 (to_all_levels (above_level 3 ws ++ x ∷ [])))) (sym w.weights) l;
}
differ t (suc (suc (suc (suc zero)))) a b e x s w c l =
    let some : (number_of t w.tertiary == 0) ≡ false = ap (λ ws. number_of t (weight_at_level 3 ws) == 0) (sym w.weights) ∙ ne_eqb _ 0 c in
    record {
      above = sym (new_same t 3 4 e x s (omega arith) b w);
      counts = fourth_counts (number_of t (weight_at_level 3 e.weights) == 0) (number_of t (weight_at_level 4 e.weights)) (ne_eqb _ 0 c);
      less =
          subst (λ ws. slice_index_or (full_by t ws) 3 0 < slice_index_or (full_by t (to_all_levels (above_level 4 ws ++ x ∷ []))) 3 0) (sym w.weights)
          (fourth_less (number_of t w.tertiary == 0) (number_of t w.quaternary) (number_of t x) some
          (subst (λ ws. number_of t (weight_at_level 4 ws) < number_of t x) w.weights l));
    }
differ t (suc (suc (suc (suc (suc m))))) a b e x s w c l = absurd (omega arith)

-- ---- one relation

pub numbering_last : (t : TailoringNumbers) (above : List SymbolicWeight) (v : SymbolicWeight) → numbering_of t (above ++ v ∷ []) ≡ number_of t v
numbering_last t [] v = refl
numbering_last t (a ∷ []) v = refl
numbering_last t (a ∷ b ∷ above) v = numbering_last t (b ∷ above) v

-- what levels compare before a rule and after it
record IsStep (n m : ℕ) (t : TailoringNumbers) (counts : Type 0) (es fs : List SymbolicElement) : Type 0 where
  same : n < m → weight_lists n t es ≡ weight_lists n t fs
  apart : n ≡ m → counts → EndsApart n (weight_lists n t es) (weight_lists n t fs)

-- the element from which a relation of a level differs counts there
abbrev pub Counts : TailoringNumbers → ℕ → List SymbolicElement → Type 0
Counts t m es = number_of t (weight_at_level (min m 3) (last_element (counting_at m es)).weights) ≢ 0

module _ (t : TailoringNumbers) (tree : WeightTree) (numbers : NumbersTree tree (numbering_of t)) (state : TailoringState) (whole : AreWhole state.elements) (n : ℕ) (few : n ≤ 4) where
  pub number_less : (m : ℕ) → KeepsOrder (difference_step m state).tree tree
      → number_of t (weight_at_level m (last_element (counting_at m state.elements)).weights) < number_of t (Tailored state.made)
  unfolding difference_step
  number_less m keeps =
      let ws = (last_element (counting_at m state.elements)).weights in
      let above = above_level m ws in
      let v = weight_at_level m ws in
      subst₂ (λ a b. a < b) (numbering_last t above v) (numbering_last t above (Tailored state.made))
      (numbers.ascends above v (Tailored state.made) (keeps above v (Tailored state.made) (new_stands state.tree m ws (Tailored state.made))))

  difference : (m : ℕ) → 1 ≤ m → m ≤ 4 → KeepsOrder (difference_step m state).tree tree
      → IsStep n m t (Counts t m state.elements) state.elements (difference_step m state).elements
  unfolding difference_step
  difference m a b keeps =
      let counting = counting_at m state.elements in
      let e = last_element counting in
      let w = last_whole counting (counting_whole m state.elements whole) in
      let x : SymbolicWeight = Tailored state.made in
      record {
        same = λ under.
            sym (counting_lists t n m (omega (arith, under)) few state.elements whole)
            ∙ sym (last_same n t counting (element_with (above_level m e.weights ++ x ∷ []) (min m e.strength)) few
            (new_same t n m e x (min m e.strength) under b w));
        apart = λ at counts.
            subst (λ k. EndsApart k (weight_lists k t state.elements) (weight_lists k t (difference_step m state).elements)) (sym at)
            (subst (λ xss. EndsApart m xss (weight_lists m t (difference_step m state).elements)) (counting_lists t m m (omega arith) b state.elements whole)
            (last_apart m t counting (element_with (above_level m e.weights ++ x ∷ []) (min m e.strength)) a b
            (differ t m a b e x (min m e.strength) w counts (number_less m keeps))));
      }

  by_strength : (strength : Strength) → KeepsOrder (strength_step strength state).tree tree
      → IsStep n (level_of strength) t (Counts t (level_of strength) state.elements) state.elements (strength_step strength state).elements
  by_strength Primary keeps = difference 1 (omega arith) (omega arith) keeps
  by_strength Secondary keeps = difference 2 (omega arith) (omega arith) keeps
  by_strength Tertiary keeps = difference 3 (omega arith) (omega arith) keeps
  by_strength Quaternary keeps = difference 4 (omega arith) (omega arith) keeps
  by_strength Identical keeps = record { same = λ under. refl; apart = λ at counts. absurd (omega (arith, at, few)) }

-- a relation has the weights of its difference
pub relation_weights : (root : Root) (strength : Strength) (prefix string extension : List ℕ) (state : TailoringState)
    → weights_in (relation_step root strength prefix string extension state).elements ≡ weights_in (strength_step strength state).elements
unfolding relation_step
relation_weights root strength prefix string extension state =
    let stepped = strength_step strength state in
    let cased : TailoringState = case_step root (nfd string) stepped in
    let of_string = symbolic_elements (root_mappings root) (nfd string) in
    ap weights_in (mapping_elements (nfd prefix) (nfd string) (cased.elements ++ symbolic_elements state.mappings (nfd extension)) cased)
    ∙ cases_weights (cases_for (length (primary_elements stepped.elements)) (cases_of of_string)) stepped.elements

pub relation_tree : (root : Root) (strength : Strength) (prefix string extension : List ℕ) (state : TailoringState)
    → (relation_step root strength prefix string extension state).tree ≡ (strength_step strength state).tree
unfolding relation_step
relation_tree root strength prefix string extension state =
    let cased : TailoringState = case_step root (nfd string) (strength_step strength state) in
    mapping_tree (nfd prefix) (nfd string) (cased.elements ++ symbolic_elements state.mappings (nfd extension)) cased

-- ---- chains

snoc_same : (xs ys : List (List ℕ)) (x y : List ℕ) → xs ++ x ∷ [] ≡ ys ++ y ∷ [] → (xs ≡ ys) × (x ≡ y)
snoc_same [] [] x y e = (refl, first_same e)
snoc_same [] (b ∷ ys) x y e = absurd (none ys (rest_same e)) where
  none : (ys : List (List ℕ)) → [] ≡ ys ++ y ∷ [] → ⊥
  none [] f = cc
  none (b ∷ ys) f = cc
snoc_same (a ∷ xs) [] x y e = absurd (none xs (rest_same e)) where
  none : (xs : List (List ℕ)) → xs ++ x ∷ [] ≡ [] → ⊥
  none [] f = cc
  none (a ∷ xs) f = cc
snoc_same (a ∷ xs) (b ∷ ys) x y e =
    let more = snoc_same xs ys x y (rest_same e) in
    (ap₂ (λ w ws. w ∷ ws) (first_same e) more.0, more.1)

after_another : (n : ℕ) (xss yss zss : List (List ℕ)) → EndsApart n xss yss → EndsApart n yss zss → EndsApart n xss zss
after_another n xss yss zss a b =
    let same = snoc_same a.front b.front a.v b.u (sym a.right ∙ b.left) in
    let between : slice_index_or a.v (n - 1) 0 ≡ slice_index_or b.u (n - 1) 0 = ap (λ ws. slice_index_or ws (n - 1) 0) same.1 in
    let first = a.less in
    let second = b.less in
    record {
      front = a.front;
      u = a.u;
      v = b.v;
      left = a.left;
      right = b.right ∙ ap (λ l. l ++ b.v ∷ []) (sym same.0);
      above = a.above ∙ ap (take (n - 1)) same.1 ∙ b.above;
      counts = a.counts;
      less = omega (arith, first, second, between);
    }

module _ (n m k : ℕ) (xss yss zss : List (List ℕ)) (same_first : n < m → xss ≡ yss) (apart_first : n ≡ m → EndsApart n xss yss)
    (same_second : n < k → yss ≡ zss) (apart_second : n ≡ k → EndsApart n yss zss) where
  both_same : n < min m k → xss ≡ zss
  both_same under =
      let left = min-le_left m k in
      let right = min-le_right m k in
      same_first (omega (arith, under, left)) ∙ same_second (omega (arith, under, right))

  both_apart : n ≡ min m k → EndsApart n xss zss
  both_apart at = elim (cases_order m k) [
    | inl e ↦ after_another n xss yss zss (apart_first (omega (arith, at, e))) (apart_second (omega (arith, at, e)))
    | inr (inl h) ↦ subst (λ z. EndsApart n xss z) (same_second (omega (arith, at, h))) (apart_first (omega (arith, at, h)))
    | inr (inr h) ↦ subst (λ x. EndsApart n x zss) (sym (same_first (omega (arith, at, h)))) (apart_second (omega (arith, at, h)))
  ]

module _ (root : Root) (t : TailoringNumbers) (n : ℕ) (few : n ≤ 4) where
  abbrev lists_at : List Rule → List (List ℕ)
  lists_at rules = weight_lists n t (elements_at root rules)

  abbrev AreNumbered : List Rule → Type 0
  AreNumbered rules = NumbersTree (tailoring_of root rules).tree (numbering_of t)

  lists_of_weights : (es fs : List SymbolicElement) → weights_in es ≡ weights_in fs → weight_lists n t es ≡ weight_lists n t fs
  lists_of_weights es fs e = ap (λ wss. filter has_nonzero (map (λ ws. take n (full_by t ws)) wss)) e

  one : (earlier later : List Rule) (strength : Strength) (prefix string extension : List ℕ)
      → AreNumbered (earlier ++ relation strength prefix string extension ∷ later)
      → IsStep n (level_of strength) t (Counts t (level_of strength) (elements_at root earlier)) (elements_at root earlier)
      (elements_at root (earlier ++ relation strength prefix string extension ∷ []))
  one earlier later strength prefix string extension given =
      let rule : Rule = relation strength prefix string extension in
      let before = tailoring_of root earlier in
      let after = rule_step root before rule in
      let last = state_after root after later in
      let numbers : NumbersTree last.tree (numbering_of t) =
      subst (λ (s : TailoringState). NumbersTree s.tree (numbering_of t)) (state_after-append root (first_state root) earlier (rule ∷ later)) given in
      let keeps : KeepsOrder (strength_step strength before).tree last.tree =
      subst (λ (tree : WeightTree). KeepsOrder tree last.tree) (relation_tree root strength prefix string extension before) (state_keeps root after later) in
      let step = by_strength t last.tree numbers before (tailoring_whole root earlier).elements n few strength keeps in
      let same : weight_lists n t (strength_step strength before).elements ≡ lists_at (earlier ++ rule ∷ []) =
      sym (lists_of_weights after.elements (strength_step strength before).elements (relation_weights root strength prefix string extension before))
      ∙ sym (ap (λ (s : TailoringState). weight_lists n t s.elements) (state_after-append root (first_state root) earlier (rule ∷ []))) in
      record {
        same = λ under. step.same under ∙ same;
        apart = λ at counts. subst (λ yss. EndsApart n (lists_at earlier) yss) same (step.apart at counts);
      }

  pub in_chain : (chain earlier later : List Rule) → 1 ≤ chain_level chain → AreNumbered (earlier ++ (chain ++ later)) → CountAt root t n earlier chain
      → (n < chain_level chain → lists_at earlier ≡ lists_at (earlier ++ chain))
      × (n ≡ chain_level chain → EndsApart n (lists_at earlier) (lists_at (earlier ++ chain)))
  in_chain [] earlier later some given counts =
      (λ under. sym (ap lists_at (append-nil earlier)), λ at. absurd (omega (arith, at, few)))
  in_chain (relation strength prefix string extension ∷ chain) earlier later some given counts =
      let rule : Rule = relation strength prefix string extension in
      let right = min-le_right (level_of strength) (chain_level chain) in
      let joined : lists_at ((earlier ++ rule ∷ []) ++ chain) ≡ lists_at (earlier ++ (rule ∷ chain)) = ap lists_at (append_assoc earlier (rule ∷ []) chain) in
      let first = one earlier (chain ++ later) strength prefix string extension given in
      let more = in_chain chain (earlier ++ rule ∷ []) later (omega (arith, some, right))
      (subst AreNumbered (sym (append_assoc earlier (rule ∷ []) (chain ++ later))) given) counts.1 in
      let first_apart : n ≡ level_of strength → EndsApart n (lists_at earlier) (lists_at (earlier ++ rule ∷ [])) =
      λ at. first.apart at (subst (λ k. Counts t k (elements_at root earlier)) at (counts.0 at)) in (
        λ under. both_same n (level_of strength) (chain_level chain) _ _ _ first.same first_apart more.0 more.1 under ∙ joined,
        λ at. subst (λ zss. EndsApart n (lists_at earlier) zss) joined
            (both_apart n (level_of strength) (chain_level chain) _ _ _ first.same first_apart more.0 more.1 at),
      )
  in_chain (reset before place ∷ chain) earlier later some given counts = absurd (omega arith)
  in_chain (suppression ranges ∷ chain) earlier later some given counts = absurd (omega arith)
  in_chain (setting said ∷ chain) earlier later some given counts = absurd (omega arith)
