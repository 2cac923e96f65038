-- Elements are one apart if what levels compare of them parts at one element.
use Rattle.std.proofs.Common.{◌≡◌, ◌≢◌, ◌<◌, ◌≤◌, ◌+◌, ◌-◌, ℕ, zero, suc, Bool, true, false, cond, List, [], ◌∷◌, ◌++◌, map, filter, take, refl, ap, ap₂, sym, subst₂, ◌∙◌, append_assoc, arith}
use Rattle.std.specs.Prelude.{slice_index_or}
use Rattle.std.proofs.lemmas.List.{map-append}
use Rattle.std.proofs.lemmas.List.Elements.{filter-append}
use Rattle.icu_table_entries.specs.Elements.{Element}
use Rattle.icu_rule_laws.specs.apart_elements.UpperWeights.{has_nonzero, weight_on, upper_weights, upper_lists}
use Rattle.icu_rule_laws.specs.apart_elements.ApartElements.{AreOneApart}
use Rattle.icu_rule_laws.proofs.apart_elements.KeyedReadings.{first_same, rest_same}
use Rattle.icu_rule_laws.proofs.apart_elements.UpperLemmas.{lower_lists}

-- what levels before one compare of several
abbrev pub cut_lists : ℕ → List (List ℕ) → List (List ℕ)
cut_lists k wss = filter has_nonzero (map (take k) wss)

-- what levels compare of elements: up to one it is the same, and that one is less at the last level
pub record PartAt (n : ℕ) (xss yss : List (List ℕ)) : Type 0 where
  pub front : List (List ℕ)
  pub u : List ℕ
  pub v : List ℕ
  pub rest : List (List ℕ)
  pub other_rest : List (List ℕ)
  pub left : xss ≡ front ++ u ∷ rest
  pub right : yss ≡ front ++ v ∷ other_rest
  pub above : take (n - 1) u ≡ take (n - 1) v
  pub counts : slice_index_or u (n - 1) 0 ≢ 0
  pub less : slice_index_or u (n - 1) 0 < slice_index_or v (n - 1) 0
  pub rests : cut_lists (n - 1) rest ≡ cut_lists (n - 1) other_rest

-- ---- something before and after both

pub snoc_more : (xs fs : List (List ℕ)) (u : List ℕ) (rs ys : List (List ℕ)) → xs ++ ((fs ++ u ∷ rs) ++ ys) ≡ (xs ++ fs) ++ u ∷ (rs ++ ys)
snoc_more xs fs u rs ys = ap (λ l. xs ++ l) (append_assoc fs (u ∷ rs) ys) ∙ sym (append_assoc xs fs (u ∷ (rs ++ ys)))

pub cut-append : (k : ℕ) (xs ys : List (List ℕ)) → cut_lists k (xs ++ ys) ≡ cut_lists k xs ++ cut_lists k ys
cut-append k xs ys = ap (filter has_nonzero) (map-append (take k) xs ys) ∙ filter-append has_nonzero (map (take k) xs) (map (take k) ys)

abbrev pub part_between : (n : ℕ) (before xss yss after other_after : List (List ℕ)) → cut_lists (n - 1) after ≡ cut_lists (n - 1) other_after
    → PartAt n xss yss → PartAt n (before ++ (xss ++ after)) (before ++ (yss ++ other_after))
part_between n before xss yss after other_after same p = record {
  front = before ++ p.front;
  u = p.u;
  v = p.v;
  rest = p.rest ++ after;
  other_rest = p.other_rest ++ other_after;
  left = ap (λ l. before ++ (l ++ after)) p.left ∙ snoc_more before p.front p.u p.rest after;
  right = ap (λ l. before ++ (l ++ other_after)) p.right ∙ snoc_more before p.front p.v p.other_rest other_after;
  above = p.above;
  counts = p.counts;
  less = p.less;
  rests =
      cut-append (n - 1) p.rest after ∙ ap₂ (λ us vs. us ++ vs) p.rests same ∙ sym (cut-append (n - 1) p.other_rest other_after);
}

-- ---- the element at which they part

pub record IsAtElement (n : ℕ) (xs : List Element) (before : List (List ℕ)) (u : List ℕ) (after : List (List ℕ)) : Type 0 where
  pub front : List Element
  pub e : Element
  pub rest : List Element
  pub is : xs ≡ front ++ e ∷ rest
  pub front_is : upper_lists n front ≡ before
  pub here : upper_weights n e ≡ u
  pub rest_is : upper_lists n rest ≡ after

pub element_here : (n : ℕ) (x : Element) (xs : List Element) (u : List ℕ) (after : List (List ℕ))
    → ((before : List (List ℕ)) → upper_lists n xs ≡ before ++ u ∷ after → IsAtElement n xs before u after)
    → (b : Bool) → has_nonzero (upper_weights n x) ≡ b → (before : List (List ℕ))
    → cond b (upper_weights n x ∷ upper_lists n xs) (upper_lists n xs) ≡ before ++ u ∷ after → IsAtElement n (x ∷ xs) before u after
element_here n x xs u after more false none before h =
    let m = more before h in
    record {
      front = x ∷ m.front;
      e = m.e;
      rest = m.rest;
      is = ap (λ l. x ∷ l) m.is;
      front_is = ap (λ b. cond b (upper_weights n x ∷ upper_lists n m.front) (upper_lists n m.front)) none ∙ m.front_is;
      here = m.here;
      rest_is = m.rest_is;
    }
element_here n x xs u after more true some [] h = record {
  front = [];
  e = x;
  rest = xs;
  is = refl;
  front_is = refl;
  here = first_same h;
  rest_is = rest_same h;
}
element_here n x xs u after more true some (w ∷ before) h =
    let m = more before (rest_same h) in
    record {
      front = x ∷ m.front;
      e = m.e;
      rest = m.rest;
      is = ap (λ l. x ∷ l) m.is;
      front_is =
          ap (λ b. cond b (upper_weights n x ∷ upper_lists n m.front) (upper_lists n m.front)) some
          ∙ ap₂ (λ v vs. v ∷ vs) (first_same h) m.front_is;
      here = m.here;
      rest_is = m.rest_is;
    }

pub none_is_some : (before : List (List ℕ)) (u : List ℕ) (after : List (List ℕ)) → [] ≡ before ++ u ∷ after → ⊥
none_is_some [] u after h = cc
none_is_some (w ∷ before) u after h = cc

pub element_at : (n : ℕ) (xs : List Element) (u : List ℕ) (after before : List (List ℕ)) → upper_lists n xs ≡ before ++ u ∷ after
    → IsAtElement n xs before u after
element_at n [] u after before h = absurd (none_is_some before u after h)
element_at n (x ∷ xs) u after before h =
    element_here n x xs u after (λ bs g. element_at n xs u after bs g) (has_nonzero (upper_weights n x)) refl before h

-- ---- elements

-- a level is one of the four
pub record IsLevel (n : ℕ) : Type 0 where
  pub of_all : (x : Element) → take n (upper_weights 5 x) ≡ upper_weights (n + 1) x
  pub before : (x : Element) → take (n - 1) (upper_weights (n + 1) x) ≡ upper_weights n x
  pub at : (x : Element) → slice_index_or (upper_weights (n + 1) x) (n - 1) 0 ≡ weight_on n x

pub level_of_four : (n : ℕ) → 1 ≤ n → n ≤ 4 → IsLevel n
level_of_four zero a b = absurd (omega arith)
level_of_four (suc zero) a b = record { of_all = λ x. refl; before = λ x. refl; at = λ x. refl }
level_of_four (suc (suc zero)) a b = record { of_all = λ x. refl; before = λ x. refl; at = λ x. refl }
level_of_four (suc (suc (suc zero))) a b = record { of_all = λ x. refl; before = λ x. refl; at = λ x. refl }
level_of_four (suc (suc (suc (suc zero)))) a b = record { of_all = λ x. refl; before = λ x. refl; at = λ x. refl }
level_of_four (suc (suc (suc (suc (suc n))))) a b = absurd (omega arith)

module _ (n : ℕ) (level : IsLevel n) (xs ys : List Element) (p : PartAt n (upper_lists (n + 1) xs) (upper_lists (n + 1) ys)) where
  abbrev pub at_left : IsAtElement (n + 1) xs p.front p.u p.rest
  at_left = element_at (n + 1) xs p.u p.rest p.front p.left

  abbrev pub at_right : IsAtElement (n + 1) ys p.front p.v p.other_rest
  at_right = element_at (n + 1) ys p.v p.other_rest p.front p.right

  -- what is before the level of what follows
  pub cut_rest : (rest : List Element) → cut_lists (n - 1) (upper_lists (n + 1) rest) ≡ upper_lists n rest
  cut_rest = lower_lists (n - 1) (n + 1) n level.before

  pub weight_left : slice_index_or p.u (n - 1) 0 ≡ weight_on n at_left.e
  weight_left = ap (λ ws. slice_index_or ws (n - 1) 0) (sym at_left.here) ∙ level.at at_left.e

  pub weight_right : slice_index_or p.v (n - 1) 0 ≡ weight_on n at_right.e
  weight_right = ap (λ ws. slice_index_or ws (n - 1) 0) (sym at_right.here) ∙ level.at at_right.e

  abbrev pub parted_are_apart : AreOneApart n xs ys
  parted_are_apart = record {
    front = at_left.front;
    e = at_left.e;
    rest = at_left.rest;
    other_front = at_right.front;
    other = at_right.e;
    other_rest = at_right.rest;
    left = at_left.is;
    right = at_right.is;
    fronts = at_left.front_is ∙ sym at_right.front_is;
    above =
        sym (level.before at_left.e) ∙ ap (take (n - 1)) at_left.here ∙ p.above ∙ sym (ap (take (n - 1)) at_right.here)
        ∙ level.before at_right.e;
    counts = λ none. p.counts (weight_left ∙ none);
    less = subst₂ (λ v w. v < w) weight_left weight_right p.less;
    rests =
        sym (cut_rest at_left.rest) ∙ ap (cut_lists (n - 1)) at_left.rest_is ∙ p.rests ∙ sym (ap (cut_lists (n - 1)) at_right.rest_is)
        ∙ cut_rest at_right.rest;
  }

  -- if the same follows up to the level, it does so of the elements
  pub parted_rests : p.rest ≡ p.other_rest → upper_lists (n + 1) parted_are_apart.rest ≡ upper_lists (n + 1) parted_are_apart.other_rest
  parted_rests e = at_left.rest_is ∙ e ∙ sym at_right.rest_is
