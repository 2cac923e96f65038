-- The element that bears a weight, one element after another.
use Rattle.std.proofs.Common.{◌≡◌, ℕ, ◌+◌, ◌-◌, ◌<◌, suc, true, false, List, [], ◌∷◌, ◌++◌, Option, Some, None, is_some, refl, ap, ◌∙◌, sym, arith, append_assoc, append-nil, length, length-append, option_to_list, take, true≢false}
use Rattle.std.proofs.lemmas.Bool.{false≢true}
use Rattle.std.proofs.lemmas.Bool.Decides.{nat_tests}
use Rattle.icu_table_entries.specs.Elements.{Element}
use Rattle.icu_order_texts.specs.weighting.Handled.{handled}
use Rattle.icu_order_texts.specs.weighting.VariableWeightings.{handled_after}
use Rattle.icu_order_texts.specs.declared.weighting.weighting.VariableWeighting.{VariableWeighting}
use Rattle.icu_order_texts.proofs.level_weights.MeetingLemmas.{least_behind, least_here}
use Rattle.icu_order_texts.proofs.level_weights.WeighedLemmas.{none_weighed}
use Rattle.icu_order_texts.specs.level_weights.LeastNumbers.{least_meeting}
use Rattle.icu_order_texts.specs.level_weights.Weighings.{Weighing, element_weights, elements_with, handled_weights, has_enough}

pub count_some : (o : Option ℕ) → is_some o ≡ true → length (option_to_list o) ≡ 1
count_some None some = absurd (false≢true some)
count_some (Some x) some = refl

pub count_none : (o : Option ℕ) → is_some o ≡ false → length (option_to_list o) ≡ 0
count_none None none = refl
count_none (Some x) none = absurd (true≢false none)

module _ (w : Weighing) (before : ℕ) (es : List Element) where
  -- the weights of elements from the front
  abbrev count : List Element → ℕ
  count xs = length (handled_weights w (handled w.handling w.last_variable false xs))

  -- so many elements were passed, and of the weights before the one that is looked for so many are left
  abbrev pub Passed : ℕ → VariableWeighting → ℕ → Type 0
  Passed k v left = (rest : List Element) → count (take k es ++ rest) + left ≡ before + length (handled_weights w (handled_after v rest))

  count_passed : (k : ℕ) (v : VariableWeighting) (left : ℕ) → Passed k v left → length (element_weights w (take k es)) + left ≡ before
  count_passed k v left h =
      let all = ap count (append-nil (take k es)) in
      let none = ap (λ (l : List ℕ). length l) (none_weighed w v) in
      omega (arith, h [], all, none)

  not_yet : (k : ℕ) (v : VariableWeighting) (left : ℕ) → Passed k v left → has_enough w before es k ≡ false
  not_yet k v left h =
      let n = count_passed k v left h in
      grind (arith, nat_tests)

  module _ (k : ℕ) (v u : VariableWeighting) (left now : ℕ) (x : Element) (o : Option ℕ) (h : Passed k v left) (next : take (k + 1) es ≡ take k es ++ x ∷ [])
      (weighed : (rest : List Element) → handled_weights w (handled_after v (x ∷ rest)) ≡ option_to_list o ++ handled_weights w (handled_after u rest)) where
    -- an element more
    more : (rest : List Element) → count (take (k + 1) es ++ rest) + left ≡ before + (length (option_to_list o) + length (handled_weights w (handled_after u rest)))
    more rest =
        let longer = ap (λ (l : List Element). count (l ++ rest)) next ∙ ap count (append_assoc (take k es) (x ∷ []) rest) in
        let weights = ap (λ (l : List ℕ). length l) (weighed rest) ∙ length-append (option_to_list o) (handled_weights w (handled_after u rest)) in
        omega (arith, longer, h (x ∷ rest), weights)

    pub passed_more : now + length (option_to_list o) ≡ left → Passed (k + 1) u now
    passed_more counts = λ rest. omega (arith, more rest, counts)

    -- it bears the weight
    enough : left ≡ 0 → length (option_to_list o) ≡ 1 → has_enough w before es (k + 1) ≡ true
    enough zero one =
        let all = ap count (append-nil (take (k + 1) es)) in
        let none = ap (λ (l : List ℕ). length l) (none_weighed w u) in
        let last = more [] in
        let n : length (element_weights w (take (k + 1) es)) ≡ before + 1 = omega (arith, all, none, last, zero, one) in
        grind (arith, nat_tests)

    left_is : k < length es → length es - k ≡ suc (length es - (k + 1))
    left_is inside = omega (arith, inside)

    pub goes_on : k < length es → least_meeting (has_enough w before es) k (length es - k) ≡ elements_with w before es
        → least_meeting (has_enough w before es) (k + 1) (length es - (k + 1)) ≡ elements_with w before es
    goes_on inside least =
        least_behind (has_enough w before es) k (length es - (k + 1)) (not_yet k v left h)
        ∙ (ap (least_meeting (has_enough w before es) k) (sym (left_is inside)) ∙ least)

    pub found : k < length es → least_meeting (has_enough w before es) k (length es - k) ≡ elements_with w before es
        → left ≡ 0 → length (option_to_list o) ≡ 1 → k + 1 ≡ elements_with w before es
    found inside least zero one =
        least_here (has_enough w before es) (k + 1) (length es - (k + 1)) (enough zero one) ∙ goes_on inside least
