-- What was tailored first and last among siblings.
use Rattle.std.proofs.Common.{◌≡◌, ℕ, zero, suc, ◌-◌, ◌<◌, Bool, true, false, not, cond, List, [], ◌∷◌, length, take_while, drop, get_or, unwrap_or, inl, inr, refl, ap, sym, ◌∙◌, arith}
use Rattle.std.proofs.lemmas.Bool.{cases_Bool, lt-ltb, ne_eqb}
use Rattle.std.proofs.lemmas.List.Sums.{take_while-cons}
use Rattle.icu_rule_meaning.proofs.weight_tree.CountingLemmas.{sub_one}
use Rattle.icu_rule_meaning.specs.declared.symbolic.SymbolicWeight.{SymbolicWeight}
use Rattle.icu_rule_meaning.specs.declared.symbolic.SymbolicWeight.TheVariants.{Rooted, Tailored}
use Rattle.icu_rule_meaning.specs.SymbolicElements.{has_tailored_weight, is_same_weight, common_below}
use Rattle.icu_rule_meaning.specs.WeightTrees.{put_behind, first_tree}
use Rattle.icu_rule_meaning.specs.TailoredRoots.{first_above}
use Rattle.icu_rule_meaning.specs.RootPositions.{first_number, nonzero_weights, last_weight}
use Rattle.icu_rule_meaning.proofs.TreeLemmas.{same_weight_is, is_itself, either}
use Rattle.icu_rule_meaning.specs.weight_tree.inner.SiblingPlaces.{first_place}
use Rattle.icu_rule_meaning.specs.weight_tree.inner.TailoredSiblings.{first_weight, if_tailored, first_of_tailored}

pub first_above_zero : (ws : List ℕ) → unwrap_or (first_above ws 0) 0 ≡ first_number (nonzero_weights ws)
unfolding first_above
first_above_zero [] = refl
first_above_zero (zero ∷ ws) = first_above_zero ws
first_above_zero (suc n ∷ ws) = rw (lt-ltb 0 (suc n) (omega arith), ne_eqb (suc n) 0 (omega arith)) refl

pub behind_is : (w : SymbolicWeight) (xs : List SymbolicWeight) → drop (suc (first_place w xs)) xs ≡ put_behind w xs
unfolding put_behind
behind_is w [] = refl
behind_is w (v ∷ xs) = elim (cases_Bool (is_same_weight v w)) [
  | inl e ↦ rw e refl
  | inr e ↦ rw e (behind_is w xs)
]

pub last_passed : (last w : SymbolicWeight) (xs : List SymbolicWeight) → has_tailored_weight w ≡ true
    → last_weight w (take_while has_tailored_weight xs) ≡ last_weight last (take_while has_tailored_weight (w ∷ xs))
last_passed last w xs e = rw (take_while-cons has_tailored_weight w xs, e) refl

pub last_ended : (last w : SymbolicWeight) (xs : List SymbolicWeight) → has_tailored_weight w ≡ false
    → last_weight last (take_while has_tailored_weight (w ∷ xs)) ≡ last
last_ended last w xs e = rw (take_while-cons has_tailored_weight w xs, e) refl

-- siblings that begin with a weight, up to the common one
front : (common w : SymbolicWeight) (xs : List SymbolicWeight) (b : Bool) → is_same_weight w common ≡ b
    → take_while (λ v. not (is_same_weight v common)) (w ∷ xs)
    ≡ cond (not b) (w ∷ take_while (λ v. not (is_same_weight v common)) xs) []
front common w xs b e =
    take_while-cons (λ v. not (is_same_weight v common)) w xs
    ∙ ap (λ c. cond (not c) (w ∷ take_while (λ v. not (is_same_weight v common)) xs) []) e

pub first_passed : (common w : SymbolicWeight) (xs : List SymbolicWeight) → has_tailored_weight w ≡ false
    → is_same_weight w common ≡ false → first_of_tailored common xs ≡ first_of_tailored common (w ∷ xs)
first_passed common w xs rooted other = rw (front common w xs false other, rooted) refl

pub common_met : (common w : SymbolicWeight) (xs : List SymbolicWeight) → is_same_weight w common ≡ true
    → w ≡ first_of_tailored common (w ∷ xs)
common_met common w xs e = rw (front common w xs true e) (same_weight_is w common e)

pub first_met : (common w : SymbolicWeight) (xs : List SymbolicWeight) → has_tailored_weight w ≡ true
    → w ≡ first_of_tailored common (w ∷ xs)
first_met common w xs tailored = elim (cases_Bool (is_same_weight w common)) [
  | inl e ↦ common_met common w xs e
  | inr e ↦ rw (front common w xs false e, tailored) refl
]

pub last_weight_is : (found : SymbolicWeight) (xs : List SymbolicWeight) (d : SymbolicWeight) → 0 < length xs
    → get_or xs (length xs - 1) d ≡ last_weight found xs
last_weight_is found [] d some = absurd (omega arith)
last_weight_is found (w ∷ []) d some = refl
last_weight_is found (w ∷ v ∷ xs) d some =
    ap (λ n. get_or (w ∷ v ∷ xs) n d) (sub_one (length (v ∷ xs)))
    ∙ (sym (ap (λ n. get_or (v ∷ xs) n d) (sub_one (length xs))) ∙ last_weight_is w (v ∷ xs) d (omega arith))

-- ---- before any rule

pub tailored_first : (xs : List SymbolicWeight) → if_tailored (first_weight xs) ≡ first_weight (take_while has_tailored_weight xs)
tailored_first [] = refl
tailored_first (Rooted w ∷ xs) = ap first_weight (sym (take_while-cons has_tailored_weight (Rooted w) xs))
tailored_first (Tailored k ∷ xs) = ap first_weight (sym (take_while-cons has_tailored_weight (Tailored k) xs))

pub none_put_behind : (w : SymbolicWeight) (above : List SymbolicWeight) → put_behind w (first_tree above) ≡ []
unfolding put_behind
none_put_behind w [] = refl
none_put_behind w (v ∷ vs) =
    either (λ (ys : List SymbolicWeight). ys ≡ []) (is_same_weight (common_below (v ∷ vs)) w) [] [] (λ _. refl) (λ _. refl)

pub none_tailored : (above : List SymbolicWeight) → common_below above ≡ first_of_tailored (common_below above) (first_tree above)
none_tailored [] = refl
none_tailored (v ∷ vs) = common_met (common_below (v ∷ vs)) (common_below (v ∷ vs)) [] (is_itself (common_below (v ∷ vs)))

pub last_of_first : (above : List SymbolicWeight) → common_below above ≡ last_weight (common_below above) (first_tree above)
last_of_first [] = refl
last_of_first (v ∷ vs) = refl
