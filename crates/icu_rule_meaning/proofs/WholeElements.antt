-- Elements of four weights, of which those before the first level that counts are 0.
use Rattle.std.proofs.Common.{◌≡◌, ℕ, zero, suc, ◌<◌, ◌≤◌, min, nat_le, List, [], ◌∷◌, ◌++◌, take, if◌then◌else◌, refl, ap, sym, ◌∙◌, arith}
use Rattle.std.proofs.Math.Nat.{min-le_left, min-le_right}
use Rattle.std.specs.List.{AllByRecursion}
use Rattle.icu_rule_meaning.specs.declared.symbolic.SymbolicWeight.{SymbolicWeight}
use Rattle.icu_rule_meaning.specs.declared.symbolic.SymbolicWeight.TheVariants.{Rooted}
use Rattle.icu_rule_meaning.specs.declared.symbolic.SymbolicElement.{SymbolicElement}
use Rattle.icu_rule_meaning.specs.SymbolicElements.{common_below, to_all_levels, element_with, ignorable}
use Rattle.icu_rule_meaning.specs.WeightTrees.{WeightTree, above_level, weight_at_level}
use Rattle.icu_rule_meaning.specs.Steps.{counting_at, last_element, with_last_element}
use Rattle.icu_rule_meaning.specs.SymbolicOrders.{Numbering, NumbersTree}
use Rattle.icu_rule_meaning.proofs.TreeLemmas.{either}

pub record IsWhole (e : SymbolicElement) : Type 0 where
  pub primary : SymbolicWeight
  pub secondary : SymbolicWeight
  pub tertiary : SymbolicWeight
  pub quaternary : SymbolicWeight
  pub weights : e.weights ≡ primary ∷ secondary ∷ tertiary ∷ quaternary ∷ []
  pub no_primary : 1 < e.strength → primary ≡ Rooted 0
  pub no_secondary : 2 < e.strength → secondary ≡ Rooted 0
  pub no_tertiary : 3 < e.strength → tertiary ≡ Rooted 0
  pub no_quaternary : 4 < e.strength → quaternary ≡ Rooted 0

abbrev pub AreWhole : List SymbolicElement → Type 0
AreWhole = AllByRecursion IsWhole

pub ignorable_is_whole : IsWhole ignorable
ignorable_is_whole = record {
  primary = Rooted 0;
  secondary = Rooted 0;
  tertiary = Rooted 0;
  quaternary = Rooted 0;
  weights = refl;
  no_primary = λ _. refl;
  no_secondary = λ _. refl;
  no_tertiary = λ _. refl;
  no_quaternary = λ _. refl;
}

-- ---- lists of elements

kept_whole : (n : ℕ) (e : SymbolicElement) (rest : List SymbolicElement) → IsWhole e → AreWhole rest
    → AreWhole (elim rest as (λ _. List SymbolicElement) [ [] ↦ if nat_le e.strength n then e ∷ [] else [] | f ∷ fs ↦ e ∷ f ∷ fs ])
kept_whole n e [] w ws = either AreWhole (nat_le e.strength n) (e ∷ []) [] (λ _. (w, tt)) (λ _. tt)
kept_whole n e (f ∷ fs) w ws = (w, ws)

pub counting_whole : (n : ℕ) (es : List SymbolicElement) → AreWhole es → AreWhole (counting_at n es)
unfolding counting_at
counting_whole n [] ws = tt
counting_whole n (e ∷ es) (w, ws) = kept_whole n e (counting_at n es) w (counting_whole n es ws)

pub last_whole : (es : List SymbolicElement) → AreWhole es → IsWhole (last_element es)
last_whole [] ws = ignorable_is_whole
last_whole (e ∷ []) (w, ws) = w
last_whole (e ∷ f ∷ es) (w, ws) = last_whole (f ∷ es) ws

pub with_last_whole : (es : List SymbolicElement) (new : SymbolicElement) → AreWhole es → IsWhole new
    → AreWhole (with_last_element es new)
with_last_whole [] new ws w = (w, tt)
with_last_whole (e ∷ []) new ws w = (w, tt)
with_last_whole (e ∷ f ∷ es) new (v, vs) w = (v, with_last_whole (f ∷ es) new vs w)

-- ---- an element with a new weight

pub less_right : (k n s : ℕ) → k < min n s → k < s
less_right k n s h = let b = min-le_right n s in omega (arith, h, b)

not_left : (k n s : ℕ) → n ≤ k → k < min n s → ⊥
not_left k n s l h = let b = min-le_left n s in omega (arith, l, h, b)

pub new_whole : (n : ℕ) (e : SymbolicElement) (x : SymbolicWeight) → 1 ≤ n → n ≤ 4 → IsWhole e
    → IsWhole (element_with (above_level n e.weights ++ x ∷ []) (min n e.strength))
new_whole zero e x p q w = absurd (omega arith)
new_whole (suc zero) e x p q w = record {
  primary = x;
  secondary = common_below (x ∷ []);
  tertiary = common_below (x ∷ common_below (x ∷ []) ∷ []);
  quaternary = Rooted 0;
  weights = refl;
  no_primary = λ h. absurd (not_left 1 1 e.strength (omega arith) h);
  no_secondary = λ h. absurd (not_left 2 1 e.strength (omega arith) h);
  no_tertiary = λ h. absurd (not_left 3 1 e.strength (omega arith) h);
  no_quaternary = λ h. absurd (not_left 4 1 e.strength (omega arith) h);
}
new_whole (suc (suc zero)) e x p q w = record {
  primary = w.primary;
  secondary = x;
  tertiary = common_below (w.primary ∷ x ∷ []);
  quaternary = Rooted 0;
  weights = ap (λ ws. to_all_levels (above_level 2 ws ++ x ∷ [])) w.weights;
  no_primary = λ h. w.no_primary (less_right 1 2 e.strength h);
  no_secondary = λ h. absurd (not_left 2 2 e.strength (omega arith) h);
  no_tertiary = λ h. absurd (not_left 3 2 e.strength (omega arith) h);
  no_quaternary = λ h. absurd (not_left 4 2 e.strength (omega arith) h);
}
new_whole (suc (suc (suc zero))) e x p q w = record {
  primary = w.primary;
  secondary = w.secondary;
  tertiary = x;
  quaternary = Rooted 0;
  weights = ap (λ ws. to_all_levels (above_level 3 ws ++ x ∷ [])) w.weights;
  no_primary = λ h. w.no_primary (less_right 1 3 e.strength h);
  no_secondary = λ h. w.no_secondary (less_right 2 3 e.strength h);
  no_tertiary = λ h. absurd (not_left 3 3 e.strength (omega arith) h);
  no_quaternary = λ h. absurd (not_left 4 3 e.strength (omega arith) h);
}
new_whole (suc (suc (suc (suc zero)))) e x p q w = record {
  primary = w.primary;
  secondary = w.secondary;
  tertiary = w.tertiary;
  quaternary = x;
  weights = ap (λ ws. to_all_levels (above_level 4 ws ++ x ∷ [])) w.weights;
  no_primary = λ h. w.no_primary (less_right 1 4 e.strength h);
  no_secondary = λ h. w.no_secondary (less_right 2 4 e.strength h);
  no_tertiary = λ h. w.no_tertiary (less_right 3 4 e.strength h);
  no_quaternary = λ h. absurd (not_left 4 4 e.strength (omega arith) h);
}
new_whole (suc (suc (suc (suc (suc n))))) e x p q w = absurd (omega arith)

pub of_weights : (f g : List SymbolicWeight → ℕ) (ws vs : List SymbolicWeight) → ws ≡ vs → f vs ≡ g vs → f ws ≡ g ws
of_weights f g ws vs e same = ap f e ∙ same ∙ sym (ap g e)

-- the new element is the same on the levels before
pub same_before : (numbering : Numbering) (n level : ℕ) (e : SymbolicElement) (x : SymbolicWeight) (s : ℕ)
    → 1 ≤ level → level < n → n ≤ 4 → IsWhole e
    → numbering (take level (element_with (above_level n e.weights ++ x ∷ []) s).weights) ≡ numbering (take level e.weights)
same_before numbering zero level e x s p q r w = absurd (omega arith)
same_before numbering (suc zero) level e x s p q r w = absurd (omega arith)
same_before numbering (suc (suc zero)) zero e x s p q r w = absurd (omega arith)
same_before numbering (suc (suc zero)) (suc zero) e x s p q r w = of_weights (λ ws. numbering (take 1 (to_all_levels (above_level 2 ws ++ x ∷ [])))) (λ ws. numbering (take 1 ws)) e.weights _ w.weights refl
same_before numbering (suc (suc zero)) (suc (suc level)) e x s p q r w = absurd (omega arith)
same_before numbering (suc (suc (suc zero))) zero e x s p q r w = absurd (omega arith)
same_before numbering (suc (suc (suc zero))) (suc zero) e x s p q r w = of_weights (λ ws. numbering (take 1 (to_all_levels (above_level 3 ws ++ x ∷ [])))) (λ ws. numbering (take 1 ws)) e.weights _ w.weights refl
same_before numbering (suc (suc (suc zero))) (suc (suc zero)) e x s p q r w = of_weights (λ ws. numbering (take 2 (to_all_levels (above_level 3 ws ++ x ∷ [])))) (λ ws. numbering (take 2 ws)) e.weights _ w.weights refl
same_before numbering (suc (suc (suc zero))) (suc (suc (suc level))) e x s p q r w = absurd (omega arith)
same_before numbering (suc (suc (suc (suc zero)))) zero e x s p q r w = absurd (omega arith)
same_before numbering (suc (suc (suc (suc zero)))) (suc zero) e x s p q r w = of_weights (λ ws. numbering (take 1 (to_all_levels (above_level 4 ws ++ x ∷ [])))) (λ ws. numbering (take 1 ws)) e.weights _ w.weights refl
same_before numbering (suc (suc (suc (suc zero)))) (suc (suc zero)) e x s p q r w = of_weights (λ ws. numbering (take 2 (to_all_levels (above_level 4 ws ++ x ∷ [])))) (λ ws. numbering (take 2 ws)) e.weights _ w.weights refl
same_before numbering (suc (suc (suc (suc zero)))) (suc (suc (suc zero))) e x s p q r w = of_weights (λ ws. numbering (take 3 (to_all_levels (above_level 4 ws ++ x ∷ [])))) (λ ws. numbering (take 3 ws)) e.weights _ w.weights refl
same_before numbering (suc (suc (suc (suc zero)))) (suc (suc (suc (suc level)))) e x s p q r w = absurd (omega arith)
same_before numbering (suc (suc (suc (suc (suc n))))) level e x s p q r w = absurd (omega arith)

-- at its level it has the new weight below the same ones, and the element before it has its own
pub new_number : (numbering : Numbering) (n : ℕ) (e : SymbolicElement) (x : SymbolicWeight) (s : ℕ)
    → 1 ≤ n → n ≤ 4 → IsWhole e
    → numbering (take n (element_with (above_level n e.weights ++ x ∷ []) s).weights)
    ≡ numbering (above_level n e.weights ++ x ∷ [])
new_number numbering zero e x s p q w = absurd (omega arith)
new_number numbering (suc zero) e x s p q w = refl
new_number numbering (suc (suc zero)) e x s p q w = of_weights (λ ws. numbering (take 2 (to_all_levels (above_level 2 ws ++ x ∷ [])))) (λ ws. numbering (above_level 2 ws ++ x ∷ [])) e.weights _ w.weights refl
new_number numbering (suc (suc (suc zero))) e x s p q w = of_weights (λ ws. numbering (take 3 (to_all_levels (above_level 3 ws ++ x ∷ [])))) (λ ws. numbering (above_level 3 ws ++ x ∷ [])) e.weights _ w.weights refl
new_number numbering (suc (suc (suc (suc zero)))) e x s p q w = of_weights (λ ws. numbering (take 4 (to_all_levels (above_level 4 ws ++ x ∷ [])))) (λ ws. numbering (above_level 4 ws ++ x ∷ [])) e.weights _ w.weights refl
new_number numbering (suc (suc (suc (suc (suc n))))) e x s p q w = absurd (omega arith)

pub own_number : (numbering : Numbering) (n : ℕ) (e : SymbolicElement) → 1 ≤ n → n ≤ 4 → IsWhole e
    → numbering (take n e.weights) ≡ numbering (above_level n e.weights ++ weight_at_level n e.weights ∷ [])
own_number numbering zero e p q w = absurd (omega arith)
own_number numbering (suc zero) e p q w = of_weights (λ ws. numbering (take 1 ws)) (λ ws. numbering (above_level 1 ws ++ weight_at_level 1 ws ∷ [])) e.weights _ w.weights refl
own_number numbering (suc (suc zero)) e p q w = of_weights (λ ws. numbering (take 2 ws)) (λ ws. numbering (above_level 2 ws ++ weight_at_level 2 ws ∷ [])) e.weights _ w.weights refl
own_number numbering (suc (suc (suc zero))) e p q w = of_weights (λ ws. numbering (take 3 ws)) (λ ws. numbering (above_level 3 ws ++ weight_at_level 3 ws ∷ [])) e.weights _ w.weights refl
own_number numbering (suc (suc (suc (suc zero)))) e p q w = of_weights (λ ws. numbering (take 4 ws)) (λ ws. numbering (above_level 4 ws ++ weight_at_level 4 ws ∷ [])) e.weights _ w.weights refl
own_number numbering (suc (suc (suc (suc (suc n))))) e p q w = absurd (omega arith)

-- before the level at which it counts first, its number is 0
pub zero_before : (tree : WeightTree) (numbering : Numbering) → NumbersTree tree numbering → (level : ℕ) (e : SymbolicElement)
    → 1 ≤ level → level ≤ 4 → level < e.strength → IsWhole e → numbering (take level e.weights) ≡ 0
zero_before tree numbering n zero e p q h w = absurd (omega arith)
zero_before tree numbering n (suc zero) e p q h w =
    ap (λ ws. numbering (take 1 ws)) w.weights ∙ ap (λ x. numbering (x ∷ [])) (w.no_primary h) ∙ n.zero []
zero_before tree numbering n (suc (suc zero)) e p q h w =
    ap (λ ws. numbering (take 2 ws)) w.weights ∙ ap (λ x. numbering (w.primary ∷ x ∷ [])) (w.no_secondary h)
    ∙ n.zero (w.primary ∷ [])
zero_before tree numbering n (suc (suc (suc zero))) e p q h w =
    ap (λ ws. numbering (take 3 ws)) w.weights ∙ ap (λ x. numbering (w.primary ∷ w.secondary ∷ x ∷ [])) (w.no_tertiary h)
    ∙ n.zero (w.primary ∷ w.secondary ∷ [])
zero_before tree numbering n (suc (suc (suc (suc zero)))) e p q h w =
    ap (λ ws. numbering (take 4 ws)) w.weights
    ∙ ap (λ x. numbering (w.primary ∷ w.secondary ∷ w.tertiary ∷ x ∷ [])) (w.no_quaternary h)
    ∙ n.zero (w.primary ∷ w.secondary ∷ w.tertiary ∷ [])
zero_before tree numbering n (suc (suc (suc (suc (suc level))))) e p q h w = absurd (omega arith)
