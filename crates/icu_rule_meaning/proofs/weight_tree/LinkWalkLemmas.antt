-- Walks along links.
use Rattle.std.proofs.Common.{◌≡◌, ℕ, zero, suc, ◌-◌, ◌<◌, ◌≤◌, true, false, List, [], ◌∷◌, ◌++◌, Option, Some, None, refl, ap, sym, ◌∙◌, arith, append_assoc}
use Rattle.std.proofs.lemmas.List.{append-nil}
use Rattle.icu_rule_meaning.proofs.weight_tree.CountingLemmas.{sub_one}
use Rattle.icu_rule_meaning.specs.declared.symbolic.SymbolicWeight.{SymbolicWeight}
use Rattle.icu_rule_meaning.specs.declared.symbolic.SymbolicWeight.TheVariants as weights
use Rattle.icu_rule_meaning.specs.SymbolicElements.{has_tailored_weight, is_same_weight}
use Rattle.icu_rule_meaning.specs.declared.weight_tree.stop.Stop.{Stop}
use Rattle.icu_rule_meaning.specs.declared.weight_tree.stop.Stop.TheVariants.{End, Rooted, Tailored}
use Rattle.icu_rule_meaning.specs.weight_tree.inner.LinkStops.{stop_weight}
use Rattle.icu_rule_meaning.specs.weight_tree.inner.LinkedOrders.{walk}
use Rattle.icu_rule_meaning.specs.weight_tree.inner.TailoredSiblings.{first_of_tailored}
use Rattle.icu_rule_meaning.proofs.weight_tree.PositionLemmas.{first_passed, first_met, common_met}

value_or : SymbolicWeight → Option SymbolicWeight → SymbolicWeight
value_or d None = d
value_or d (Some v) = v

inside : {v w : SymbolicWeight} → Some v ≡ Some w → v ≡ w
unfolding value_or
inside {v} {w} e = ap (value_or v) e

walk_on : (n : ℕ) (next : Stop → Stop) (s : Stop) (w : SymbolicWeight) → 0 < n → stop_weight s ≡ Some w
    → walk n next s ≡ w ∷ walk (n - 1) next (next s)
walk_on zero next s w some e = absurd (omega arith)
walk_on (suc n) next End w some e = cc
walk_on (suc n) next (Rooted v) w some e = step e
  where
    step : Some (weights.Rooted v) ≡ Some w → weights.Rooted v ∷ walk n next (next (Rooted v)) ≡ w ∷ walk (suc n - 1) next (next (Rooted v))
    step f = ap (λ m. weights.Rooted v ∷ walk m next (next (Rooted v))) (sym (sub_one n)) ∙ ap (λ u. u ∷ walk (suc n - 1) next (next (Rooted v))) (inside f)
walk_on (suc n) next (Tailored k) w some e = step e
  where
    step : Some (weights.Tailored k) ≡ Some w → weights.Tailored k ∷ walk n next (next (Tailored k)) ≡ w ∷ walk (suc n - 1) next (next (Tailored k))
    step f = ap (λ m. weights.Tailored k ∷ walk m next (next (Tailored k))) (sym (sub_one n)) ∙ ap (λ u. u ∷ walk (suc n - 1) next (next (Tailored k))) (inside f)

walk_ended : (n : ℕ) (next : Stop → Stop) (s : Stop) → stop_weight s ≡ None → walk n next s ≡ []
walk_ended zero next s e = refl
walk_ended (suc n) next End e = refl
walk_ended (suc n) next (Rooted v) e = cc
walk_ended (suc n) next (Tailored k) e = cc

-- ---- the list of a walk

pub list_on : (n : ℕ) (next : Stop → Stop) (s : Stop) (w : SymbolicWeight) (done order : List SymbolicWeight) → 0 < n
    → stop_weight s ≡ Some w → done ++ walk n next s ≡ order → (done ++ w ∷ []) ++ walk (n - 1) next (next s) ≡ order
list_on n next s w done order some e is =
    append_assoc done (w ∷ []) (walk (n - 1) next (next s)) ∙ (ap (λ ys. done ++ ys) (sym (walk_on n next s w some e)) ∙ is)

pub list_ended : (n : ℕ) (next : Stop → Stop) (s : Stop) (done order : List SymbolicWeight)
    → stop_weight s ≡ None → done ++ walk n next s ≡ order → done ≡ order
list_ended n next s done order e is = sym (append-nil done) ∙ (ap (λ ys. done ++ ys) (sym (walk_ended n next s e)) ∙ is)

pub list_done : (n : ℕ) (next : Stop → Stop) (s : Stop) (done order : List SymbolicWeight)
    → n ≤ 0 → done ++ walk n next s ≡ order → done ≡ order
list_done zero next s done order e is = sym (append-nil done) ∙ is
list_done (suc n) next s done order e is = absurd (omega arith)

-- ---- the first tailored weight of a walk

pub tailored_on : (n : ℕ) (next : Stop → Stop) (s : Stop) (w common found : SymbolicWeight) → 0 < n → stop_weight s ≡ Some w
    → has_tailored_weight w ≡ false → is_same_weight w common ≡ false → first_of_tailored common (walk n next s) ≡ found
    → first_of_tailored common (walk (n - 1) next (next s)) ≡ found
tailored_on n next s w common found some e rooted other is =
    first_passed common w (walk (n - 1) next (next s)) rooted other
    ∙ (ap (first_of_tailored common) (sym (walk_on n next s w some e)) ∙ is)

pub tailored_met : (n : ℕ) (next : Stop → Stop) (s : Stop) (w common found : SymbolicWeight) → 0 < n → stop_weight s ≡ Some w
    → has_tailored_weight w ≡ true → first_of_tailored common (walk n next s) ≡ found → w ≡ found
tailored_met n next s w common found some e tailored is =
    first_met common w (walk (n - 1) next (next s)) tailored ∙ (ap (first_of_tailored common) (sym (walk_on n next s w some e)) ∙ is)

pub tailored_common : (n : ℕ) (next : Stop → Stop) (s : Stop) (w common found : SymbolicWeight) → 0 < n → stop_weight s ≡ Some w
    → is_same_weight w common ≡ true → first_of_tailored common (walk n next s) ≡ found → w ≡ found
tailored_common n next s w common found some e same is =
    common_met common w (walk (n - 1) next (next s)) same ∙ (ap (first_of_tailored common) (sym (walk_on n next s w some e)) ∙ is)

pub tailored_ended : (n : ℕ) (next : Stop → Stop) (s : Stop) (common found : SymbolicWeight)
    → stop_weight s ≡ None → first_of_tailored common (walk n next s) ≡ found → common ≡ found
tailored_ended n next s common found e is = ap (first_of_tailored common) (sym (walk_ended n next s e)) ∙ is

pub tailored_done : (n : ℕ) (next : Stop → Stop) (s : Stop) (common found : SymbolicWeight)
    → n ≤ 0 → first_of_tailored common (walk n next s) ≡ found → common ≡ found
tailored_done zero next s common found e is = is
tailored_done (suc n) next s common found e is = absurd (omega arith)
