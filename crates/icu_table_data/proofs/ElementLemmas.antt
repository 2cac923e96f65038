-- A walk over elements that asks of each whether it meets three conditions.
use Rattle.std.proofs.Common.{◌≡◌, Bool, true, false, ◌&&◌, List, [], ◌∷◌, fold, refl, sym, ap, ◌∙◌}
use Rattle.std.specs.List.{list_all}
use Rattle.icu_table_entries.specs.declared.element_conditions.ElementCondition.TheVariants.{Shape, Leads, Primary}
use Rattle.icu_table_entries.specs.Elements.{Element}
use Rattle.icu_table_entries.specs.ElementConditions.{element_meets}
use Rattle.icu_table_data.specs.inner.Visitors.{all_meet}

and_regrouped : (a b c : Bool) → ((a && b) && c) ≡ (a && (b && c))
and_regrouped true b c = refl
and_regrouped false b c = refl

and_true : (a : Bool) → (a && true) ≡ a
and_true true = refl
and_true false = refl

-- what each of the three comes to
shapes_from : (s : (Bool × Bool) × Bool) (xs : List Element) → (fold all_meet s xs).0.0 ≡ (s.0.0 && list_all (element_meets Shape) xs)
shapes_from s [] = sym (and_true s.0.0)
shapes_from s (x ∷ xs) = shapes_from (all_meet s x) xs ∙ and_regrouped s.0.0 (element_meets Shape x) (list_all (element_meets Shape) xs)

leads_from : (s : (Bool × Bool) × Bool) (xs : List Element) → (fold all_meet s xs).0.1 ≡ (s.0.1 && list_all (element_meets Leads) xs)
leads_from s [] = sym (and_true s.0.1)
leads_from s (x ∷ xs) = leads_from (all_meet s x) xs ∙ and_regrouped s.0.1 (element_meets Leads x) (list_all (element_meets Leads) xs)

primaries_from : (s : (Bool × Bool) × Bool) (xs : List Element) → (fold all_meet s xs).1 ≡ (s.1 && list_all (element_meets Primary) xs)
primaries_from s [] = sym (and_true s.1)
primaries_from s (x ∷ xs) = primaries_from (all_meet s x) xs ∙ and_regrouped s.1 (element_meets Primary x) (list_all (element_meets Primary) xs)

module _ (xs : List Element) (s : (Bool × Bool) × Bool) (is : s ≡ fold all_meet ((true, true), true) xs) where
  pub met_shapes : s.0.0 ≡ list_all (element_meets Shape) xs
  met_shapes = ap (λ (s : (Bool × Bool) × Bool). s.0.0) is ∙ shapes_from ((true, true), true) xs

  pub met_leads : s.0.1 ≡ list_all (element_meets Leads) xs
  met_leads = ap (λ (s : (Bool × Bool) × Bool). s.0.1) is ∙ leads_from ((true, true), true) xs

  pub met_primaries : s.1 ≡ list_all (element_meets Primary) xs
  met_primaries = ap (λ (s : (Bool × Bool) × Bool). s.1) is ∙ primaries_from ((true, true), true) xs
