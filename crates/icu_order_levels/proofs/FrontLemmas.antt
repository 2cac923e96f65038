-- A common beginning doesn't count: texts that have one are in the order of what follows it.
use Rattle.std.proofs.Common.{◌≡◌, ℕ, Bool, true, false, List, ◌++◌, map, Option, Some, None, refl, ap, ◌∙◌}
use Rattle.std.proofs.lemmas.List.{map-append}
use Rattle.std.specs.Ordering.{ordering_then}
use Rattle.std.specs.declared.cmp.Ordering.{Ordering}
use Rattle.icu_order_levels.specs.ListOrder.{list_order}
use Rattle.icu_order_levels.specs.Primaries.{Compression}
use Rattle.icu_order_levels.specs.Identical.{identical_rank}
use Rattle.icu_order_levels.specs.Keys.{LevelLists, secondaries_order, cases_order, tertiaries_order, quaternaries_order, characters_order, levels_order}
use Rattle.icu_order_levels.specs.CommonBeginnings.{HasFront, ReadsForward}
use Rattle.icu_order_levels.specs.declared.forms.CaseForm.{CaseForm}
use Rattle.icu_order_levels.specs.declared.forms.KeyForm.{KeyForm}
use Rattle.icu_order_levels.specs.declared.forms.QuaternaryForm.{QuaternaryForm}
use Rattle.icu_order_levels.specs.declared.forms.SecondaryForm.{SecondaryForm}
use Rattle.icu_order_levels.specs.declared.forms.SecondaryForm.TheVariants.{Forward, Backward}
use Rattle.icu_order_levels.specs.declared.forms.TertiaryForm.{TertiaryForm}
use Rattle.icu_order_levels.proofs.Order.{same_front}

-- two lists with a common front
fronted : (front xs ys whole_xs whole_ys : List ℕ) → whole_xs ≡ front ++ xs → whole_ys ≡ front ++ ys → list_order whole_xs whole_ys ≡ list_order xs ys
fronted front xs ys whole_xs whole_ys e f = ap (λ l. list_order l whole_ys) e ∙ ap (λ l. list_order (front ++ xs) l) f ∙ same_front front xs ys

-- and two whose members are changed alike
mapped : (f : ℕ → ℕ) (front xs ys whole_xs whole_ys : List ℕ) → whole_xs ≡ front ++ xs → whole_ys ≡ front ++ ys
    → list_order (map f whole_xs) (map f whole_ys) ≡ list_order (map f xs) (map f ys)
mapped f front xs ys whole_xs whole_ys e g =
    fronted (map f front) _ _ _ _ (ap (map f) e ∙ map-append f front xs) (ap (map f) g ∙ map-append f front ys)

ap_then : {o p q r : Ordering} → o ≡ p → q ≡ r → ordering_then o q ≡ ordering_then p r
ap_then {o} {p} {q} {r} e f = ap (λ x. ordering_then x q) e ∙ ap (ordering_then p) f

module _ (front t u whole_t whole_u : LevelLists) (h : HasFront front whole_t t) (k : HasFront front whole_u u) where
  same_secondaries : (form : Option SecondaryForm) → ReadsForward form → secondaries_order form whole_t whole_u ≡ secondaries_order form t u
  same_secondaries None forward = refl
  same_secondaries (Some Forward) forward = fronted front.secondaries _ _ _ _ h.secondaries k.secondaries
  same_secondaries (Some Backward) forward = absurd forward

  same_cases : (form : Option CaseForm) → cases_order form whole_t whole_u ≡ cases_order form t u
  same_cases None = refl
  same_cases (Some form) = fronted front.cases _ _ _ _ h.cases k.cases

  same_tertiaries : (form : Option TertiaryForm) → tertiaries_order form whole_t whole_u ≡ tertiaries_order form t u
  same_tertiaries None = refl
  same_tertiaries (Some form) = fronted front.tertiaries _ _ _ _ h.tertiaries k.tertiaries

  same_quaternaries : (form : Option QuaternaryForm) → quaternaries_order form whole_t whole_u ≡ quaternaries_order form t u
  same_quaternaries None = refl
  same_quaternaries (Some form) = fronted front.quaternaries _ _ _ _ h.quaternaries k.quaternaries

  same_characters : (identical : Bool) → characters_order identical whole_t whole_u ≡ characters_order identical t u
  same_characters false = refl
  same_characters true = mapped identical_rank front.characters _ _ _ _ h.characters k.characters

  pub front_does_not_count : (c : Compression) (f : KeyForm) → ReadsForward f.secondary → levels_order c f whole_t whole_u ≡ levels_order c f t u
  front_does_not_count c f forward =
      ap_then (mapped c.reorder front.primaries _ _ _ _ h.primaries k.primaries)
      (ap_then (same_secondaries f.secondary forward)
      (ap_then (same_cases f.cases)
      (ap_then (same_tertiaries f.tertiary)
      (ap_then (same_quaternaries f.quaternary)
      (ap_then (same_characters f.identical) refl)))))
