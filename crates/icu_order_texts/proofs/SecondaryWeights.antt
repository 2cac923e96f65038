-- The secondaries that well-formed tables give are as their level asks.
use Rattle.std.proofs.Common.{◌≡◌, ◌≢◌, ◌⊎◌, ℕ, ◌/◌, ◌^◌, ◌<◌, ◌≤◌, Bool, true, false, not, ◌&&◌, ◌||◌, ◌==◌, if◌then◌else◌, nat_lt, sym, ◌∙◌, subst, arith, inl, inr, lit<}
use Rattle.std.proofs.lemmas.Bool.{cases_eq, cases_Bool, and_parts}
use Rattle.std.proofs.lemmas.Bool.Decides.{nat_tests}
use Rattle.icu_order_levels.specs.WeightBytes.{weight_bytes}
use Rattle.icu_order_levels.specs.Premises.{AreSecondaries, IsPrefixFree}
use Rattle.icu_order_levels.proofs.MovedWeights.{begins_lead}
use Rattle.icu_table_entries.specs.ElementConditions.{has_secondary_lead, has_tertiary_lead, tertiary_of}
use Rattle.icu_table_provider.specs.declared.well_formed.condition.Condition.TheVariants as conditions
use Rattle.icu_table_provider.specs.declared.well_formed.condition.ReachableElementCondition.TheVariants.{Width, BackwardLead}
use Rattle.icu_table_provider.specs.declared.well_formed.condition.PairCondition.TheVariants.{Secondaries}
use Rattle.icu_table_provider.specs.CollatorTables.{CollatorTables, is_forward}
use Rattle.icu_table_provider.specs.well_formed.WellFormedTables.{IsWellFormedTables}
use Rattle.icu_order_texts.specs.weighting.Levels.{secondary_of}
use Rattle.icu_order_texts.specs.ReachableWeights.{IsLevelWeight, IsReachableSecondary, least_secondary_lead}
use Rattle.icu_order_texts.proofs.ReachableElementLemmas.{reachable-leads}

-- the leads of secondaries, from the least one on
abbrev HasLead : ℕ → ℕ → Type 0
HasLead least s = (s ≡ 0x500) ⊎ (((least ≤ s / 256) × (s / 256 ≤ 4)) ⊎ (0x46 ≤ s / 256))

from_test : (s : ℕ) → has_secondary_lead true s ≡ true → s ≢ 0 → HasLead 2 s
unfolding has_secondary_lead
from_test s h some =
    elim (cases_eq s 0x500) [
      | inl is ↦ inl is
      | inr other ↦ elim (cases_Bool (nat_lt (s / 256) 0x46)) [
        | inl low ↦ inr (inl (grind (arith, nat_tests), grind (arith, nat_tests)))
        | inr high ↦ inr (inr (grind (arith, nat_tests)))
      ]
    ]

-- a level from the end has no lead 02
from_least : (forward : Bool) (s : ℕ) → (forward || not (s / 256 == 2)) ≡ true → HasLead 2 s → HasLead (if forward then 2 else 3) s
from_least true s h lead = lead
from_least false s h (inl is) = inl is
from_least false s h (inr (inl low)) = inr (inl (grind (arith, nat_tests), low.1))
from_least false s h (inr (inr high)) = inr (inr high)

module _ (all : CollatorTables) (well_formed : IsWellFormedTables all) where
  -- of reachable elements
  abbrev OfElement : ℕ → Type 0
  OfElement = IsLevelWeight secondary_of secondary_of all

  element_lead : (s : ℕ) → OfElement s → HasLead (least_secondary_lead all) s
  element_lead s w =
      let x = w.element in
      let leads = and_parts (has_secondary_lead true x.secondary) (has_tertiary_lead (tertiary_of x)) (reachable-leads all well_formed w.table x w.reachable) in
      subst (HasLead (least_secondary_lead all)) (sym w.is)
      (from_least (is_forward all) x.secondary (well_formed.each (conditions.Element BackwardLead) w.table x w.reachable)
      (from_test x.secondary leads.0 w.some))

  element_fits : (s : ℕ) → OfElement s → s < 2 ^ 16
  element_fits s w =
      let x = w.element in
      let widths = and_parts (nat_lt x.primary (2 ^ 32) && nat_lt x.secondary (2 ^ 16)) (nat_lt x.lower (2 ^ 16))
      (well_formed.each (conditions.Element Width) w.table x w.reachable) in
      let fits = and_parts (nat_lt x.primary (2 ^ 32)) (nat_lt x.secondary (2 ^ 16)) widths.0 in
      subst (λ s. s < 2 ^ 16) (sym w.is) (grind (arith, nat_tests))

  elements_free : IsPrefixFree (weight_bytes 2) OfElement
  elements_free v w p q n b =
      well_formed.each (conditions.Pair Secondaries) p.table q.table p.element p.reachable q.element q.reachable p.some q.some
      (λ e. n (p.is ∙ e ∙ sym q.is)) (rw (p.is, q.is) at b)

  -- and with the common one
  lead : (s : ℕ) → IsReachableSecondary all s → HasLead (least_secondary_lead all) s
  lead s (inl is) = inl is
  lead s (inr w) = element_lead s w

  fits : (s : ℕ) → IsReachableSecondary all s → s < 2 ^ 16
  fits s (inl is) = omega arith
  fits s (inr w) = element_fits s w

  some_lead : (least s : ℕ) → 0 < least → HasLead least s → 0 < s / 256
  some_lead least s some (inl is) = omega arith
  some_lead least s some (inr (inl low)) = omega (arith, low.0)
  some_lead least s some (inr (inr high)) = omega (arith, high)

  -- one lead with the common weight is its own
  common_alone : (least v w : ℕ) → v ≡ 0x500 → HasLead least w → v / 256 ≡ w / 256 → v ≡ w
  common_alone least v w is (inl same) e = is ∙ sym same
  common_alone least v w is (inr (inl low)) e = absurd (omega (arith, low.1))
  common_alone least v w is (inr (inr high)) e = absurd (omega (arith, high))

  least_some : (forward : Bool) → 0 < (if forward then 2 else 3)
  least_some true = lit< tt
  least_some false = lit< tt

  free : IsPrefixFree (weight_bytes 2) (IsReachableSecondary all)
  free v w p q n b = by p q
    where
      one_lead : v / 256 ≡ w / 256
      one_lead =
          begins_lead v w (some_lead (least_secondary_lead all) v (least_some (is_forward all)) (lead v p))
          (some_lead (least_secondary_lead all) w (least_some (is_forward all)) (lead w q)) b

      by : IsReachableSecondary all v → IsReachableSecondary all w → ⊥
      by (inl is) k = n (common_alone (least_secondary_lead all) v w is (lead w q) one_lead)
      by (inr h) (inl is) = n (sym (common_alone (least_secondary_lead all) w v is (lead v p) (sym one_lead)))
      by (inr h) (inr k) = elements_free v w h k n b

  pub reachable_secondaries : AreSecondaries (least_secondary_lead all) (IsReachableSecondary all)
  reachable_secondaries = record { fits = fits; leads = lead; prefix_free = free }
