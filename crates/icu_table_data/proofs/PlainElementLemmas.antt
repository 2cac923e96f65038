-- An element with common weights below a primary weight of at least three bytes fails no condition.
use Rattle.std.proofs.Common.{◌≡◌, ℕ, ◌/◌, ◌%◌, ◌^◌, ◌<◌, ◌≤◌, true, None, refl, sym, subst, arith}
use Rattle.icu_table_entries.specs.Elements.{common, of_primary}
use Rattle.icu_table_entries.specs.Weights.{weight}
use Rattle.icu_table_entries.specs.declared.element_conditions.ElementCondition.{ElementCondition}
use Rattle.icu_table_entries.specs.declared.element_conditions.ElementCondition.TheVariants.{Shape, Leads, Primary}
use Rattle.icu_table_entries.specs.ElementConditions.{element_meets, has_shape, has_primary_lead, has_secondary_lead, has_tertiary_lead}
use Rattle.icu_table_data.specs.inner.Visitors.{first_failing_element}
use Rattle.icu_table_data.proofs.ImplicitLemmas.{shape, lead}

module _ (p : ℕ) (fits : p < 2 ^ 32) (high : 0x03000000 ≤ p) (second : 1 ≤ p / 0x10000 % 256) (third : 1 ≤ p / 256 % 256) where
  spelled : p ≡ weight (p / 0x1000000) (p / 0x10000 % 256) (p / 256 % 256) (p % 256)
  spelled = omega arith

  plain_shape : has_shape (of_primary p) ≡ true
  plain_shape =
      subst (λ p. has_shape (of_primary p) ≡ true) (sym spelled)
      (shape _ _ _ _ (omega arith) (omega arith) second (omega arith) third (omega arith) (omega arith))

  plain_lead : has_primary_lead (of_primary p) ≡ true
  plain_lead =
      subst (λ p. has_primary_lead (of_primary p) ≡ true) (sym spelled)
      (lead _ _ _ _ (omega arith) (omega arith) second (omega arith) third (omega arith) (omega arith))

  primary_passes : first_failing_element (of_primary p) ≡ None
  unfolding has_secondary_lead has_tertiary_lead
  primary_passes = rw (plain_shape, plain_lead) refl

  pub plain_passes : (secondary lower : ℕ) → secondary ≡ common → lower ≡ common → first_failing_element (record { primary = p; secondary = secondary; lower = lower }) ≡ None
  plain_passes secondary lower second_is lower_is = rw (second_is, lower_is) primary_passes

  primary_meets : (condition : ElementCondition) → element_meets condition (of_primary p) ≡ true
  unfolding has_secondary_lead has_tertiary_lead
  primary_meets Shape = plain_shape
  primary_meets Leads = refl
  primary_meets Primary = plain_lead

  pub plain_meets : (secondary lower : ℕ) → secondary ≡ common → lower ≡ common → (condition : ElementCondition) → element_meets condition (record { primary = p; secondary = secondary; lower = lower }) ≡ true
  plain_meets secondary lower second_is lower_is condition = rw (second_is, lower_is) (primary_meets condition)
