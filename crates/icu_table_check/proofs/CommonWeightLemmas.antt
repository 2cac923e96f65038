-- Secondary and tertiary weights that need not be compared with others: the common one, whose lead byte no other has.
use Rattle.std.proofs.Common.{◌≡◌, ◌≢◌, ℕ, ◌/◌, ◌≤◌, sym, ap, ◌∙◌, inl, inr}
use Rattle.std.proofs.lemmas.Bool.{cases_eq}
use Rattle.icu_order_levels.specs.ListOrder.{IsBeginning}
use Rattle.icu_order_levels.specs.WeightBytes.{weight_bytes}
use Rattle.icu_table_entries.specs.Elements.{common}
use Rattle.icu_table_weights.proofs.WrittenWeightLemmas.{same_first}

module _ (IsReachable : ℕ → Type 0) where
  -- reachable weights lead with no zero byte, and with 05 in the common one alone
  pub record HaveLeads : Type 0 where
    pub some : (w : ℕ) → IsReachable w → 1 ≤ w / 256
    pub common_alone : (w : ℕ) → IsReachable w → w / 256 ≡ 5 → w ≡ common

  abbrev Begins : ℕ → ℕ → Type 0
  Begins v w = IsBeginning (weight_bytes 2 v) (weight_bytes 2 w)

  common_lead : (w : ℕ) → w ≡ common → w / 256 ≡ 5
  common_lead w is = ap (λ n. n / 256) is

  first : HaveLeads → (v w : ℕ) → IsReachable v → Begins v w → v / 256 ≡ w / 256
  first known v w reachable begins = same_first 1 v w (known.some v reachable) begins

  pub none_begins : HaveLeads
      → ((v w : ℕ) → IsReachable v → IsReachable w → v ≢ common → w ≢ common → v ≢ w → Begins v w → ⊥)
      → (v w : ℕ) → IsReachable v → IsReachable w → v ≢ w → Begins v w → ⊥
  none_begins known free v w reachable_v reachable_w differ begins =
      elim (cases_eq v common) [
        | inl is_v ↦ differ (is_v ∙ sym (known.common_alone w reachable_w (sym (first known v w reachable_v begins) ∙ common_lead v is_v)))
        | inr other_v ↦ elim (cases_eq w common) [
          | inl is_w ↦ differ (known.common_alone v reachable_v (first known v w reachable_v begins ∙ common_lead w is_w) ∙ sym is_w)
          | inr other_w ↦ free v w reachable_v reachable_w other_v other_w differ begins
        ]
      ]
