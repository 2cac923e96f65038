-- Primary weights that need not be compared one with another: those with the lead byte of implicit weights.
use Rattle.std.proofs.Common.{◌≡◌, ◌≢◌, ℕ, ◌/◌, ◌%◌, ◌^◌, ◌<◌, ◌≤◌, Bool, sym, ap, ◌∙◌, arith, inl, inr, IsTrue}
use Rattle.std.proofs.lemmas.Bool.{cases_eq}
use Rattle.std.proofs.lemmas.Bool.Decides.{nat_tests}
use Rattle.icu_order_levels.specs.ListOrder.{IsBeginning}
use Rattle.icu_order_levels.specs.WeightBytes.{weight_bytes}
use Rattle.icu_table_provider.specs.Reorderings.{lead_byte}
use Rattle.icu_table_provider.specs.CollatorTables.{CollatorTables, reorder, new_lead}
use Rattle.icu_table_provider.specs.well_formed.ElementConditions.{implicit_lead, has_low_bytes}
use Rattle.icu_table_provider.specs.well_formed.LeadConditions.{TakesTogether}
use Rattle.icu_table_weights.proofs.WrittenWeightLemmas.{same_first, same_weight}

-- the first byte of a reordered weight
first_byte : (p b : ℕ) → lead_byte p ≡ b → p / 256 ^ 3 ≡ b
first_byte p b h = h

module _ (all : CollatorTables) (IsReachable : ℕ → Type 0) where
  -- what is known of reachable primary weights beside that those without this lead byte are prefix free
  pub record AreApart : Type 0 where
    pub together : TakesTogether all implicit_lead
    pub fits : (p : ℕ) → IsReachable p → p < 2 ^ 32
    pub leads : (p : ℕ) → IsReachable p → 1 ≤ lead_byte (reorder all p)
    pub lengths : (p : ℕ) → IsReachable p → lead_byte p ≡ implicit_lead → IsTrue (has_low_bytes p)
    pub apart : (p : ℕ) → IsReachable p → lead_byte p ≢ implicit_lead → lead_byte (reorder all p) ≢ new_lead all implicit_lead
    pub lead_alone : (p : ℕ) → IsReachable p → reorder all p % 0x1000000 ≡ p % 0x1000000

  abbrev Begins : ℕ → ℕ → Type 0
  Begins v w = IsBeginning (weight_bytes 4 (reorder all v)) (weight_bytes 4 (reorder all w))

  new_first : AreApart → (v w : ℕ) → IsReachable v → Begins v w → lead_byte (reorder all v) ≡ lead_byte (reorder all w)
  new_first known v w reachable begins = same_first 3 (reorder all v) (reorder all w) (known.leads v reachable) begins

  takes : AreApart → (p : ℕ) → IsReachable p → lead_byte p ≡ implicit_lead → lead_byte (reorder all p) ≡ new_lead all implicit_lead
  takes known p reachable is = known.together.together p (known.fits p reachable) is

  low_bytes : (p q : ℕ) → q % 16777216 ≡ p % 16777216 → IsTrue (has_low_bytes p)
      → (1 ≤ q % 16777216 / 65536) × (1 ≤ q % 16777216 % 65536 / 256) × (1 ≤ q % 16777216 % 65536 % 256 / 1)
  low_bytes p q same h = (grind (arith, nat_tests), grind (arith, nat_tests), grind (arith, nat_tests))

  same_implicit : (v w : ℕ) → v / 16777216 ≡ 254 → w / 16777216 ≡ 254 → v % 16777216 ≡ w % 16777216 → v ≡ w
  same_implicit v w a b c = omega (arith, a, b, c)

  both_implicit : AreApart → (v w : ℕ) → IsReachable v → IsReachable w → lead_byte v ≡ implicit_lead → lead_byte w ≡ implicit_lead → Begins v w → v ≡ w
  both_implicit known v w reachable_v reachable_w is_v is_w begins =
      let low = low_bytes v (reorder all v) (known.lead_alone v reachable_v) (known.lengths v reachable_v is_v) in
      let tail = same_weight (reorder all v) (reorder all w) (known.leads v reachable_v) low.0 low.1 low.2 begins in
      same_implicit v w is_v is_w (sym (known.lead_alone v reachable_v) ∙ tail ∙ known.lead_alone w reachable_w)

  -- where weights with other lead bytes begin no other such weight, none begins another
  pub none_begins : AreApart
      → ((v w : ℕ) → IsReachable v → IsReachable w → lead_byte v ≢ implicit_lead → lead_byte w ≢ implicit_lead → v ≢ w → Begins v w → ⊥)
      → (v w : ℕ) → IsReachable v → IsReachable w → v ≢ w → Begins v w → ⊥
  none_begins known free v w reachable_v reachable_w differ begins =
      elim (cases_eq (lead_byte v) implicit_lead) [
        | inl is_v ↦ elim (cases_eq (lead_byte w) implicit_lead) [
          | inl is_w ↦ differ (both_implicit known v w reachable_v reachable_w is_v is_w begins)
          | inr other ↦ known.apart w reachable_w other (sym (new_first known v w reachable_v begins) ∙ takes known v reachable_v is_v)
        ]
        | inr other_v ↦ elim (cases_eq (lead_byte w) implicit_lead) [
          | inl is_w ↦ known.apart v reachable_v other_v (new_first known v w reachable_v begins ∙ takes known w reachable_w is_w)
          | inr other_w ↦ free v w reachable_v reachable_w other_v other_w differ begins
        ]
      ]

  -- where weights with other lead bytes compress alike, all do
  pub compress_alike : AreApart → (compresses : ℕ → Bool)
      → ((v w : ℕ) → IsReachable v → IsReachable w → lead_byte v ≢ implicit_lead → lead_byte w ≢ implicit_lead → lead_byte (reorder all v) ≡ lead_byte (reorder all w) → compresses (lead_byte v) ≡ compresses (lead_byte w))
      → (v w : ℕ) → IsReachable v → IsReachable w → lead_byte (reorder all v) ≡ lead_byte (reorder all w) → compresses (lead_byte v) ≡ compresses (lead_byte w)
  compress_alike known compresses alike v w reachable_v reachable_w same =
      elim (cases_eq (lead_byte v) implicit_lead) [
        | inl is_v ↦ elim (cases_eq (lead_byte w) implicit_lead) [
          | inl is_w ↦ ap compresses (is_v ∙ sym is_w)
          | inr other ↦ absurd (known.apart w reachable_w other (sym same ∙ takes known v reachable_v is_v))
        ]
        | inr other_v ↦ elim (cases_eq (lead_byte w) implicit_lead) [
          | inl is_w ↦ absurd (known.apart v reachable_v other_v (same ∙ takes known w reachable_w is_w))
          | inr other_w ↦ alike v w reachable_v reachable_w other_v other_w same
        ]
      ]
