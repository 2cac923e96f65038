-- The bytes of one primary.
use Rattle.std.proofs.Common.{◌≡◌, ◌≢◌, ℕ, List, [], ◌++◌, refl, sym, ap, ◌∙◌}
use Rattle.std.proofs.lemmas.List.{append-nil}
use Rattle.icu_order_levels.proofs.CompressionOrder.{other_lead}
use Rattle.icu_order_levels.specs.WeightBytes.{weight_bytes}
use Rattle.icu_order_levels.specs.Primaries.{lead, lead_change, primary_bytes}

-- a primary with another lead than the dropped one
pub other_lead_written : (d w n : ℕ) (change : List ℕ) → n ≡ lead w → lead w ≢ d → change ≡ lead_change d n
    → primary_bytes d w ≡ (change ++ []) ++ weight_bytes 4 w
other_lead_written d w n change e other p =
    other_lead d w other
    ∙ ap (λ l. l ++ weight_bytes 4 w) (ap (lead_change d) (sym e) ∙ (sym p ∙ sym (append-nil change)))

-- a primary where no lead is dropped
pub first_lead_written : (d w : ℕ) → d ≡ 0 → lead w ≢ d → primary_bytes d w ≡ weight_bytes 4 w
first_lead_written d w z other = other_lead d w other ∙ (rw z refl)
