-- Worked rows of the definitions on weights, computed.
use Rattle.std.proofs.Common.{◌≡◌, true, false, refl}
use Rattle.icu_table_entries.specs.Elements.{element_of}
use Rattle.icu_table_entries.specs.Weights.{ordinal_of, weight_at, offset_ordinal, offset_weight, implicit_weight}
use Rattle.icu_table_entries.specs.ElementConditions.{ends_at_zero, four_bytes, two_bytes}

-- ---- weights

carried : offset_weight (element_of 0x7010FE000003B184) 0x3B2 ≡ 0x70110400
unfolding offset_weight weight_at offset_ordinal ordinal_of
carried = refl

first_implicit : implicit_weight 0 ≡ 0xFE040210
unfolding implicit_weight
first_implicit = refl

gap : ends_at_zero (four_bytes 0x61001000) ≡ false
unfolding ends_at_zero
gap = refl

no_gap : ends_at_zero (two_bytes 0x4600) ≡ true
unfolding ends_at_zero
no_gap = refl
