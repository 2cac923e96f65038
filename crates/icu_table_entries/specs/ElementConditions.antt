-- The conditions on one collation element: that its weights are well formed (UTS #10, "Well-Formedness of Collation
-- Element Tables"), and which lead bytes they may have, so that they stand between the bytes that sort keys keep for
-- themselves.
use Rattle.std.specs.Prelude.{ℕ, ◌/◌, Bool, true, not, ◌&&◌, ◌||◌, ◌==◌, nat_le, List, [], ◌∷◌, bit_and}
use Rattle.std.specs.Int.{w32, w16, to_be_bytes}
use Rattle.icu_table_entries.specs.declared.element_conditions.ElementCondition.{ElementCondition}
use Rattle.icu_table_entries.specs.declared.element_conditions.ElementCondition.TheVariants.{Shape, Leads, Primary}
use Rattle.icu_table_entries.specs.Elements.{Element, common, case_mask, tertiary_mask}

-- the bytes of a weight of 32 bits, the highest first
abbrev pub four_bytes : ℕ → List ℕ
four_bytes = to_be_bytes w32

-- the bytes of a weight of 16 bits, the highest first
abbrev pub two_bytes : ℕ → List ℕ
two_bytes = to_be_bytes w16

-- a byte may stand before these: nothing but a zero byte comes after a zero byte
abbrev pub may_precede : ℕ → List ℕ → Bool
may_precede b [] = true
may_precede b (next ∷ _) = not (b == 0) || next == 0

-- no nonzero byte stands after a zero byte
unfoldable pub ends_at_zero : List ℕ → Bool
ends_at_zero [] = true
ends_at_zero (b ∷ bytes) = may_precede b bytes && ends_at_zero bytes

-- the tertiary weight: the lower half without case and quaternary bits
abbrev pub tertiary_of : Element → ℕ
tertiary_of e = bit_and e.lower tertiary_mask

-- none of the three weights has a gap
abbrev pub has_whole_weights : Element → Bool
has_whole_weights e = ends_at_zero (four_bytes e.primary) && ends_at_zero (two_bytes e.secondary) && ends_at_zero (two_bytes (tertiary_of e))

-- a weight has one on the level below
abbrev pub has_weights_below : Element → Bool
has_weights_below e = (e.primary == 0 || not (e.secondary == 0)) && (e.secondary == 0 || not (tertiary_of e == 0))

-- without a tertiary weight there is neither case nor quaternary, and the case bits 11 mean nothing
abbrev pub has_lower_half : Element → Bool
has_lower_half e = (not (tertiary_of e == 0) || e.lower == 0) && not (bit_and e.lower case_mask == case_mask)

-- the weights are whole and go together (UTS #10, "Well-Formedness of Collation Element Tables")
unfoldable pub has_shape : Element → Bool
has_shape e = has_whole_weights e && has_weights_below e && has_lower_half e

-- The common weight 05 stands between the lead bytes below and above it, which sort keys keep apart for runs of it.
-- Lead byte 02 of a secondary weight serves where the secondary level is compared forward.
unfoldable pub has_secondary_lead : Bool → ℕ → Bool
has_secondary_lead forward s =
    s == 0 || s == common || (forward && s / 256 == 2) || s / 256 == 3 || s / 256 == 4 || nat_le 0x46 (s / 256)

-- a tertiary weight is none, the common one, or has a lead byte beside the common one's
unfoldable pub has_tertiary_lead : ℕ → Bool
has_tertiary_lead t =
    t == 0 || t == common || (nat_le 2 (t / 256) && nat_le (t / 256) 4) || (nat_le 6 (t / 256) && nat_le (t / 256) 0x3F)

-- secondary and tertiary weight have lead bytes that sort keys leave them
abbrev pub has_leads : Bool → Element → Bool
has_leads forward e = has_secondary_lead forward e.secondary && has_tertiary_lead (tertiary_of e)

-- The primary weight that parts fields from one another: U+FFFE's, lower than any other (UTS #35 part 5, "Root
-- Collation").
abbrev pub separator_primary : ℕ
separator_primary = 0x02000000

-- the element of U+FFFE
abbrev pub is_separator : Element → Bool
is_separator e = e.primary == separator_primary && e.secondary == common && e.lower == common

-- a nonzero primary weight leads with 02 to FF, with 02 in the separator alone
unfoldable pub has_primary_lead : Element → Bool
has_primary_lead e = e.primary == 0 || nat_le 0x03000000 e.primary || is_separator e

-- the conditions that a table shows by itself
abbrev pub element_meets : ElementCondition → Element → Bool
element_meets Shape e = has_shape e
element_meets Leads e = has_leads true e
element_meets Primary e = has_primary_lead e
