-- Worked rows of the definitions on a root or a tailoring, computed.
use Rattle.std.proofs.Common.{◌≡◌, ℕ, true, false, [], ◌∷◌, Option, Some, None, refl}
use Rattle.icu_table_data.specs.declared.reachable_condition.ReachableCondition.{ReachableCondition}
use Rattle.icu_table_data.specs.declared.reachable_condition.ReachableCondition.TheVariants.{Indices, Chains, Digits, Bytes, Offsets, Leads}
use Rattle.icu_table_entries.specs.Elements.{element_of}
use Rattle.icu_table_entries.specs.Entries.{kind_of, self_contained}
use Rattle.icu_table_entries.specs.Weights.{ordinal_of, weight_at, offset_ordinal, offset_weight}
use Rattle.icu_table_data.specs.Data.{Data, homed}
use Rattle.icu_table_data.specs.Final.{final_elements}
use Rattle.icu_table_data.specs.Reachable.{reachable_digit, reachable_contraction, reachable_from, reachable_at}
use Rattle.icu_table_entries.specs.ElementConditions.{ends_at_zero, has_shape, has_secondary_lead, has_tertiary_lead, has_primary_lead}
use Rattle.icu_table_data.specs.DataConditions.{is_inside, has_short_mappings, avoids_diacritics, leads_on, has_known_members, fits_offset}
use Rattle.icu_table_entries.specs.EntryConditions.{has_digit, has_known_byte, has_offset_weight}
use Rattle.icu_table_data.specs.ReachableConditions.{first_failing}

-- A table in which each character has one entry, with offset data, a plain entry, and two contexts: the first for a
-- prefix, which leads to the second, a contraction, whose mapping leads to a digit.
abbrev with_entry : ℕ → Data
with_entry e = record {
  value = λ c. e;
  elements = element_of 0x7010FE000003B184 ∷ [];
  entries = 0x14100505 ∷ [];
  contexts =
      record { default = 0x20C9; mappings = record { chars = 0x62 ∷ []; entry = 0x62100505 } ∷ [] }
      ∷ record { default = 0x61100505; mappings = record { chars = 0x30A ∷ []; entry = 0x01CA } ∷ [] } ∷ [];
}

-- ---- what is reachable

prefix_reached : reachable_at false (with_entry 0xC8) 0x61 ≡ 0xC8 ∷ 0x20C9 ∷ 0x61100505 ∷ 0x01CA ∷ 0x14100505 ∷ 0x62100505 ∷ []
unfolding reachable_from reachable_contraction reachable_digit kind_of
prefix_reached = refl

-- a contraction that leads to itself opens nothing there
contraction_reached : reachable_at false (with_entry 0x00C9) 0x61 ≡ 0xC9 ∷ 0x20C9 ∷ 0x62100505 ∷ []
unfolding reachable_from reachable_contraction reachable_digit kind_of
contraction_reached = refl

fallback_in_a_tailoring : reachable_at true (with_entry 0xC0) 0x61 ≡ []
fallback_in_a_tailoring = refl

fallback_in_a_root : reachable_at false (with_entry 0xC0) 0x61 ≡ 0xC0 ∷ []
unfolding reachable_from reachable_contraction reachable_digit kind_of
fallback_in_a_root = refl

-- an index outside the table reads as the empty context
no_context_there : reachable_at false (with_entry 0x40C9) 0x61 ≡ 0x40C9 ∷ 0 ∷ []
unfolding reachable_from reachable_contraction reachable_digit kind_of
no_context_there = refl

-- ---- conditions on entries

abbrev fails_with : ℕ → Option ReachableCondition → Type 0
fails_with e condition = first_failing (with_entry e) 0x3B1 e ≡ condition

well_formed_prefix : fails_with 0xC8 None
unfolding first_failing is_inside has_short_mappings leads_on has_digit has_known_byte has_known_members fits_offset final_elements kind_of self_contained
well_formed_prefix = refl

outside : fails_with 0x40C9 (Some Indices)
unfolding first_failing is_inside kind_of
outside = refl

chained : fails_with 0x00C9 (Some Chains)
unfolding first_failing is_inside has_short_mappings leads_on kind_of
chained = refl

tenth_digit : fails_with 0x0ACA (Some Digits)
unfolding first_failing is_inside has_short_mappings leads_on has_digit kind_of
tenth_digit = refl

reserved : fails_with 0xC3 (Some Bytes)
unfolding first_failing is_inside has_short_mappings leads_on has_digit has_known_byte kind_of
reserved = refl

well_formed_offset : fails_with 0xCE None
unfolding first_failing is_inside has_short_mappings leads_on has_digit has_known_byte has_known_members fits_offset has_offset_weight offset_ordinal ordinal_of final_elements offset_weight weight_at has_shape ends_at_zero has_secondary_lead has_tertiary_lead has_primary_lead kind_of
well_formed_offset = refl

-- entries that can't be read fail a condition before those on elements: a character before the base of offset data, and
-- a list of entries, or of elements, that runs past its end
before_the_base : first_failing (with_entry 0xCE) 0x3B0 0xCE ≡ Some Offsets
unfolding first_failing is_inside has_short_mappings leads_on has_digit has_known_byte has_known_members fits_offset has_offset_weight kind_of
before_the_base = refl

entries_past_the_end : fails_with 0x02C5 (Some Indices)
unfolding first_failing is_inside kind_of
entries_past_the_end = refl

elements_past_the_end : fails_with 0x02C6 (Some Indices)
unfolding first_failing is_inside kind_of
elements_past_the_end = refl

-- such entries have no elements, though one of two elements is there
nothing_before_the_base : final_elements (homed (with_entry 0xCE) 0xCE) 0x3B0 ≡ []
unfolding final_elements has_offset_weight kind_of
nothing_before_the_base = refl

nothing_of_entries_past_the_end : final_elements (homed (with_entry 0x02C5) 0x02C5) 0x61 ≡ []
unfolding final_elements kind_of
nothing_of_entries_past_the_end = refl

nothing_of_elements_past_the_end : final_elements (homed (with_entry 0x02C6) 0x02C6) 0x61 ≡ []
unfolding final_elements kind_of
nothing_of_elements_past_the_end = refl

bad_secondary : fails_with 0x61103005 (Some Leads)
unfolding first_failing is_inside has_short_mappings leads_on has_digit has_known_byte has_known_members fits_offset final_elements self_contained has_shape ends_at_zero has_secondary_lead kind_of
bad_secondary = refl

no_diacritic_in_mappings : avoids_diacritics 79 (with_entry 0xC8) 0xC8 ≡ true
unfolding avoids_diacritics kind_of
no_diacritic_in_mappings = refl
