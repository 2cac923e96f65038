-- The premises are met, and each is needed: computed over small tables.
use Rattle.std.proofs.Common.{◌≡◌, ℕ, true, false, List, [], ◌∷◌, ◌++◌, Some, if◌then◌else◌, ◌==◌, refl}
use Rattle.std.specs.List.{list_all}
use Rattle.ucd_normal.specs.declared.forms.Form.TheVariants.{Nfd}
use Rattle.unicode_normalization.specs.Decompose.{decompose}
use Rattle.unicode_normalization.specs.Order.{is_starter}
use Rattle.unicode_normalization.specs.Forms.{nfd}
use Rattle.icu_table_entries.specs.Elements.{Element, of_primary, of_secondary}
use Rattle.icu_table_provider.specs.Tables.{Tables}
use Rattle.icu_element_matches.specs.Matches.{contracted}
use Rattle.icu_element_reading.specs.TextElements.{Reading, non_numeric_reading, elements_of}
use Rattle.icu_element_reading.proofs.Computing.{icu_elements}
use Rattle.icu_element_reading.proofs.WorkedReadings.{mini, ring, two_marks, prefixed, numeric}
use Rattle.icu_element_reading.specs.boundaries.Alone.{is_alone, stays_before, stays_first, run_ascends, all_stay}
use Rattle.icu_table_provider.specs.well_formed.MappingCharacters.{is_named_by_tailoring}
use Rattle.icu_element_reading.specs.boundaries.Cuts.{IsBoundary, cut}
use Rattle.icu_element_reading.specs.boundaries.LeftContexts.{context_along, context_left}

unfoldable cuts : Unit {0}
unfolding icu_elements stays_before stays_first run_ascends all_stay cut context_along context_left
cuts = tt

abbrev elements_in : Reading → List ℕ → List Element
elements_in reading text = elements_of reading (nfd text)

-- ---- met

letter_alone : is_alone (non_numeric_reading mini) 97 ≡ true
unfolding cuts
letter_alone = refl

digit_alone : is_alone (non_numeric_reading mini) 50 ≡ true
unfolding cuts
digit_alone = refl

letter_boundary : IsBoundary (numeric two_marks) 98
unfolding cuts
letter_boundary = record { starter = refl; root = refl; tailoring = refl; no_prefix = refl; no_number = refl }

-- a base of contractions is a boundary itself
base_boundary : IsBoundary (numeric two_marks) 97
unfolding cuts
base_boundary = record { starter = refl; root = refl; tailoring = refl; no_prefix = refl; no_number = refl }

-- a syllable before a mark
syllable_stays : all_stay (decompose Nfd 0xAC01) (0x301 ∷ []) ≡ true
unfolding cuts
syllable_stays = refl

syllable_alone : list_all (is_alone (non_numeric_reading mini)) (decompose Nfd 0xAC01) ≡ true
unfolding cuts
syllable_alone = refl

-- e with a circumflex and a dot below stays before an acute, and a letter with an acute doesn't before a dot below
two_stay : all_stay (decompose Nfd 0x1EC7) (0x301 ∷ 98 ∷ []) ≡ true
unfolding cuts
two_stay = refl

acute_sinks : all_stay (decompose Nfd 0xE1) (0x323 ∷ []) ≡ false
unfolding cuts
acute_sinks = refl

ascending : run_ascends (0x323 ∷ 0x301 ∷ 0x300 ∷ 98 ∷ 0x301 ∷ 0x323 ∷ []) ≡ true
unfolding cuts
ascending = refl

-- ---- needed

-- class 0, and made of marks: where this were taken for a starter, a cut before it would differ
class_zero : is_starter 0xF73 ≡ true
unfolding cuts
class_zero = refl

made_of_marks : decompose Nfd 0xF73 ≡ 0xF71 ∷ 0xF72 ∷ []
unfolding cuts
made_of_marks = refl

cut_before_it : nfd (97 ∷ 0x345 ∷ 0xF73 ∷ []) ≡ 97 ∷ 0xF71 ∷ 0xF72 ∷ 0x345 ∷ []
unfolding cuts
cut_before_it = refl

-- a mark: the ring joins "a"
ring_whole : elements_in (non_numeric_reading ring) (97 ∷ 0x30A ∷ []) ≡ of_primary 0x62100000 ∷ []
unfolding cuts
ring_whole = refl

ring_parts : elements_in (non_numeric_reading ring) (97 ∷ []) ++ elements_in (non_numeric_reading ring) (0x30A ∷ []) ≡ of_primary 0x61100000 ∷ of_secondary 0x5000 ∷ []
unfolding cuts
ring_parts = refl

-- a prefix entry: c after "ab"
prefix_whole : elements_in (non_numeric_reading prefixed) (97 ∷ 98 ∷ 99 ∷ []) ≡ of_primary 0x61100000 ∷ of_primary 0x61140000 ∷ of_primary 0x611E0000 ∷ []
unfolding cuts
prefix_whole = refl

prefix_parts : elements_in (non_numeric_reading prefixed) (97 ∷ 98 ∷ []) ++ elements_in (non_numeric_reading prefixed) (99 ∷ []) ≡ of_primary 0x61100000 ∷ of_primary 0x61140000 ∷ of_primary 0x61180000 ∷ []
unfolding cuts
prefix_parts = refl

-- a character that a mapping of prefixes names, with a plain entry of its own: b in "abc"
named_part : elements_in (non_numeric_reading prefixed) (97 ∷ []) ++ elements_in (non_numeric_reading prefixed) (98 ∷ 99 ∷ []) ≡ of_primary 0x61100000 ∷ of_primary 0x61140000 ∷ of_primary 0x61180000 ∷ []
unfolding cuts
named_part = refl

named : is_named_by_tailoring 98 prefixed.tailoring ≡ true
unfolding cuts
named = refl

-- a digit, where digits are read as numbers
number_whole : elements_in (numeric mini) (50 ∷ 56 ∷ []) ≡ of_primary 0xF1E0000 ∷ []
unfolding cuts
number_whole = refl

number_parts : elements_in (numeric mini) (50 ∷ []) ++ elements_in (numeric mini) (56 ∷ []) ≡ of_primary 0xF040000 ∷ of_primary 0xF0A0000 ∷ []
unfolding cuts
number_parts = refl

-- the context that a piece leaves is alike to that of the whole text, and not the same
context_of_whole : context_left (non_numeric_reading mini) [] (97 ∷ 98 ∷ []) ≡ 98 ∷ 97 ∷ []
unfolding cuts
context_of_whole = refl

context_of_piece : context_left (non_numeric_reading mini) [] (98 ∷ []) ≡ 98 ∷ []
unfolding cuts
context_of_piece = refl

-- a context with an empty mapping, which the conditions on tables refuse: the mapping is chosen, not the default
empty_mapping : contracted (record { default = 1; mappings = record { chars = []; entry = 2 } ∷ [] }) (98 ∷ []) ≡ record { entry = 2; suffix = []; rest = 98 ∷ [] }
unfolding cuts
empty_mapping = refl

-- two digits before a letter
two_digits : elements_in (numeric mini) (50 ∷ 56 ∷ 97 ∷ []) ≡ of_primary 0xF1E0000 ∷ of_primary 0x61100000 ∷ []
unfolding cuts
two_digits = refl

-- a mark after the first digit cuts the run, one after the last is read by itself
mark_after_first : elements_in (numeric mini) (50 ∷ 0x301 ∷ 56 ∷ []) ≡ of_primary 0xF040000 ∷ of_secondary 0x4700 ∷ of_primary 0xF0A0000 ∷ []
unfolding cuts
mark_after_first = refl

mark_after_last : elements_in (numeric mini) (50 ∷ 56 ∷ 0x301 ∷ []) ≡ of_primary 0xF1E0000 ∷ of_secondary 0x4700 ∷ []
unfolding cuts
mark_after_last = refl

-- a letter of one element that isn't zero may end with a mark: the acute's is zero here, and a mapping of the dot below
-- names it
abbrev zero_element : Element
zero_element = record { primary = 0; secondary = 0; lower = 0 }

abbrev silent_acute : Tables
silent_acute = record mini {
  diacritics = [];
  tailoring = Some (record {
    value = λ x. if x == 0x301 then 0 else if x == 0x323 then 0xC9 else 0xC0;
    elements = [];
    entries = [];
    contexts = record { default = 0x61180505; mappings = record { chars = 0x301 ∷ []; entry = 0x611E0505 } ∷ [] } ∷ [];
  });
}

one_element : elements_in (non_numeric_reading silent_acute) (0xE1 ∷ []) ≡ of_primary 0x61100000 ∷ zero_element ∷ []
unfolding cuts
one_element = refl

both_alone : list_all (is_alone (non_numeric_reading silent_acute)) (decompose Nfd 0xE1) ≡ true
unfolding cuts
both_alone = refl

dot_whole : elements_in (non_numeric_reading silent_acute) (0xE1 ∷ 0x323 ∷ []) ≡ of_primary 0x61100000 ∷ of_primary 0x611E0000 ∷ []
unfolding cuts
dot_whole = refl

dot_by_itself : elements_in (non_numeric_reading silent_acute) (0x323 ∷ []) ≡ of_primary 0x61180000 ∷ []
unfolding cuts
dot_by_itself = refl
