-- What a table keeps of a character, each fact by a test of its decomposition.
use Rattle.std.specs.Prelude.{◌≡◌, ◌≢◌, ◌<◌, ◌+◌, ◌==◌, ◌&&◌, ℕ, Bool, true, false, not, List, [], ◌∷◌, ◌++◌, length, slice_index_or, IsTrue, Some, is_some}
use Rattle.ucd_normal.specs.declared.forms.Form.TheVariants.{Nfd}
use Rattle.unicode_normalization.specs.Decompose.{decompose}
use Rattle.unicode_normalization.specs.Order.{is_starter}
use Rattle.icu_table_entries.specs.Elements.{Element}
use Rattle.icu_element_reading.specs.TextElements.{Reading, continues_number}
use Rattle.icu_element_reading.specs.boundaries.Alone.{elements_of_char, is_alone}
use Rattle.icu_table_provider.specs.well_formed.MappingCharacters.{is_named, is_named_by_tailoring}
use Rattle.icu_element_reading.specs.boundaries.Cuts.{has_prefix}
use Rattle.icu_element_facts.specs.KeptFacts.{StandsAlone, HasStarters, IsLoneMark, IsBase, IsNumberDigit, first_bits, rises_to}
use Rattle.icu_element_facts.specs.declared.char_facts.CharFacts.{CharFacts}
use Rattle.icu_element_facts.specs.declared.char_facts.FactsKind.TheVariants.{Starters, Marked, Mark, Base}

-- a text may be cut before it, as the tests say
abbrev pub is_boundary_place : Reading → ℕ → Bool
is_boundary_place reading x =
    is_starter x && (not (is_named x reading.tables.root) && (not (is_named_by_tailoring x reading.tables.tailoring)
    && (not (has_prefix reading.tables x) && not (is_some reading.numeric && continues_number reading.tables x))))

-- the elements begin with this primary
abbrev pub begins_with : ℕ → List Element → Bool
begins_with p [] = false
begins_with p (e ∷ es) = e.primary == p

-- a decomposition begins with a starter
unfoldable pub starts_with_starter : List ℕ → Bool
starts_with_starter [] = false
starts_with_starter (d ∷ ds) = is_starter d

-- it begins with a character before which a text may be cut
unfoldable pub starts_at_boundary : Reading → List ℕ → Bool
starts_at_boundary reading [] = false
starts_at_boundary reading (d ∷ ds) = is_boundary_place reading d

-- it begins with a starter that stands alone, whose elements begin with this primary
unfoldable pub starts_with_primary : Reading → ℕ → List ℕ → Bool
starts_with_primary reading p [] = false
starts_with_primary reading p (d ∷ ds) = is_starter d && (is_alone reading d && begins_with p (elements_of_char reading.tables d))

-- it is a starter, and then marks in order up to this class
unfoldable pub is_marked_starter : ℕ → List ℕ → Bool
is_marked_starter class [] = false
is_marked_starter class (d ∷ ds) = is_starter d && rises_to 0 ds class

-- what is kept of a character is so
pub record KeptChar (reading : Reading) (c : ℕ) (l : CharFacts) : Type 0 where
  pub starters : l.kind ≡ Starters → HasStarters reading c l
  pub marked_alone : l.kind ≡ Marked → StandsAlone reading c l
  pub marked : l.kind ≡ Marked → is_marked_starter l.class (decompose Nfd c) ≡ true
  pub mark : l.kind ≡ Mark → IsLoneMark reading c l
  pub base : l.kind ≡ Base → IsBase reading c l
  pub digit : (d : ℕ) → l.digit ≡ Some d → IsNumberDigit reading c d
  pub begins : IsTrue l.begins_with_starter → starts_with_starter (decompose Nfd c) ≡ true
  pub boundary : IsTrue l.has_boundary_before → starts_at_boundary reading (decompose Nfd c) ≡ true
  pub leads : l.leading_primary ≢ 0 → starts_with_primary reading l.leading_primary (decompose Nfd c) ≡ true
  pub head : l.has_boundary_before ≡ false → first_bits (decompose Nfd c) ≡ l.head

-- what is kept of characters from this one on, in order, is so
abbrev pub AreFactsFrom : Reading → ℕ → List CharFacts → Type 0
AreFactsFrom reading first kept_facts = (k : ℕ) (other : CharFacts) → k < length kept_facts → KeptChar reading (first + k) (slice_index_or kept_facts k other)

-- what is kept of one more character was appended
pub record IsOneMore (reading : Reading) (c : ℕ) (old new : List CharFacts) : Type 0 where
  pub facts : CharFacts
  pub appended : new ≡ old ++ facts ∷ []
  pub kept : KeptChar reading c facts
