-- What is known of a character before it is read: how it may be read by itself, and where a text may be cut before it.
use Rattle.std.specs.Prelude.{◌≡◌, ◌≢◌, ◌<◌, ◌%◌, ℕ, Bool, true, false, ◌&&◌, ◌==◌, nat_le, List, [], ◌∷◌, take, IsTrue, IfSome}
use Rattle.std.specs.List.{list_all}
use Rattle.ucd_normal.specs.CanonicalCombiningClass.{canonical_combining_class as class_of}
use Rattle.ucd_normal.specs.declared.forms.Form.TheVariants.{Nfd}
use Rattle.unicode_normalization.specs.Decompose.{decompose}
use Rattle.unicode_normalization.specs.Forms.{nfd}
use Rattle.unicode_normalization.specs.Order.{is_starter, is_nonstarter}
use Rattle.icu_table_entries.specs.declared.entry.EntryKind.TheVariants.{Digit}
use Rattle.icu_table_entries.specs.Elements.{Element}
use Rattle.icu_table_entries.specs.Entries.{kind_of}
use Rattle.icu_table_provider.specs.Tables.{entry_of}
use Rattle.icu_element_reading.specs.TextElements.{Reading, continues_number, digit_of_char, elements_after}
use Rattle.icu_element_reading.specs.boundaries.Alone.{elements_by_char, elements_of_char, is_alone}
use Rattle.icu_element_reading.specs.boundaries.Cuts.{IsBoundary}
use Rattle.icu_element_reading.specs.boundaries.BoundaryTables.{HasBoundaryBefore}
use Rattle.icu_element_facts.specs.Followers.{AreFollowers}
use Rattle.icu_element_facts.specs.declared.char_facts.CharFacts.{CharFacts}
use Rattle.icu_element_facts.specs.declared.char_facts.FactsKind.TheVariants.{Starters, Marked, Mark, Base}

-- the elements that are kept of a character
abbrev pub char_elements : CharFacts → List Element
char_elements l = take l.count l.elements

-- each character of its decomposition stands alone, and the elements kept are theirs
pub record StandsAlone (reading : Reading) (c : ℕ) (l : CharFacts) : Type 0 where
  pub alone : list_all (is_alone reading) (decompose Nfd c) ≡ true
  pub elements : char_elements l ≡ elements_by_char reading.tables (decompose Nfd c)

-- these are marks, whose classes rise from one to another
unfoldable pub rises_to : ℕ → List ℕ → ℕ → Bool
rises_to class [] last = class == last
rises_to class (m ∷ ms) last = is_nonstarter m && nat_le class (class_of m) && rises_to (class_of m) ms last

-- starters that stand alone
pub record HasStarters (reading : Reading) (c : ℕ) (l : CharFacts) : Type 0 where
  pub stands : StandsAlone reading c l
  pub starters : list_all is_starter (decompose Nfd c) ≡ true

-- a starter with marks in order after it, up to the class that is kept, all alone
pub record IsMarkedStarter (reading : Reading) (c : ℕ) (l : CharFacts) : Type 0 where
  pub base : ℕ
  pub marks : List ℕ
  pub stands : StandsAlone reading c l
  pub decomposes : decompose Nfd c ≡ base ∷ marks
  pub starter : is_starter base ≡ true
  pub in_order : rises_to 0 marks l.class ≡ true

-- a mark of the class that is kept, which decomposes to itself and stands alone
pub record IsLoneMark (reading : Reading) (c : ℕ) (l : CharFacts) : Type 0 where
  pub stands : StandsAlone reading c l
  pub itself : decompose Nfd c ≡ c ∷ []
  pub class : class_of c ≡ l.class

-- the decomposition begins with a starter
pub record BeginsWithStarter (c : ℕ) : Type 0 where
  pub first : ℕ
  pub more : List ℕ
  pub decomposes : decompose Nfd c ≡ first ∷ more
  pub starter : is_starter first ≡ true

-- the decomposition begins with a starter that stands alone, whose elements begin with this primary weight
pub record HasLeadingPrimary (reading : Reading) (c : ℕ) (primary : ℕ) : Type 0 where
  pub first : ℕ
  pub more : List ℕ
  pub element : Element
  pub rest : List Element
  pub decomposes : decompose Nfd c ≡ first ∷ more
  pub starter : is_starter first ≡ true
  pub alone : is_alone reading first ≡ true
  pub elements : elements_of_char reading.tables first ≡ element ∷ rest
  pub leading : element.primary ≡ primary

-- it gives the elements kept as a text by itself, whatever stands before, and goes on with the followers kept alone; it
-- is the character that is kept
pub record IsBase (reading : Reading) (c : ℕ) (l : CharFacts) : Type 0 where
  pub same : l.character ≡ c
  pub at_end : (before : List ℕ) → elements_after reading before (nfd (c ∷ [])) ≡ char_elements l
  pub goes_on : ∥ AreFollowers reading c l.class l.followers ∥₁

-- a digit that decomposes to itself, has a digit's entry itself, goes on numbers, and has this value there
pub record IsNumberDigit (reading : Reading) (c digit : ℕ) : Type 0 where
  pub low : c < 0xC0
  pub own : kind_of (entry_of reading.tables c).entry ≡ Digit
  pub continues : continues_number reading.tables c ≡ true
  pub value : digit_of_char reading.tables c ≡ digit
  pub decimal : digit < 10

-- the low six bits of the first of these characters
unfoldable pub first_bits : List ℕ → ℕ
first_bits [] = 0
first_bits (d ∷ ds) = d % 64

-- an own character: it decomposes to itself, gives the same elements wherever it stands, and a text may be cut before
-- it
pub record IsOwn (reading : Reading) (c : ℕ) : Type 0 where
  pub itself : decompose Nfd c ≡ c ∷ []
  pub alone : is_alone reading c ≡ true
  pub boundary : IsBoundary reading c

-- what is known of a character is so
pub record AreTrueFacts (reading : Reading) (c : ℕ) (l : CharFacts) : Type 0 where
  pub starters : l.kind ≡ Starters → HasStarters reading c l
  pub marked : l.kind ≡ Marked → IsMarkedStarter reading c l
  pub mark : l.kind ≡ Mark → IsLoneMark reading c l
  pub base : l.kind ≡ Base → IsBase reading c l
  pub digit : IfSome l.digit (λ d. IsNumberDigit reading c d)
  pub begins : IsTrue l.begins_with_starter → BeginsWithStarter c
  pub boundary : IsTrue l.has_boundary_before → HasBoundaryBefore reading c
  pub leads : l.leading_primary ≢ 0 → HasLeadingPrimary reading c l.leading_primary
  pub head : l.has_boundary_before ≡ false → first_bits (decompose Nfd c) ≡ l.head

-- what is known of texts that begin with a character, by the first character of its decomposition, is so
pub record AreFirstFacts (reading : Reading) (c : ℕ) (l : CharFacts) : Type 0 where
  pub base : l.kind ≡ Base → IsBase reading c l
  pub begins : IsTrue l.begins_with_starter → BeginsWithStarter c
  pub boundary : IsTrue l.has_boundary_before → HasBoundaryBefore reading c
  pub leads : l.leading_primary ≢ 0 → HasLeadingPrimary reading c l.leading_primary
  pub head : l.has_boundary_before ≡ false → first_bits (decompose Nfd c) ≡ l.head

-- starters that stand alone, whose elements these are
pub record StandByThemselves (reading : Reading) (cs : List ℕ) (es : List Element) : Type 0 where
  pub alone : list_all (is_alone reading) cs ≡ true
  pub starters : list_all is_starter cs ≡ true
  pub elements : es ≡ elements_by_char reading.tables cs
