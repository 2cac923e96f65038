-- The laws by which a text is read a character at a time, or in pieces, as contracts name them.
use Rattle.std.specs.Prelude.{ℕ, ◌≡◌, ◌<◌, ◌≤◌, ◌&&◌, true, false, nat_lt, List, [], ◌∷◌, ◌++◌, flat_map, map, Some, is_some}
use Rattle.std.specs.List.{list_all}
use Rattle.ucd_normal.specs.declared.forms.Form.TheVariants.{Nfd}
use Rattle.unicode_normalization.specs.Decompose.{decompose}
use Rattle.unicode_normalization.specs.Order.{is_starter}
use Rattle.unicode_normalization.specs.Forms.{nfd}
use Rattle.unicode_normalization.specs.Hangul.{is_syllable}
use Rattle.icu_table_entries.specs.declared.entry.EntryKind.TheVariants.{Digit}
use Rattle.icu_table_entries.specs.Elements.{Element}
use Rattle.icu_table_entries.specs.Entries.{kind_of}
use Rattle.icu_table_data.specs.Data.{context_of}
use Rattle.icu_table_provider.specs.Tables.{entry_of, jamo_base, jamo_limit}
use Rattle.icu_element_reading.specs.TextElements.{Reading, continues_number, digit_of_char, begins_with_mark, number_elements, step, consumed, last_two, elements_after, elements_of}
use Rattle.icu_element_reading.specs.ReadAhead.{IsEnough, HasWholeStep}
use Rattle.icu_element_reading.specs.boundaries.Alone.{elements_by_char, elements_of_char, is_alone, context_after, stays_first, all_stay}
use Rattle.icu_table_provider.specs.well_formed.MappingCharacters.{is_named_in}
use Rattle.icu_element_reading.specs.boundaries.Cuts.{IsBoundary, has_prefix, ends_run}
use Rattle.icu_element_reading.specs.boundaries.LeftContexts.{context_left}

-- the elements of a text are those of one step, and of what it leaves
abbrev pub ElementsComeStepByStep : Type 0
ElementsComeStepByStep =
    (reading : Reading) (before : List ℕ) (c : ℕ) (text : List ℕ)
    → elements_after reading before (c ∷ text)
    ≡ (step reading before c text).elements ++ elements_after reading (last_two before (consumed c (step reading before c text))) (step reading before c text).rest

-- a starter that stands for itself and alone is read by itself, whatever follows
abbrev pub LoneStartersAreReadAlone : Type 0
LoneStartersAreReadAlone =
    (reading : Reading) (before : List ℕ) (c : ℕ) → decompose Nfd c ≡ c ∷ [] → is_starter c ≡ true → is_alone reading c ≡ true
    → (cs : List ℕ) → elements_after reading before (nfd (c ∷ cs)) ≡ elements_of_char reading.tables c ++ elements_after reading (last_two before (c ∷ [])) (nfd cs)

-- so is each character whose decomposition stays where it is, and stands alone
abbrev pub UnmovedLettersAreReadAlone : Type 0
UnmovedLettersAreReadAlone =
    (reading : Reading) (before : List ℕ) (c : ℕ) (ds cs : List ℕ) → decompose Nfd c ≡ ds → all_stay ds (flat_map (decompose Nfd) cs) ≡ true → list_all (is_alone reading) ds ≡ true
    → elements_after reading before (nfd (c ∷ cs)) ≡ elements_by_char reading.tables ds ++ elements_after reading (context_after before ds) (nfd cs)

-- a letter before a character whose decomposition begins with a starter
abbrev pub ComposedLettersAreReadAlone : Type 0
ComposedLettersAreReadAlone =
    (reading : Reading) (before : List ℕ) (letter c s : ℕ) (ts cs : List ℕ) → decompose Nfd c ≡ s ∷ ts → is_starter s ≡ true → list_all (is_alone reading) (nfd (letter ∷ [])) ≡ true
    → elements_after reading before (nfd (letter ∷ c ∷ cs))
    ≡ elements_by_char reading.tables (nfd (letter ∷ [])) ++ elements_after reading (context_after before (nfd (letter ∷ []))) (nfd (c ∷ cs))

-- a mark that no mark of its run goes before
abbrev pub LoneMarksAreReadAlone : Type 0
LoneMarksAreReadAlone =
    (reading : Reading) (before : List ℕ) (m : ℕ) (cs : List ℕ) → decompose Nfd m ≡ m ∷ [] → stays_first m (flat_map (decompose Nfd) cs) ≡ true → is_alone reading m ≡ true
    → elements_after reading before (nfd (m ∷ cs)) ≡ elements_of_char reading.tables m ++ elements_after reading (last_two before (m ∷ [])) (nfd cs)

-- a text is cut before a character whose decomposition begins with a boundary
abbrev pub TextsCutAtBoundaries : Type 0
TextsCutAtBoundaries =
    (reading : Reading) (c s : ℕ) (ts tail : List ℕ) → decompose Nfd c ≡ s ∷ ts → IsBoundary reading s
    → (before head : List ℕ) → elements_after reading before (nfd (head ++ c ∷ tail)) ≡ elements_after reading before (nfd head) ++ elements_of reading (nfd (c ∷ tail))

-- from there on they are the same after any characters
abbrev pub TextsStartAnew : Type 0
TextsStartAnew =
    (reading : Reading) (c s : ℕ) (ts tail : List ℕ) → decompose Nfd c ≡ s ∷ ts → IsBoundary reading s
    → (p q : List ℕ) → elements_after reading p (nfd (c ∷ tail)) ≡ elements_after reading q (nfd (c ∷ tail))

-- what follows a decomposed piece that begins at a boundary gives the same after the piece as after all that
-- stood before it
abbrev pub PiecesStandAlone : Type 0
PiecesStandAlone =
    (reading : Reading) (x : ℕ) (before head more text : List ℕ) → IsBoundary reading x
    → elements_after reading (context_left reading before (head ++ x ∷ more)) text ≡ elements_after reading (context_left reading [] (x ∷ more)) text

-- nothing gives nothing
abbrev pub NothingGivesNothing : Type 0
NothingGivesNothing = (reading : Reading) (before : List ℕ) → elements_after reading before (nfd []) ≡ []

-- characters below U+00C0 stand for themselves, whatever follows
abbrev pub LowTextsStay : Type 0
LowTextsStay = (ds cs : List ℕ) → list_all (λ c. nat_lt c 0xC0) ds ≡ true → nfd (ds ++ cs) ≡ ds ++ nfd cs

-- one of them that stands alone is read by itself
abbrev pub LowLettersAreReadAlone : Type 0
LowLettersAreReadAlone =
    (reading : Reading) (before : List ℕ) (c : ℕ) (cs : List ℕ) → c < 0xC0 → is_alone reading c ≡ true
    → elements_after reading before (nfd (c ∷ cs)) ≡ elements_of_char reading.tables c ++ elements_after reading (last_two before (c ∷ [])) (nfd cs)

-- so is a conjoining jamo
abbrev pub JamoAreReadAlone : Type 0
JamoAreReadAlone =
    (reading : Reading) (before : List ℕ) (c : ℕ) (cs : List ℕ) → jamo_base ≤ c → c < jamo_limit → is_alone reading c ≡ true
    → elements_after reading before (nfd (c ∷ cs)) ≡ elements_of_char reading.tables c ++ elements_after reading (last_two before (c ∷ [])) (nfd cs)

-- and a Hangul syllable whose jamo stand alone, by its jamo
abbrev pub SyllablesAreReadAlone : Type 0
SyllablesAreReadAlone =
    (reading : Reading) (before : List ℕ) (c : ℕ) (cs : List ℕ) → is_syllable c ≡ true → list_all (is_alone reading) (decompose Nfd c) ≡ true
    → elements_after reading before (nfd (c ∷ cs)) ≡ elements_by_char reading.tables (decompose Nfd c) ++ elements_after reading (context_after before (decompose Nfd c)) (nfd cs)

-- The elements of a text begin with those of the starter that its first character decomposes to first, where that
-- stands alone, whatever marks follow.
abbrev pub FirstStartersLead : Type 0
FirstStartersLead =
    (reading : Reading) (before : List ℕ) (c s : ℕ) (ts cs : List ℕ) → decompose Nfd c ≡ s ∷ ts → is_starter s ≡ true → is_alone reading s ≡ true
    → (rest : List Element) × (elements_after reading before (nfd (c ∷ cs)) ≡ elements_of_char reading.tables s ++ rest)

-- A run of digits is one number, where digits are read as numbers: the first has a digit's entry itself, each goes on a
-- number, what follows does not, and no mark follows the first directly.
abbrev pub DigitRunsAreNumbers : Type 0
DigitRunsAreNumbers =
    (reading : Reading) (lead : ℕ) (before : List ℕ) (d : ℕ) (ds text : List ℕ) → reading.numeric ≡ Some lead
    → kind_of (entry_of reading.tables d).entry ≡ Digit → list_all (continues_number reading.tables) (d ∷ ds) ≡ true → ends_run reading.tables text ≡ true → begins_with_mark (ds ++ text) ≡ false
    → elements_after reading before (d ∷ ds ++ text) ≡ number_elements lead (map (digit_of_char reading.tables) (d ∷ ds)) ++ elements_after reading (last_two before (d ∷ ds)) text

-- A base of contractions gives what it gives at the end of a text, before a starter that none of its mappings names and
-- that goes on no number.
abbrev pub BasesBeforeUnnamedStarters : Type 0
BasesBeforeUnnamedStarters =
    (reading : Reading) (before : List ℕ) (c x : ℕ) (more : List ℕ) → has_prefix reading.tables c ≡ false → is_starter x ≡ true
    → is_named_in x (context_of (entry_of reading.tables c)) ≡ false → (is_some reading.numeric && continues_number reading.tables x) ≡ false
    → elements_after reading before (c ∷ x ∷ more)
    ≡ (step reading before c []).elements ++ elements_after reading (last_two before (consumed c (step reading before c []))) (x ∷ more)

-- where a text is enough for a step, the elements are those of the step on it, and of what it leaves with all that
-- follows
abbrev pub MoreTextKeepsWholeSteps : Type 0
MoreTextKeepsWholeSteps =
    (reading : Reading) (before : List ℕ) (c : ℕ) (text left : List ℕ) → IsEnough reading before c text left
    → elements_after reading before (c ∷ (text ++ left))
    ≡ (step reading before c text).elements ++ elements_after reading (last_two before (consumed c (step reading before c text))) ((step reading before c text).rest ++ left)

-- a text with a boundary in it is enough for each step before that
abbrev pub BoundariesAreEnough : Type 0
BoundariesAreEnough =
    (reading : Reading) (before : List ℕ) (c : ℕ) (front : List ℕ) (x : ℕ) (back : List ℕ) → IsBoundary reading x → HasWholeStep reading before c (front ++ x ∷ back)
