-- What is kept of a character serves for reading.
use Rattle.std.specs.Prelude.{◌≡◌, ℕ, true, false, List, [], ◌∷◌, ◌++◌, Some, IsTrue, ⊤}
use Rattle.ucd_normal.specs.declared.forms.Form.TheVariants.{Nfd}
use Rattle.unicode_normalization.specs.Decompose.{decompose}
use Rattle.unicode_normalization.specs.Forms.{nfd}
use Rattle.icu_table_entries.specs.Elements.{Element}
use Rattle.icu_element_reading.specs.TextElements.{Reading, elements_after}
use Rattle.icu_element_reading.specs.boundaries.Alone.{context_after, elements_of_char}
use Rattle.icu_element_facts.specs.declared.char_facts.CharFacts.{CharFacts}
use Rattle.icu_element_facts.specs.declared.char_facts.FactsKind.TheVariants.{Starters, Marked, Mark, Base}
use Rattle.icu_element_facts.specs.KeptFacts.{char_elements, first_bits, IsNumberDigit}
use Rattle.icu_element_facts.specs.KeptChars.{starts_with_starter}
use Rattle.icu_element_facts.specs.FewElements.{few_elements}
use Rattle.icu_element_facts.specs.Followers.{HasNoBit}
use Rattle.icu_element_facts.specs.declared.kept_pairs.KeptPair.{KeptPair}
use Rattle.icu_element_facts.specs.declared.char_words.Kept.{Kept}
use Rattle.icu_element_facts.specs.declared.char_words.Kept.TheVariants.{Own, Facts, Nothing}
use Rattle.icu_element_reading.specs.boundaries.Places.{MayBeCut}
use Rattle.icu_element_cursor.specs.inner.MarkRuns.{Rises, EndsRuns, IsMarkItself}
use Rattle.icu_element_cursor.specs.inner.Unjoined.{IsUnjoinedBefore}

-- a character gives these elements before a text, whatever stands before, and the text gives what it gives after it
abbrev pub StandsBefore : Reading → ℕ → List Element → List ℕ → Type 0
StandsBefore reading c es text =
    (before : List ℕ) → elements_after reading before (nfd (c ∷ text)) ≡ es ++ elements_after reading (context_after before (decompose Nfd c)) (nfd text)

-- these elements begin with one of this primary weight
pub record BeginWithPrimary (es : List Element) (primary : ℕ) : Type 0 where
  pub element : Element
  pub rest : List Element
  pub elements : es ≡ element ∷ rest
  pub leading : element.primary ≡ primary

-- two characters give these elements before a text, whatever stands before, and the text gives what it gives after both
abbrev pub BothStandBefore : Reading → ℕ → ℕ → List Element → List ℕ → Type 0
BothStandBefore reading c x es text =
    (before : List ℕ) → elements_after reading before (nfd (c ∷ x ∷ text))
    ≡ es ++ elements_after reading (context_after (context_after before (decompose Nfd c)) (decompose Nfd x)) (nfd text)

-- what is kept of a pair says before which texts the two are read together, or the first by itself
pub record PairServes (reading : Reading) (c x : ℕ) (p : KeptPair) : Type 0 where
  pub before : p.joins ≡ true → (text : List ℕ) → IsUnjoinedBefore reading (HasNoBit p.followers) p.class text → BothStandBefore reading c x (few_elements p.few) text
  pub anywhere : p.joins ≡ true → p.class ≡ 0 → p.followers ≡ 0 → (text : List ℕ) → BothStandBefore reading c x (few_elements p.few) text
  pub unjoined : p.joins ≡ false → (text : List ℕ) → IsUnjoinedBefore reading (HasNoBit p.followers) 0 text → (es : List Element) → StandsBefore reading c es [] → StandsBefore reading c es (x ∷ text)

-- what is kept of a character says when it stands by itself, what it is worth in a number, that runs of marks end
-- before it, that texts may be cut there, and with which bits its decomposition begins
pub record Serves (reading : Reading) (c : ℕ) (l : CharFacts) : Type 0 where
  pub starters : l.kind ≡ Starters → (text : List ℕ) → StandsBefore reading c (char_elements l) text
  pub marked : l.kind ≡ Marked → (text : List ℕ) → Rises l.class text → StandsBefore reading c (char_elements l) text
  pub mark : l.kind ≡ Mark → (text : List ℕ) → Rises l.class text → StandsBefore reading c (char_elements l) text
  pub lone : l.kind ≡ Mark → IsMarkItself c l.class
  pub base : l.kind ≡ Base → (text : List ℕ) → IsUnjoinedBefore reading (HasNoBit l.followers) l.class text → StandsBefore reading c (char_elements l) text
  pub digit : (d : ℕ) → l.digit ≡ Some d → IsNumberDigit reading c d
  pub begins : IsTrue l.begins_with_starter → EndsRuns c
  pub starter : IsTrue l.begins_with_starter → starts_with_starter (decompose Nfd c) ≡ true
  pub boundary : IsTrue l.has_boundary_before → MayBeCut reading c
  pub head : l.has_boundary_before ≡ false → first_bits (decompose Nfd c) ≡ l.head

-- a character gives the elements of its entry wherever it stands, runs of marks end before it, and texts may be cut
-- there
pub record StandsAnywhere (reading : Reading) (c : ℕ) : Type 0 where
  pub stands : (text : List ℕ) → StandsBefore reading c (elements_of_char reading.tables c) text
  pub ends : EndsRuns c
  pub boundary : MayBeCut reading c

-- what is kept of a character serves, of whichever kind it is
abbrev pub KeptServes : Reading → ℕ → Kept → Type 0
KeptServes reading c Own = StandsAnywhere reading c
KeptServes reading c (Facts l) = Serves reading c l.now
KeptServes reading c Nothing = ⊤
