-- That a text may be searched in pieces.
use Rattle.std.specs.Prelude.{◌≡◌, ℕ, ◌+◌, ◌≤◌, true, List, ◌∷◌, ◌++◌, length}
use Rattle.ucd_normal.specs.declared.forms.Form.TheVariants.{Nfd}
use Rattle.unicode_normalization.specs.Decompose.{decompose}
use Rattle.icu_element_reading.specs.TextElements.{Reading}
use Rattle.icu_element_reading.specs.boundaries.Cuts.{IsBoundary}
use Rattle.icu_table_provider.specs.well_formed.WellFormedTables.{IsWellFormedTables}
use Rattle.icu_element_reading.specs.TextElementLaws.{IsText}
use Rattle.icu_order_texts.specs.TextOrder.{reading_by}
use Rattle.icu_search_places.specs.SearchPlaces.{leads}
use Rattle.icu_search_places.specs.Searches.{Search, is_match}

-- A text may be cut before the character, whatever stands before and after it: its decomposition begins with a boundary
-- that leads.
pub record BeginsPieces (reading : Reading) (c : ℕ) : Type 0 where
  pub first : ℕ
  pub more : List ℕ
  pub decomposes : decompose Nfd c ≡ first ∷ more
  pub boundary : IsBoundary reading first
  pub leading : leads first ≡ true

-- the search of a piece, where so many characters stand before it
abbrev pub search_behind : ℕ → Search → Search
search_behind k s = record s { allowed = λ i. s.allowed (k + i) }

-- up to the cut the matches of the whole are those of the first piece, and from there on those of the second
pub record HasMatchesOfPieces (s : Search) (front back : List ℕ) : Type 0 where
  pub before : (start stop : ℕ) → stop ≤ length front → is_match s (front ++ back) start stop ≡ is_match s front start stop
  pub from_behind : (start stop : ℕ)
      → is_match s (front ++ back) (length front + start) (length front + stop) ≡ is_match (search_behind (length front) s) back start stop

-- a text may be searched in pieces, cut before a character with which they may begin
abbrev pub SearchIsLocal : Type 0
SearchIsLocal =
    (s : Search) (c : ℕ) → BeginsPieces (reading_by s.collation) c → (front tail : List ℕ) → HasMatchesOfPieces s front (c ∷ tail)

-- A pattern matches where it stands in a text as it is written, if pieces begin with it and with what follows it.
abbrev pub PatternsMatchWhereTheyStand : Type 0
PatternsMatchWhereTheyStand =
    (s : Search) → IsWellFormedTables s.collation.tables → (p : ℕ) (ps : List ℕ) → s.pattern ≡ p ∷ ps → IsText (p ∷ ps)
    → BeginsPieces (reading_by s.collation) p → (c : ℕ) → BeginsPieces (reading_by s.collation) c → (front tail : List ℕ)
    → s.allowed (length front) ≡ true → s.allowed (length front + length (p ∷ ps)) ≡ true
    → is_match s (front ++ (p ∷ ps ++ c ∷ tail)) (length front) (length front + length (p ∷ ps)) ≡ true
