-- What a search finds, as contracts name it.
use Rattle.std.specs.Prelude.{◌≡◌, ◌⊎◌, ℕ, ◌-◌, ◌≤◌, true, false, List, [], length, drop, slice_range}
use Rattle.std.specs.List.{AllPairs, Any, Contains}
use Rattle.std.specs.declared.cmp.Ordering.TheVariants.{Equal}
use Rattle.icu_table_provider.specs.well_formed.WellFormedTables.{IsWellFormedTables}
use Rattle.icu_element_reading.specs.TextElementLaws.{IsText}
use Rattle.icu_order_texts.specs.TextOrder.{reading_by, text_order, text_key}
use Rattle.icu_options.specs.declared.settings.Strength.{Strength}
use Rattle.icu_order_texts.specs.text_laws.OrderLaws.{strength_rank, with_strength, AreEquivalent}
use Rattle.icu_search_places.specs.LeastMatches.{Span, span, HoldsSpan, StandsApart, ReachesInto}
use Rattle.icu_search_places.specs.SearchPlaces.{is_place}
use Rattle.icu_search_places.specs.Searches.{Search, least, found}

-- the characters of a part
abbrev pub part : List ℕ → Span → List ℕ
part text m = slice_range text m.start m.stop

-- A match: a part between allowed places, the second of the text from the first on, that is equal to the pattern
pub record IsMatch (s : Search) (text : List ℕ) (m : Span) : Type 0 where
  pub ordered : m.start ≤ m.stop
  pub within : m.stop ≤ length text
  pub allowed_start : s.allowed m.start ≡ true
  pub allowed_stop : s.allowed m.stop ≡ true
  pub start_place : is_place (reading_by s.collation) text m.start ≡ true
  pub stop_place : is_place (reading_by s.collation) (drop m.start text) (m.stop - m.start) ≡ true
  pub equal : text_order s.collation (part text m) s.pattern ≡ Equal

-- what is found are matches
abbrev pub FoundPartsMatch : Type 0
FoundPartsMatch = (s : Search) (text : List ℕ) (m : Span) → Contains (found s text) m → IsMatch s text m

-- and they have the pattern's key, by well-formed tables
abbrev pub FoundPartsHaveThePatternsKey : Type 0
FoundPartsHaveThePatternsKey =
    (s : Search) → IsWellFormedTables s.collation.tables → (text : List ℕ) → IsText text → IsText s.pattern
    → (m : Span) → Contains (found s text) m → text_key s.collation (part text m) ≡ text_key s.collation s.pattern

-- where nothing is found no part matches
abbrev pub NothingFoundMeansNoMatch : Type 0
NothingFoundMeansNoMatch = (s : Search) (text : List ℕ) → found s text ≡ [] → (m : Span) → ¬ (IsMatch s text m)

-- each match holds a least one, and each least one is found, or begins inside of one that is found
pub record MatchesAreMet (s : Search) (text : List ℕ) : Type 0 where
  pub held : (m : Span) → IsMatch s text m → Any (HoldsSpan m) (least s text)
  pub others : (m : Span) → Contains (least s text) m → Contains (found s text) m ⊎ Any (λ f. ReachesInto f m) (found s text)

-- so it is whatever is searched for, in any text
abbrev pub EveryMatchIsMet : Type 0
EveryMatchIsMet = (s : Search) (text : List ℕ) → MatchesAreMet s text

-- what is found stands apart, from left to right
abbrev pub FoundPartsStandApart : Type 0
FoundPartsStandApart = (s : Search) (text : List ℕ) → AllPairs StandsApart (found s text)

-- the whole of a text is a match of itself
abbrev pub TextsMatchThemselves : Type 0
TextsMatchThemselves =
    (s : Search) → IsWellFormedTables s.collation.tables → IsText s.pattern → s.allowed 0 ≡ true → s.allowed (length s.pattern) ≡ true
    → IsMatch s s.pattern (span 0 (length s.pattern))

-- patterns that are equal find the same
abbrev pub EqualPatternsFindTheSame : Type 0
EqualPatternsFindTheSame =
    (s : Search) → IsWellFormedTables s.collation.tables → (other : List ℕ) → IsText s.pattern → IsText other
    → text_order s.collation s.pattern other ≡ Equal → (text : List ℕ) → IsText text
    → found s text ≡ found (record s { pattern = other }) text

-- patterns that are canonically equivalent find the same, by any collation
abbrev pub EquivalentPatternsFindTheSame : Type 0
EquivalentPatternsFindTheSame =
    (s : Search) (other : List ℕ) → AreEquivalent s.pattern other → (text : List ℕ) → found s text ≡ found (record s { pattern = other }) text

-- the search at another strength
abbrev pub at_strength : Strength → Search → Search
at_strength strength s = record s { collation = with_strength s.collation strength }

-- without a case level a match is one at each lower strength
abbrev pub LowerStrengthsKeepMatches : Type 0
LowerStrengthsKeepMatches =
    (s : Search) (lower : Strength) → s.collation.settings.case_level ≡ false
    → strength_rank lower ≤ strength_rank s.collation.settings.strength
    → (text : List ℕ) (m : Span) → IsMatch s text m → IsMatch (at_strength lower s) text m
