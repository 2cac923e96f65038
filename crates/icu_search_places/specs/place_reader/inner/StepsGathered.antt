-- What was read of a decomposed text, and what is left of it.
use Rattle.std.specs.Prelude.{◌≡◌, ℕ, ◌+◌, ◌<◌, ◌≤◌, true, false, List, ◌∷◌, ◌++◌, Option, length, bytes_eq}
use Rattle.std.specs.List.{list_any}
use Rattle.unicode_normalization.specs.Order.{is_starter}
use Rattle.icu_table_entries.specs.Elements.{Element}
use Rattle.icu_element_reading.specs.TextElements.{Reading, elements_of, elements_after}
use Rattle.icu_element_reading.specs.StepReaders.{HasLeft, reading_in}
use Rattle.icu_search_places.specs.SearchPlaces.{reaches, rests_along}
use Rattle.icu_search_places.specs.declared.place_reader.gathered_steps.GatheredSteps.{GatheredSteps}

-- what is left ends with a starter and all that follows it, and the part before that starter is read on to its end
pub record LeavesBehind (reading : Reading) (gathered : List Element) (before rest front : List ℕ) (x : ℕ) (back : List ℕ) : Type 0 where
  pub mid : List ℕ
  pub rest_is : rest ≡ mid ++ x ∷ back
  pub elements : elements_of reading front ≡ gathered ++ elements_after reading before mid

-- After some steps of reading a text, which gave these elements, these characters are left, after those before them.
-- What isn't longer is still to be come to, if it is come to at all. No starter that is left was parted from what
-- follows it.
pub record StillComesTo (reading : Reading) (text : List ℕ) (gathered : List Element) (before rest : List ℕ) : Type 0 where
  pub reach : (left : List ℕ) → length left ≤ length rest → reaches reading text left ≡ list_any (bytes_eq left) (rests_along rest reading before rest)
  pub behind : (front : List ℕ) (x : ℕ) (back : List ℕ) → text ≡ front ++ x ∷ back → is_starter x ≡ true → length (x ∷ back) ≤ length rest
      → LeavesBehind reading gathered before rest front x back
  pub all : elements_of reading text ≡ gathered ++ elements_after reading before rest

-- none of the lists that are longer than this and no longer than that is come to
abbrev pub SkipsBetween : Reading → List ℕ → ℕ → ℕ → Type 0
SkipsBetween reading text low high = (l : List ℕ) → low < length l → length l ≤ high → reaches reading text l ≡ false

-- so many characters of a decomposed text are left
pub record LeavesUnread {I : Type 0} (steps : I → Option ℕ → I → Type 0) (g : GatheredSteps I) (text : List ℕ) (n : ℕ) : Type 0 where
  pub before : List ℕ
  pub rest : List ℕ
  pub left : HasLeft steps g.steps before rest
  pub reads : StillComesTo (reading_in g.steps) text g.elements.items before rest
  pub length_is : length rest ≡ n

-- a step consumed so many characters after its first, and none between is come to
pub record ReadsStep {I : Type 0} (steps : I → Option ℕ → I → Type 0) (g : GatheredSteps I) (text : List ℕ) (n count : ℕ) : Type 0 where
  pub unread : ℕ
  pub read : LeavesUnread steps g text unread
  pub unread_is : unread + count + 1 ≡ n
  pub skips : (l : List ℕ) → unread < length l → length l < n → reaches (reading_in g.steps) text l ≡ false

-- so many characters were owed and consumed, and some more; none between is come to
pub record ReadsPast {I : Type 0} (steps : I → Option ℕ → I → Type 0) (g : GatheredSteps I) (text : List ℕ) (n owed more : ℕ) : Type 0 where
  pub unread : ℕ
  pub read : LeavesUnread steps g text unread
  pub unread_is : unread + more + owed ≡ n
  pub skips : SkipsBetween (reading_in g.steps) text unread (unread + more)

-- All but so many characters of a decomposed text were asked for, and read. Some that weren't may have been consumed
-- with them.
pub record HasReadTo {I : Type 0} (steps : I → Option ℕ → I → Type 0) (g : GatheredSteps I) (text : List ℕ) (n : ℕ) : Type 0 where
  pub unread : ℕ
  pub read : LeavesUnread steps g text unread
  pub ahead_is : unread + g.ahead ≡ n
  pub skips : SkipsBetween (reading_in g.steps) text unread n
