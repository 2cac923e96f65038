-- What a cursor over characters still gives.
use Rattle.std.specs.Prelude.{◌≡◌, ℕ, List, [], ◌∷◌, ◌++◌, Option, Some, None}
use Rattle.unicode_normalization.specs.Forms.{nfd}
use Rattle.icu_table_entries.specs.Elements.{Element}
use Rattle.icu_element_reading.specs.TextElements.{Reading, elements_after}
use Rattle.icu_element_cursor.specs.declared.facts_cursor.FactsCursor.{FactsCursor}
use Rattle.icu_element_cursor.specs.Cursors.{cursor_reading}
use Rattle.icu_element_cursor.specs.inner.Ready.{elements_ready}

-- after any characters: the elements that stand ready, and those of the text that isn't read
unfoldable pub facts_give : {T : Type 0} → (T → List ℕ) → FactsCursor T → List ℕ → List Element
facts_give text c before = elements_ready c.ready ++ elements_after (cursor_reading c.tables.now) before (nfd (text c.text))

-- how a cursor reads
abbrev pub facts_reading : {T : Type 0} → FactsCursor T → Reading
facts_reading c = cursor_reading c.tables.now

-- whatever stands before, this element comes first, and then what the cursor gives after some characters; it reads as
-- before
abbrev pub GoesOn : {T : Type 0} → (T → List ℕ) → FactsCursor T → Element → FactsCursor T → Type 0
GoesOn text old e new =
    (facts_reading new ≡ facts_reading old)
    × ((before : List ℕ) → (after : List ℕ) × (facts_give text old before ≡ e ∷ facts_give text new after))

-- so is it with the next element; or the cursor gives none
abbrev pub GivesNextOrEnds : {T : Type 0} → (T → List ℕ) → FactsCursor T → Option Element → FactsCursor T → Type 0
GivesNextOrEnds text old None new = (facts_reading new ≡ facts_reading old) × ((before : List ℕ) → facts_give text old before ≡ [])
GivesNextOrEnds text old (Some e) new = GoesOn text old e new

-- the cursor gives the elements of a text, after any characters
abbrev pub ReadsText : {T : Type 0} → (T → List ℕ) → FactsCursor T → T → Type 0
ReadsText text c rest = (before : List ℕ) → facts_give text c before ≡ elements_after (facts_reading c) before (nfd (text rest))
