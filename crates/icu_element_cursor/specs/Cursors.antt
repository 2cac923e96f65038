-- What a cursor over a text still gives.
use Rattle.std.specs.Prelude.{◌≡◌, ℕ, List, ◌∷◌, ◌++◌}
use Rattle.unicode_normalization.specs.Forms.{nfd}
use Rattle.icu_table_entries.specs.Elements.{Element}
use Rattle.icu_element_reading.specs.boundaries.BoundaryTables.{boundary_reading}
use Rattle.icu_element_reading.specs.TextElements.{Reading, elements_after, elements_of}
use Rattle.icu_element_cursor.specs.declared.char_elements.CharElements.{CharElements}
use Rattle.icu_element_cursor.specs.declared.cursor.ElementCursor.{ElementCursor}
use Rattle.icu_element_cursor.specs.declared.cursor_tables.CursorTables.{CursorTables}
use Rattle.icu_element_cursor.specs.declared.ready_elements.ReadyElements.{ReadyElements}
use Rattle.icu_element_cursor.specs.inner.ReadCharacters.{context_read}
use Rattle.icu_element_cursor.specs.inner.AllReady.{all_ready}
use Rattle.icu_element_cursor.specs.inner.Ready.{elements_ready}

-- how texts are read
unfoldable pub cursor_reading : CursorTables → Reading
cursor_reading t = boundary_reading t.places

-- the elements of the text that isn't read, after what was read before it
abbrev pub elements_unread : {T R : Type 0} → (T → List ℕ) → ElementCursor T R → List Element
elements_unread text c = elements_after (cursor_reading c.tables.now) (context_read c.recent) (nfd (text c.text))

-- the elements that it still gives: those that stand ready, and those of the text that isn't read
unfoldable pub gives_with : {T R : Type 0} → (R → List Element) → (T → List ℕ) → ElementCursor T R → List Element
gives_with ready text c = ready c.ready ++ elements_unread text c

-- of a cursor that reads pieces
abbrev pub cursor_gives : {T : Type 0} → (T → List ℕ) → ElementCursor T ReadyElements → List Element
cursor_gives text c = gives_with all_ready text c

-- of a lone one
abbrev pub lone_gives : {T : Type 0} → (T → List ℕ) → ElementCursor T CharElements → List Element
lone_gives text c = gives_with elements_ready text c

-- the elements of a text begin with this primary weight
pub record BeginsWithPrimary (reading : Reading) (text : List ℕ) (primary : ℕ) : Type 0 where
  pub element : Element
  pub rest : List Element
  pub elements : elements_of reading (nfd text) ≡ element ∷ rest
  pub leading : element.primary ≡ primary
