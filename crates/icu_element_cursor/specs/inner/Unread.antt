-- All that a cursor still gives is of the text that isn't read.
use Rattle.std.specs.Prelude.{◌≡◌, ℕ, List, []}
use Rattle.icu_table_entries.specs.Elements.{Element}
use Rattle.icu_element_cursor.specs.declared.cursor.ElementCursor.{ElementCursor}
use Rattle.icu_element_cursor.specs.declared.ready_elements.ReadyElements.{ReadyElements}
use Rattle.icu_element_cursor.specs.Cursors.{cursor_gives}
use Rattle.icu_element_cursor.specs.inner.AllReady.{all_ready}

-- no element that was read is left
abbrev pub HasNothingReady : {T R : Type 0} → (R → List Element) → ElementCursor T R → Type 0
HasNothingReady ready c = ready c.ready ≡ []

-- nothing of the text was read
pub record HasReadNothing {T : Type 0} (text : T → List ℕ) (old new : ElementCursor T ReadyElements) : Type 0 where
  pub gives : cursor_gives text new ≡ cursor_gives text old
  pub nothing : HasNothingReady all_ready new
  pub text_is : new.text ≡ old.text
