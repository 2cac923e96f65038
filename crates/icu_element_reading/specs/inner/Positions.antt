-- How far a text is read, and what a step of reading does.
use Rattle.std.specs.Prelude.{ℕ, ◌≡◌, List, ◌++◌}
use Rattle.icu_table_entries.specs.Elements.{Element}
use Rattle.icu_element_matches.specs.Texts.{still_unread}
use Rattle.icu_element_reading.specs.declared.reader.position.Position.{Position}
use Rattle.icu_element_reading.specs.declared.text_reading.TextReading.{TextReading}
use Rattle.icu_element_reading.specs.Reading.{reading_of}
use Rattle.icu_element_reading.specs.LastChars.{recent_chars}
use Rattle.icu_element_reading.specs.TextElements.{Step, last_two, consumed, elements_after}

-- the characters that were consumed last, nearest first
abbrev pub consumed_last : Position → List ℕ
consumed_last p = recent_chars p.recent

-- the text that is left
abbrev pub unread_at : Position → List ℕ
unread_at p = still_unread p.text

-- the elements of the text that is left
abbrev pub left_elements : TextReading → Position → List Element
left_elements reading p = elements_after (reading_of reading) (consumed_last p) (unread_at p)

-- A step at a character was taken: its elements came after those that there were, what it consumes was consumed, and
-- what it leaves is left.
pub record IsStep (s : Step) (c : ℕ) (before : List ℕ) (old new : List Element) (p : Position) : Type 0 where
  pub elements : new ≡ old ++ s.elements
  pub recent : consumed_last p ≡ last_two before (consumed c s)
  pub rest : unread_at p ≡ s.rest
