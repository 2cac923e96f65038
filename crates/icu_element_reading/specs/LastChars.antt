-- The characters of a text that were consumed last, which prefixes look back at.
use Rattle.std.specs.Prelude.{ℕ, List, take}
use Rattle.icu_element_reading.specs.declared.reader.recent.RecentChars.{RecentChars}

-- the last characters that were consumed, two at most, nearest first
unfoldable pub recent_chars : RecentChars → List ℕ
recent_chars r = take r.len r.chars
