-- What is left of a text in an array.
use Rattle.std.specs.Prelude.{ℕ, List}
use Rattle.icu_text_decomposition.specs.declared.short_text.array_text.ArrayText.{ArrayText}
use Rattle.icu_text_decomposition.specs.short_text.inner.CharRooms.{chars_between}

-- the characters that are still to be read
unfoldable pub array_unread : {room : ℕ} → ArrayText room → List ℕ
array_unread t = chars_between t.next t.end t.room

-- how many of them were passed over
abbrev pub array_passed : {room : ℕ} → ArrayText room → ℕ
array_passed t = t.passed
