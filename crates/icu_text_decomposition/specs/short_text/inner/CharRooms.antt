-- Room for the characters of a text.
use Rattle.std.specs.Prelude.{ℕ, List, drop, take}
use Rattle.icu_text_decomposition.specs.declared.short_text.char_room.CharRoom.{CharRoom}

-- the characters from one index to another
abbrev pub chars_between : {room : ℕ} → ℕ → ℕ → CharRoom room → List ℕ
chars_between from to r = drop from (take to r.chars)
