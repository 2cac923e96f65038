-- Bytes that stand in a room of their own.
use Rattle.std.specs.Prelude.{ℕ, List, take}
use Rattle.icu_element_matches.specs.declared.steady_numbers.number_room.NumberRoom.{NumberRoom}

-- the bytes
unfoldable pub room_bytes : NumberRoom → List ℕ
room_bytes r = take r.len r.bytes
