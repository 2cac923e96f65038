-- What a call leaves that writes bytes to the front of room.
use Rattle.std.specs.Prelude.{◌≡◌, ℕ, ◌-◌, ◌^◌, List, Option, None, Some, Result, Ok, Err, length, min, take}
use Rattle.icu_key_writers.specs.declared.error.SortKeyError.{SortKeyError}
use Rattle.icu_key_writers.specs.declared.error.SortKeyError.TheVariants as errors
use Rattle.icu_key_writers.specs.declared.slice_sink.TooSmall as sinks
use Rattle.collate_c.specs.declared.statuses.Failure.{Failure}
use Rattle.collate_c.specs.declared.statuses.Failure.TheVariants.{NoBound, NoMemory, TooSmall}

-- how much room bytes take: as many, or the greatest `usize` if they are more
abbrev pub room_for : List ℕ → ℕ
room_for bytes = min (length bytes) (2 ^ 64 - 1)

-- bytes are at the front of room, and `needed` is their number
abbrev pub IsAtFront : List ℕ → ℕ → List ℕ → Type 0
IsAtFront bytes needed out = (needed ≡ length bytes) × (take needed out ≡ bytes)

-- the bytes are at the front, and `needed` is their number; or they don't fit, and `needed` is the room that they take;
-- or memory ran out
abbrev pub WritesFront : List ℕ → Result Unit Failure → ℕ → List ℕ → Type 0
WritesFront bytes (Ok v) needed out = IsAtFront bytes needed out
WritesFront bytes (Err TooSmall) needed out = needed ≡ room_for bytes
WritesFront bytes (Err NoMemory) needed out = Unit {0}
WritesFront bytes (Err _) needed out = ⊥

-- bytes are there, and at the front of room
abbrev pub HasBound : Option (List ℕ) → ℕ → List ℕ → Type 0
HasBound (Some bytes) needed out = IsAtFront bytes needed out
HasBound None needed out = ⊥

-- bytes are there, and take this much room
abbrev pub BoundTakes : Option (List ℕ) → ℕ → Type 0
BoundTakes (Some bytes) needed = needed ≡ room_for bytes
BoundTakes None needed = ⊥

-- bytes that there may be none of are written as others are; that there are none is an outcome of its own
abbrev pub WritesBound : Option (List ℕ) → Result Unit Failure → ℕ → List ℕ → Type 0
WritesBound (Some bytes) outcome needed out = WritesFront bytes outcome needed out
WritesBound None (Err NoBound) needed out = Unit {0}
WritesBound None (Err NoMemory) needed out = Unit {0}
WritesBound None _ needed out = ⊥

-- what a slice as a sink returned, as an outcome and a length
abbrev pub KeyOutcome : Result ℕ (SortKeyError sinks.TooSmall) → Result Unit Failure → ℕ → Type 0
KeyOutcome (Ok n) (Ok v) needed = needed ≡ n
KeyOutcome (Err (errors.Sink e)) (Err TooSmall) needed = needed ≡ e.length
KeyOutcome (Err errors.NoMemory) (Err NoMemory) needed = Unit {0}
KeyOutcome _ _ needed = ⊥
