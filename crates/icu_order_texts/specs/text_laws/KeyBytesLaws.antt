-- The law of the bytes that sinks hold once a key was written to them, as contracts name it: `holds` says which bytes
-- a sink holds.
use Rattle.std.specs.Prelude.{ℕ, ◌≡◌, ◌<◌, ◌^◌, List, ◌++◌, length, drop, Ok}
use Rattle.icu_key_writers.specs.Sinks.{SinkEffects}
use Rattle.icu_key_writers.specs.KeyWrites.{WritesKey}

-- a sink to which a key was written whole holds what it held, and then the key
abbrev pub HoldsKeyAfter : {X St O E : Type 0} → SinkEffects X St O E → (X → List ℕ) → Type 0
HoldsKeyAfter {X} {St} {O} effects holds =
    (x y : X) (key : List ℕ) (output : O) → WritesKey effects x key (Ok output) y → holds y ≡ holds x ++ key

-- the output is the key's length, and the slice holds the key and then what it held there
pub record StandsInFront (key old : List ℕ) (output : ℕ) (new : List ℕ) : Type 0 where
  pub counted : output ≡ length key
  pub bytes : new ≡ key ++ drop (length key) old

-- A slice to which a key was written whole holds the key at its front. Slices have less than 2^63 bytes
abbrev pub HoldsKeyInFront : {X St E : Type 0} → SinkEffects X St ℕ E → (X → List ℕ) → Type 0
HoldsKeyInFront {X} effects holds =
    (x y : X) (key : List ℕ) (output : ℕ) → length (holds x) < 2 ^ 63 → WritesKey effects x key (Ok output) y
    → StandsInFront key (holds x) output (holds y)
