-- What a slice takes: bytes are put over what it holds, from an offset on.
use Rattle.std.specs.Prelude.{◌≡◌, ℕ, ◌+◌, ◌-◌, ◌<◌, ◌≤◌, ◌^◌, ◌⊎◌, List, [], ◌++◌, length, min, take, drop, nat_le, if◌then◌else◌, Result, Ok, Err}
use Rattle.icu_key_writers.specs.declared.slice_sink.TooSmall.{TooSmall}
use Rattle.icu_key_writers.specs.Sinks.{TakesBeginning}

-- a list with bytes put over it, from an offset on
abbrev pub put_over : List ℕ → ℕ → List ℕ → List ℕ
put_over old at bytes = take at old ++ (bytes ++ drop (at + length bytes) old)

-- the bytes fit at the offset, or there are none
abbrev pub HasRoom : List ℕ → ℕ → List ℕ → Type 0
HasRoom old at bytes = (at + length bytes ≤ length old) ⊎ (bytes ≡ [])

-- Bytes handed to a slice at an offset: all are put there where they fit, else some beginning that fits, and the
-- offset grows by their number, to the greatest `usize` at most
pub record SliceTakes (old : List ℕ) (at : ℕ) (bytes : List ℕ) (new : List ℕ) (next : ℕ) : Type 0 where
  pub moves : next ≡ min (at + length bytes) (2 ^ 64 - 1)
  pub fits : at + length bytes ≤ length old → new ≡ put_over old at bytes
  pub begins : TakesBeginning (λ front. HasRoom old at front × (new ≡ put_over old at front)) bytes

-- what is handed to a slice, which is never longer than the greatest `usize`
abbrev pub SliceTook : List ℕ → ℕ → List ℕ → List ℕ → ℕ → Type 0
SliceTook old at bytes new next = length old < 2 ^ 64 → SliceTakes old at bytes new next

-- the offset, or that the slice is shorter than it
abbrev pub slice_finish : List ℕ → ℕ → Result ℕ TooSmall
slice_finish slice offset = if nat_le offset (length slice) then Ok offset else Err (record { length = offset })
