-- Parts of a buffer.
use Rattle.std.specs.Prelude.{ℕ, ◌&&◌, Bool, List, [], ◌∷◌, length, nat_eq, nat_le, slice_range, if◌then◌else◌}

-- the bytes from a start up to an end, none where there are no such bytes
abbrev pub key_part : List ℕ → ℕ → ℕ → List ℕ
key_part bytes start end = if nat_le start end && nat_le end (length bytes) then slice_range bytes start end else []

-- whether numbers ascend from a start to the last, which is this one
abbrev pub ascends_to : ℕ → List ℕ → ℕ → Bool
ascends_to start [] last = nat_eq start last
ascends_to start (end ∷ ends) last = nat_le start end && ascends_to end ends last
