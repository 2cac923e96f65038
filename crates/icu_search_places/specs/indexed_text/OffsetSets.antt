-- Sets of offsets.
use Rattle.std.specs.Prelude.{ℕ, ◌==◌, Bool, List}
use Rattle.std.specs.List.{list_any}

-- the offset is one of these
abbrev pub has_offset : List ℕ → ℕ → Bool
has_offset offsets offset = list_any (λ o. o == offset) offsets
