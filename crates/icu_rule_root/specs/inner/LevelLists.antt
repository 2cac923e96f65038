-- All weights of a level.
use Rattle.std.specs.Prelude.{ℕ, ◌≡◌, Bool, nat_eq, List}
use Rattle.std.specs.List.{list_any}
use Rattle.std.specs.List.Sorted.{IsStrictlyIncreasing}
use Rattle.icu_rule_root.specs.declared.key_window.KeyLevel.{KeyLevel}
use Rattle.icu_rule_root.specs.inner.KeyWindows.{low_parts}

-- the list has the number
abbrev pub has_number : List ℕ → ℕ → Bool
has_number ws w = list_any (nat_eq w) ws

-- the weights of a level in keys, ascending, each once
pub record HasLevelWeights (level : KeyLevel) (keys ws : List ℕ) : Type 0 where
  pub ascending : IsStrictlyIncreasing ws
  pub numbers : (w : ℕ) → has_number ws w ≡ has_number (low_parts level keys) w
