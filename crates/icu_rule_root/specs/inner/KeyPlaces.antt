-- Places among ascending keys.
use Rattle.std.specs.Prelude.{ℕ, ◌-◌, ◌<◌, ◌≤◌, List, length, slice_index}
use Rattle.icu_rule_root.specs.declared.key_window.KeyLevel.{KeyLevel}
use Rattle.icu_rule_root.specs.declared.key_window.KeyWindow.{KeyWindow}
use Rattle.icu_rule_root.specs.inner.KeyWindows.{key_to}

-- the numbers of a window lie in their order, and are weights of 32 bits from its base on
pub record IsWindow (window : KeyWindow) : Type 0 where
  pub base : window.base ≤ window.low
  pub low : window.low ≤ window.last
  pub width : window.last - window.base < 0xFFFFFFFF

-- so many keys come to no more than a number, and all others to more
pub record IsKeyCount (level : KeyLevel) (keys : List ℕ) (most count : ℕ) : Type 0 where
  pub inside : count ≤ length keys
  pub before : (i : ℕ) → i < count → key_to level (slice_index keys i) ≤ most
  pub behind : (i : ℕ) → count ≤ i → i < length keys → most < key_to level (slice_index keys i)
