-- The numbers that sort keys of lines begin with.
use Rattle.std.specs.Prelude.{◌≡◌, ℕ, List, map, take}
use Rattle.std.specs.List.{AllByRecursion}
use Rattle.icu_order_levels.specs.beginnings.KeyBeginnings.{AreBytes}
use Rattle.icu_index_keys.specs.inner.NameEntries.{prefix_of}

-- numbers are what the keys of lines begin with: their first eight bytes, the first one highest
pub record HaveFronts (key : List ℕ → List ℕ) (lines : List (List ℕ)) (fronts : List ℕ) : Type 0 where
  pub numbers : fronts ≡ map (λ line. prefix_of (key line)) lines
  pub bytes : AllByRecursion (λ line. AreBytes (take 8 (key line))) lines
