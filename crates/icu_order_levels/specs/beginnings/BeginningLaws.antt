-- The laws of bytes that begin with others, as contracts name them.
use Rattle.std.specs.Prelude.{◌≡◌, false, ℕ, List, ◌++◌, map}
use Rattle.std.specs.Ordering.{is_lt}
use Rattle.icu_order_levels.specs.ListOrder.{list_order, IsUnder}
use Rattle.icu_order_levels.specs.Primaries.{Compression, primary_level}
use Rattle.icu_order_levels.specs.Premises.{ArePrimaries, IsPrimaryList}
use Rattle.icu_order_levels.specs.beginnings.KeyBeginnings.{AreBytes, least_above, begins, stands_between}

-- bytes begin with others exactly if they stand between these and what is above all that begin with these
abbrev pub BeginningsStandTogether : Type 0
BeginningsStandTogether = (ps bs : List ℕ) → AreBytes ps → AreBytes bs → begins ps bs ≡ stands_between ps (least_above ps) bs

-- the weights that are written, and those that begin them; `more` is what follows them in a key: nothing, or bytes that
-- begin below 02
pub record PrimariesAreKept (c : Compression) (ps ws more : List ℕ) : Type 0 where
  pub begin : begins (primary_level c 0 ps) (primary_level c 0 ws ++ more) ≡ begins (map c.reorder ps) (map c.reorder ws)
  pub order : is_lt (list_order (primary_level c 0 ws ++ more) (primary_level c 0 ps)) ≡ is_lt (list_order (map c.reorder ws) (map c.reorder ps))

-- A key begins with the primary level of another exactly if its primaries, reordered, begin with those of the other. It
-- stands below that level exactly if its primaries do
abbrev pub BytesBeginAsPrimaries : (ℕ → Type 0) → Type 0
BytesBeginAsPrimaries IsReachable =
    (c : Compression) (numeric : ℕ) → ArePrimaries c numeric IsReachable
    → (ps ws more : List ℕ) → IsPrimaryList numeric IsReachable false ps → IsPrimaryList numeric IsReachable false ws
    → IsUnder 2 more → PrimariesAreKept c ps ws more
