-- The primary weights with which texts begin, below the lead bytes, which alone a reordering changes (UTS #35 part 5,
-- "Collation Reordering").
use Rattle.std.specs.Prelude.{◌≡◌, ℕ, ◌%◌, ◌/◌, ◌<◌, ◌≤◌, Bool, true, false, not, ◌&&◌, ◌||◌, ◌==◌, nat_lt, nat_le, slice_index_or, List, [], ◌∷◌, ◌++◌, if◌then◌else◌, length, map, take}
use Rattle.unicode_normalization.specs.Forms.{nfd}
use Rattle.icu_table_entries.specs.Elements.{Element}
use Rattle.icu_table_entries.specs.ElementConditions.{separator_primary}
use Rattle.icu_table_provider.specs.CollatorTables.{reorder}
use Rattle.icu_order_texts.specs.weighting.Collations.{Collation}
use Rattle.icu_order_texts.specs.TextOrder.{lists_by}

-- a primary weight counts: there is one, and elements that have it aren't variable
abbrev pub counts : ℕ → ℕ → Bool
counts last p = not (p == 0 || (nat_lt separator_primary p && nat_le p last))

-- those of elements that count
unfoldable pub counted_primaries : ℕ → List Element → List ℕ
counted_primaries last [] = []
counted_primaries last (x ∷ xs) = if counts last x.primary then x.primary ∷ counted_primaries last xs else counted_primaries last xs

-- what of a primary weight no reordering changes
abbrev pub low : ℕ → ℕ
low p = p % 0x1000000

-- the list begins with this one
abbrev pub BeginsWith : List ℕ → List ℕ → Type 0
BeginsWith front whole = take (length front) whole ≡ front

-- no list with which the primary weights of a text begin is compared as one that begins so
abbrev pub BeginsOtherwise : Collation → List ℕ → List ℕ → Type 0
BeginsOtherwise c text front =
    (part rest more : List ℕ) → (lists_by c (nfd text)).primaries ≡ part ++ rest
    → (map (reorder c.tables) part ≡ map (reorder c.tables) (front ++ more) → ⊥)

-- ---- weights of one byte that a reordering keeps apart

-- the weight has one byte, and there is a mark for it
abbrev pub is_lone : List Bool → ℕ → Bool
is_lone marks p = low p == 0 && slice_index_or marks (p / 0x1000000) false

-- two weights that are so are compared as different ones
abbrev pub AreApart : Collation → List Bool → Type 0
AreApart c marks =
    (p q : ℕ) → is_lone marks p ≡ true → is_lone marks q ≡ true → (p ≡ q → ⊥) → (reorder c.tables p ≡ reorder c.tables q → ⊥)

-- they are, and none is compared as greater than the last one
pub record RiseTo (c : Collation) (marks : List Bool) (last : ℕ) : Type 0 where
  pub apart : AreApart c marks
  pub up_to : (p : ℕ) → is_lone marks p ≡ true → reorder c.tables p ≤ reorder c.tables last

-- the first weight is compared as less than the second
abbrev pub IsComparedAsLess : Collation → ℕ × ℕ → Type 0
IsComparedAsLess c pair = reorder c.tables pair.0 < reorder c.tables pair.1
