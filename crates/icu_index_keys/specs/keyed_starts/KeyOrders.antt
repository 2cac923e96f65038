-- Keys that ascend (UTS #10, "Compare Sort Keys").
use mathlib.Core.HLevel.{×_prop, Unit-prop}
use Rattle.std.specs.Prelude.{◌≡◌, Bool, false, ℕ, zero, suc, List, [], ◌∷◌, map}
use Rattle.std.specs.List.{AllByRecursion, AllByRecursion-prop}
use Rattle.std.specs.Ordering.{Ordering-set, is_eq}
use Rattle.std.specs.declared.cmp.Ordering.{Ordering}
use Rattle.std.specs.declared.cmp.Ordering.TheVariants.{Less}
use Rattle.icu_order_levels.specs.ListOrder.{list_order}
use Rattle.icu_index_keys.specs.declared.keyed_starts.starts.Start.{Start}

-- how a start's key compares with another
abbrev pub key_order : List ℕ → Start → Ordering
key_order key s = list_order s.key.items key

-- whether there is a start at an index, and its key is the same as another
abbrev pub ties_at : List ℕ → List Start → ℕ → Bool
ties_at key [] i = false
ties_at key (s ∷ ss) zero = is_eq (key_order key s)
ties_at key (s ∷ ss) (suc i) = ties_at key ss i

-- the keys of starts
abbrev pub keys_of : List Start → List (List ℕ)
keys_of starts = map (λ s. s.key.items) starts

-- each key is less than all behind it
abbrev pub Ascend : List (List ℕ) → Type 0
Ascend [] = Unit {0}
Ascend (k ∷ ks) = AllByRecursion (λ l. list_order k l ≡ Less) ks × Ascend ks

-- keys ascend in one way
pub Ascend-prop : (ks : List (List ℕ)) → IsProp (Ascend ks)
Ascend-prop [] = Unit-prop
Ascend-prop (k ∷ ks) = ×_prop (AllByRecursion-prop (λ l. list_order k l ≡ Less) (λ l. Ordering-set _ _) ks) (Ascend-prop ks)
