-- Entries in leaves.
use mathlib.Core.Bool.{Bool-set}
use mathlib.Core.HLevel.{×_prop, Unit-prop}
use Rattle.std.specs.Prelude.{◌≡◌, ℕ, zero, suc, ◌-◌, ◌≤◌, ◌<◌, Bool, true, false, not, List, [], ◌∷◌, ◌++◌, drop, filter, length, nat_eq, nat_lt, slice_index_or, slice_range, take, if◌then◌else◌}
use Rattle.std.specs.List.{AllByRecursion, AllByRecursion-prop, flat_map}
use Rattle.std.specs.Global.{Vec}
use Rattle.icu_order_levels.specs.ListOrder.{list_order}
use Rattle.std.specs.Ordering.{is_gt}
use Rattle.icu_index_keys.specs.declared.name_entries.Entry.{Entry}

-- the entries of all leaves in turn
abbrev pub entries_of : List (Vec Entry) → List Entry
entries_of leaves = flat_map (λ l. l.items) leaves

-- no leaf is empty
abbrev pub AreFilled : List (Vec Entry) → Type 0
AreFilled leaves = AllByRecursion (λ l. 0 < length l.items) leaves

-- whether a leaf begins with an entry that passes a test; one without entries does
abbrev pub leaf_before : (Entry → Bool) → List Entry → Bool
leaf_before test [] = true
leaf_before test (e ∷ es) = test e

-- after one that fails a test none passes it
abbrev pub IsParted : {X : Type 0} → (X → Bool) → List X → Type 0
IsParted test [] = Unit {0}
IsParted test (x ∷ xs) = (test x ≡ false → AllByRecursion (λ y. test y ≡ false) xs) × IsParted test xs

-- the element before an index passes a test, if there is one
abbrev pub PassesBefore : {X : Type 0} → (X → Bool) → List X → ℕ → Type 0
PassesBefore {X} test xs i = (d : X) → 0 < i → test (slice_index_or xs (i - 1) d) ≡ true

-- the element at an index fails a test, if there is one
abbrev pub FailsAt : {X : Type 0} → (X → Bool) → List X → ℕ → Type 0
FailsAt {X} test xs i = (d : X) → i < length xs → test (slice_index_or xs i d) ≡ false

-- an index has elements on both sides, of which the one before it passes a test and the one at it fails
pub record IsInside {X : Type 0} (test : X → Bool) (xs : List X) (i : ℕ) : Type 0 where
  pub some : 0 < i
  pub low : i < length xs
  pub passes : PassesBefore test xs i
  pub fails : FailsAt test xs i

-- no key is less than one before it
abbrev pub Rise : List (List ℕ) → Type 0
Rise [] = Unit {0}
Rise (k ∷ ks) = AllByRecursion (λ l. is_gt (list_order k l) ≡ false) ks × Rise ks

-- keys rise in one way
pub Rise-prop : (ks : List (List ℕ)) → IsProp (Rise ks)
Rise-prop [] = Unit-prop
Rise-prop (k ∷ ks) = ×_prop (AllByRecursion-prop (λ l. is_gt (list_order k l) ≡ false) (λ l. Bool-set _ _) ks) (Rise-prop ks)

-- the entries of a leaf, none where there is no such leaf
abbrev pub leaf_at : List (Vec Entry) → ℕ → List Entry
leaf_at [] i = []
leaf_at (l ∷ ls) zero = l.items
leaf_at (l ∷ ls) (suc i) = leaf_at ls i

-- the entries before a place
abbrev pub before : List (Vec Entry) → ℕ → ℕ → List Entry
before leaves leaf place = entries_of (take leaf leaves) ++ take place (leaf_at leaves leaf)

-- the entries behind a place
abbrev pub behind : List (Vec Entry) → ℕ → ℕ → List Entry
behind leaves leaf place = drop place (leaf_at leaves leaf) ++ entries_of (drop (suc leaf) leaves)

-- the entries where of one leaf the first are left, as many as are told
abbrev pub entries_cut : List (Vec Entry) → ℕ → ℕ → List Entry
entries_cut leaves i m = entries_of (take i leaves) ++ (take m (leaf_at leaves i) ++ entries_of (drop (suc i) leaves))

-- a place parts the entries into those that pass a test, and those that fail it
pub record Parts (test : Entry → Bool) (leaves : List (Vec Entry)) (leaf place : ℕ) : Type 0 where
  pub passes : before leaves leaf place ≡ filter test (entries_of leaves)
  pub fails : behind leaves leaf place ≡ filter (λ e. not (test e)) (entries_of leaves)
  pub within : place ≤ length (leaf_at leaves leaf)

-- the entries from one place on up to another, none where the second stands before the first
abbrev pub entries_between : List (Vec Entry) → ℕ → ℕ → ℕ → ℕ → List Entry
entries_between leaves i a j b =
    if nat_eq i j then slice_range (leaf_at leaves i) a b
    else if nat_lt i j then drop a (leaf_at leaves i) ++ entries_of (slice_range leaves (suc i) j) ++ take b (leaf_at leaves j)
    else []
