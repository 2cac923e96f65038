-- Names as a database keeps them, and what is made of them.
use Rattle.std.specs.Prelude.{◌≡◌, ℕ, ℤ, pos, int_lt, take, ◌+◌, ◌<◌, Bool, not, ◌&&◌, ◌==◌, if◌then◌else◌, List, [], ◌∷◌, ◌++◌, map, filter, fold, bytes_eq, Option, Some, None}
use Rattle.std.specs.Cmp.Lexicographic.{slice_cmp}
use Rattle.std.specs.List.{AllByRecursion}
use Rattle.std.specs.List.Sorted.{IsPermutation, IsSortedByKey, IsStableByKey}
use Rattle.std.specs.Ordering.{nat_cmp, is_ge, is_lt}
use Rattle.sqlite.specs.Effect.{Database}
use Rattle.sqlite_trees.specs.Tree.{IsAscending, Trees}
use Rattle.sqlite_value.specs.Order.{Row}
use Rattle.sqlite_value.specs.declared.value.Value.TheVariants.{Blob, Int, Null}
use Rattle.icu_index_store.specs.stored_rows.StoredSchemas.{names_schema}

-- a name with its number, its key and its payload
pub record KeptName : Type 0 where
  pub number : ℕ
  pub key : List ℕ
  pub name : List ℕ
  pub payload : List ℕ

-- the row of a name, whose first value is the row's number
abbrev pub row_of : KeptName → Row
row_of k = Int (pos k.number) ∷ Null ∷ Blob k.key ∷ Blob k.name ∷ Blob k.payload ∷ []

-- the row that a query shows of a name
abbrev pub shown_row : KeptName → Row
shown_row k = Int (pos k.number) ∷ Blob k.name ∷ Blob k.payload ∷ []

-- the names stand in the order of their numbers, no two of which are equal
abbrev pub AreNumbered : List KeptName → Type 0
AreNumbered = IsAscending (λ a b. a.number < b.number)

-- the trees have just the rows of these names where names stand
abbrev pub HasRows : Trees → List KeptName → Type 0
HasRows db kept = db 0 ≡ map row_of kept

-- the database has the tables of an index, and just these names in it, as they came in
pub record Keeps (db : Database) (kept : List KeptName) : Type 0 where
  pub schema : db.schema ≡ names_schema
  pub rows : HasRows db.trees kept
  pub numbered : AreNumbered kept

-- the number of the next name: one above the last
abbrev pub next_number : List KeptName → ℕ
next_number kept = fold (λ last k. k.number + 1) 1 kept

-- the names with one more, behind them
abbrev pub with_name : List ℕ → List ℕ → List ℕ → List KeptName → List KeptName
with_name key name payload kept =
    kept ++ record { number = next_number kept; key = key; name = name; payload = payload } ∷ []

-- a name is these bytes, under this key
abbrev pub is_this_name : List ℕ → List ℕ → KeptName → Bool
is_this_name key name k = bytes_eq k.key key && bytes_eq k.name name

-- a name, under another key where it has a number
abbrev pub key_given : ℕ → List ℕ → KeptName → KeptName
key_given number key k = if k.number == number then record k { key = key } else k

-- the names, of which the one of a number is under another key
abbrev pub with_other_key : ℕ → List ℕ → List KeptName → List KeptName
with_other_key number key kept = map (key_given number key) kept

-- the names without those of a key that are some bytes
abbrev pub without_named : List ℕ → List ℕ → List KeptName → List KeptName
without_named key name kept = filter (λ k. not (is_this_name key name k)) kept

-- a key stands between two bounds, the upper of which there may not be
abbrev pub is_key_within : List ℕ → Option (List ℕ) → List ℕ → Bool
is_key_within lower (Some upper) key = is_ge (slice_cmp nat_cmp key lower) && is_lt (slice_cmp nat_cmp key upper)
is_key_within lower None key = is_ge (slice_cmp nat_cmp key lower)

-- so does a name's key
abbrev pub is_within : List ℕ → Option (List ℕ) → KeptName → Bool
is_within lower upper k = is_key_within lower upper k.key

-- the same names in the order of their keys, those of equal keys as they came in
pub record IsListingOf (kept listed : List KeptName) : Type 0 where
  pub permutation : IsPermutation kept listed
  pub ascends : IsSortedByKey (λ k. k.key) (slice_cmp nat_cmp) listed
  pub stable : IsStableByKey (λ k. k.key) (slice_cmp nat_cmp) kept listed

-- what is done to the names of an index
pub data NameStep : Type 0 where
  -- a name is added, by its key, its bytes and its payload
  added : List ℕ → List ℕ → List ℕ → NameStep
  -- the names of a key that are some bytes are removed
  removed : List ℕ → List ℕ → NameStep
  -- the name of a number gets another key
  rekeyed : ℕ → List ℕ → NameStep
  -- a fingerprint and its settings come beside the names, or in the place of others
  first_print : List ℕ → List ℕ → NameStep
  other_print : List ℕ → List ℕ → NameStep

-- the names that a step leaves
abbrev pub left_by : NameStep → List KeptName → List KeptName
left_by (added key name payload) kept = with_name key name payload kept
left_by (removed key name) kept = without_named key name kept
left_by (rekeyed number key) kept = with_other_key number key kept
left_by (first_print fingerprint settings) kept = kept
left_by (other_print fingerprint settings) kept = kept

-- the names that steps leave, one after another
abbrev pub left_by_all : List NameStep → List KeptName → List KeptName
left_by_all steps kept = fold (λ names step. left_by step names) kept steps

-- a name under the key that names have
abbrev pub under_key : (List ℕ → List ℕ) → KeptName → KeptName
under_key key k = record k { key = key k.name }

-- each name has the key that names have
abbrev pub HaveNameKeys : (List ℕ → List ℕ) → List KeptName → Type 0
HaveNameKeys key = AllByRecursion (λ k. k.key ≡ key k.name)

-- the steps that make an index anew: each name gets the key that names have, and then comes another fingerprint
abbrev pub rekeying : (List ℕ → List ℕ) → List ℕ → List ℕ → List KeptName → List NameStep
rekeying key fingerprint settings kept =
    map (λ k. rekeyed k.number (key k.name)) kept ++ other_print fingerprint settings ∷ []

-- a name's number is above a number
abbrev pub is_above : ℤ → KeptName → Bool
is_above number k = int_lt number (pos k.number)

-- the names above a number, as they came in
abbrev pub names_above : ℤ → List KeptName → List KeptName
names_above number kept = filter (is_above number) kept

-- so many of them, from the first on
abbrev pub next_names : ℤ → ℕ → List KeptName → List KeptName
next_names number most kept = take most (names_above number kept)

-- the names, of which those up to a number are under the key that names have
abbrev pub renewed_up_to : (List ℕ → List ℕ) → ℤ → List KeptName → List KeptName
renewed_up_to key number kept = map (λ k. if is_above number k then k else under_key key k) kept
