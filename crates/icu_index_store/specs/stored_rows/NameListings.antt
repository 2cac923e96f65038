-- What is listed of names that were added and removed, by an order of names.
use Rattle.std.specs.Prelude.{◌≡◌, ℕ, not, List, [], ◌∷◌, ◌++◌, filter, fold, map, bytes_eq, Option}
use Rattle.std.specs.Cmp.Lexicographic.{slice_cmp}
use Rattle.std.specs.List.{AllZip}
use Rattle.std.specs.List.Sorted.{IsPermutation, IsSortedByKey, IsStableByKey}
use Rattle.std.specs.Ordering.{nat_cmp}
use Rattle.std.specs.declared.cmp.Ordering.{Ordering}
use Rattle.sqlite.specs.Held.{Held, state}
use Rattle.sqlite.specs.State.{Shown}
use Rattle.sqlite_trees.specs.declared.store.Store.{Ghosts}
use Rattle.sqlite_value.specs.Order.{Row, column}
use Rattle.sqlite_value.specs.declared.value.Value.TheVariants.{Blob}
use Rattle.icu_index_store.specs.stored_names.StatementTexts.{all_text, range_parameters, range_text}
use Rattle.icu_index_store.specs.stored_rows.KeptNames.{HaveNameKeys, KeptName, NameStep, added, removed, Keeps, is_key_within, rekeying}
use Rattle.icu_index_store.specs.stored_rows.RowLaws.{RunInTurn}

-- a name, and what is kept with it
abbrev pub Named : Type 0
Named = List ℕ × List ℕ

-- a name that a database keeps, as a name
abbrev pub named : KeptName → Named
named k = (k.name, k.payload)

-- what is done to names
pub data Change : Type 0 where
  -- a name is added, with what is kept with it
  add : List ℕ → List ℕ → Change
  -- all names that are these bytes are removed
  remove : List ℕ → Change

-- the names that a change leaves, as they came in
abbrev pub left_after : Change → List Named → List Named
left_after (add name payload) names = names ++ (name, payload) ∷ []
left_after (remove name) names = filter (λ n. not (bytes_eq n.0 name)) names

-- the names that changes leave, one after another
abbrev pub left_after_all : List Change → List Named → List Named
left_after_all changes names = fold (λ left change. left_after change left) names changes

-- the statement of a change, where names have keys
abbrev pub step_of : (List ℕ → List ℕ) → Change → NameStep
step_of key (add name payload) = added (key name) name payload
step_of key (remove name) = removed (key name) name

-- keys compare as an order of names does
abbrev pub KeysOrder : (List ℕ → List ℕ) → (List ℕ → List ℕ → Ordering) → Type 0
KeysOrder key order = (x y : List ℕ) → slice_cmp nat_cmp (key x) (key y) ≡ order x y

-- the same names in order, those that compare Equal as they came in
pub record IsNameListing (order : List ℕ → List ℕ → Ordering) (names listed : List Named) : Type 0 where
  pub permutation : IsPermutation names listed
  pub ascends : IsSortedByKey (λ n. n.0) order listed
  pub stable : IsStableByKey (λ n. n.0) order names listed

-- a row shows a name and what is kept with it
abbrev pub ShowsName : Row → Named → Type 0
ShowsName row n = (column row 1 ≡ Blob n.0) × (column row 2 ≡ Blob n.1)

-- the rows show some names in order
abbrev pub ShowInOrder : (List ℕ → List ℕ → Ordering) → List Named → List Row → Type 0
ShowInOrder order names rows = (listed : List Named) × IsNameListing order names listed × AllZip ShowsName rows listed

module _ {S : Type 0} (g : Ghosts S) where
  -- After changes to an index whose names have their keys, the query for all names shows just those that were there or
  -- were added, and not removed, in order. Those that compare Equal stand as they came in. The query for a range shows
  -- just those whose keys stand between its bounds.
  pub record ChangesAreListed : Type 0 where
    pub all : (key : List ℕ → List ℕ) (order : List ℕ → List ℕ → Ordering) → KeysOrder key order
        → (kept : List KeptName) (changes : List Change) (old mid new : Held S) (rows : List Row)
        → Keeps (state g old).now kept → HaveNameKeys key kept → RunInTurn g (map (step_of key) changes) old mid
        → Shown all_text [] (state g mid) (state g new) rows
        → ShowInOrder order (left_after_all changes (map named kept)) rows
    pub ranges : (key : List ℕ → List ℕ) (order : List ℕ → List ℕ → Ordering) → KeysOrder key order
        → (kept : List KeptName) (changes : List Change) (old mid new : Held S) (lower : List ℕ) (upper : Option (List ℕ)) (rows : List Row)
        → Keeps (state g old).now kept → HaveNameKeys key kept → RunInTurn g (map (step_of key) changes) old mid
        → Shown (range_text upper) (range_parameters lower upper) (state g mid) (state g new) rows
        → ShowInOrder order (filter (λ n. is_key_within lower upper (key n.0)) (left_after_all changes (map named kept))) rows

  -- So do the queries after an index was made anew and changed then, whatever keys its names had before.
  pub record RebuildsAreListed : Type 0 where
    pub all : (key : List ℕ → List ℕ) (order : List ℕ → List ℕ → Ordering) → KeysOrder key order
        → (fingerprint settings : List ℕ) (kept : List KeptName) (changes : List Change) (old anew mid new : Held S) (rows : List Row)
        → Keeps (state g old).now kept → RunInTurn g (rekeying key fingerprint settings kept) old anew
        → RunInTurn g (map (step_of key) changes) anew mid → Shown all_text [] (state g mid) (state g new) rows
        → ShowInOrder order (left_after_all changes (map named kept)) rows
    pub ranges : (key : List ℕ → List ℕ) (order : List ℕ → List ℕ → Ordering) → KeysOrder key order
        → (fingerprint settings : List ℕ) (kept : List KeptName) (changes : List Change) (old anew mid new : Held S) (lower : List ℕ) (upper : Option (List ℕ)) (rows : List Row)
        → Keeps (state g old).now kept → RunInTurn g (rekeying key fingerprint settings kept) old anew
        → RunInTurn g (map (step_of key) changes) anew mid
        → Shown (range_text upper) (range_parameters lower upper) (state g mid) (state g new) rows
        → ShowInOrder order (filter (λ n. is_key_within lower upper (key n.0)) (left_after_all changes (map named kept))) rows
