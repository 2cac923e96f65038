-- Names with keys, in the order of the keys.
use Rattle.std.specs.Prelude.{ℕ, not, ◌&&◌, List, [], ◌∷◌, ◌++◌, filter, map, if◌then◌else◌}
use Rattle.std.specs.Ordering.{is_gt}
use Rattle.icu_order_levels.specs.ListOrder.{list_order}
use Rattle.icu_order_levels.specs.beginnings.KeyBeginnings.{begins}
use Rattle.icu_index_keys.specs.Borders.{lies_before}
use Rattle.icu_index_keys.specs.declared.borders.Border.{Border}
use Rattle.icu_index_keys.specs.declared.keyed_names.KeyedNames.{KeyedNames}
use Rattle.icu_index_keys.specs.declared.names.Names.{Names}
use Rattle.icu_index_keys.specs.inner.NameEntries.{name_in, keyed_in}
use Rattle.icu_index_keys.specs.inner.Leaves.{entries_of}

-- a key, and a name that has it
abbrev pub Keyed : Type 0
Keyed = List ℕ × List ℕ

-- the names of a list
abbrev pub names_in : List Keyed → List (List ℕ)
names_in xs = map (λ x. x.1) xs

-- a list with one more: before the first whose key is greater, or last
abbrev pub placed : Keyed → List Keyed → List Keyed
placed x [] = x ∷ []
placed x (y ∷ ys) = if is_gt (list_order y.0 x.0) then x ∷ y ∷ ys else y ∷ placed x ys

-- those whose keys stand behind one border and before another
abbrev pub between : Border → Border → List Keyed → List Keyed
between from to xs = filter (λ x. not (lies_before from x.0) && lies_before to x.0) xs

-- those whose keys stand behind a border
abbrev pub behind_border : Border → List Keyed → List Keyed
behind_border from xs = filter (λ x. not (lies_before from x.0)) xs

-- those whose keys begin with some bytes
abbrev pub beginning_with : List ℕ → List Keyed → List Keyed
beginning_with beginning xs = filter (λ x. begins beginning x.0) xs

-- the names with their keys, in order
abbrev pub keyed_names : KeyedNames → List Keyed
keyed_names k = map (keyed_in k.bytes.items) (entries_of k.leaves.items)

-- the names that an iterator has left
abbrev pub names_to_come : Names → List (List ℕ)
names_to_come it = map (name_in it.bytes.now) (it.entries.now ++ entries_of it.leaves.now ++ it.last.now)
