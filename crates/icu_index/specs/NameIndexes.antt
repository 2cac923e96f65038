-- What an index of names holds, and what its iterator has left.
use Rattle.std.specs.Prelude.{ℕ, List}
use Rattle.std.specs.declared.cmp.Ordering.{Ordering}
use Rattle.icu_order_texts.specs.Collations.{Collation}
use Rattle.icu_collator.specs.Collators.{collation_borrowed}
use Rattle.icu_index.specs.declared.index.NameIndex.{NameIndex}
use Rattle.icu_index.specs.declared.names.NameIter.{NameIter}
use Rattle.icu_collator.specs.NameOrders.{name_order}
use Rattle.icu_index_keys.specs.KeyedLists.{keyed_names, names_in, names_to_come}

-- the collation that names are ordered by
abbrev pub index_collation : NameIndex → Collation
index_collation i = collation_borrowed i.collator

-- the order of two names in an index
abbrev pub index_order : NameIndex → List ℕ → List ℕ → Ordering
index_order i = name_order (index_collation i)

-- the names of an index, in order
abbrev pub listing : NameIndex → List (List ℕ)
listing i = names_in (keyed_names i.names)

-- the names that an iterator has left
abbrev pub names_left : NameIter → List (List ℕ)
names_left it = names_to_come it.names
