-- What a stored index goes by.
use Rattle.std.specs.Prelude.{List}
use Rattle.icu_order_texts.specs.Collations.{Collation}
use Rattle.icu_collator.specs.Collators.{collation_borrowed, collation_kept}
use Rattle.icu_index_store.specs.declared.printed_collator.PrintedCollator.{PrintedCollator}
use Rattle.icu_index_store.specs.declared.stored_index.StoredIndex.{StoredIndex}

-- the collation that names are ordered by
abbrev pub store_collation : StoredIndex → Collation
store_collation s = collation_borrowed s.collator

-- the collation of a collator with its fingerprint
abbrev pub printed_collation : PrintedCollator → Collation
printed_collation p = collation_kept p.collator
