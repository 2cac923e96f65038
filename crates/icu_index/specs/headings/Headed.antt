-- What headings have.
use Rattle.std.specs.Prelude.{List, map}
use Rattle.icu_collator.specs.Collators.{collation_borrowed}
use Rattle.icu_index.specs.headings.HeadingLists.{NamedStart}
use Rattle.icu_index.specs.declared.headings.headings.Headings.{Headings}
use Rattle.icu_index_keys.specs.keyed_starts.Starts.{starts_in}
use Rattle.icu_order_texts.specs.Collations.{Collation}

-- the collation that names are compared by
abbrev pub headings_collation : Headings → Collation
headings_collation h = collation_borrowed h.collator

-- the starts, in order
abbrev pub heading_starts : Headings → List NamedStart
heading_starts h = map (λ x. (x.1, x.2)) (starts_in h.starts)
