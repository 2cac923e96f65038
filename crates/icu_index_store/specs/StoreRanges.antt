-- Which ranges of keys a database is asked for.
use Rattle.std.specs.Prelude.{ℕ, List, Option}
use Rattle.sqlite.specs.Given.{HasBegun}
use Rattle.sqlite.specs.Held.{Held}
use Rattle.sqlite_trees.specs.declared.store.Store.{Ghosts}
use Rattle.icu_index.specs.headings.HeadingLaws.{KeysStandUnder}
use Rattle.icu_index.specs.headings.HeadingLists.{NamedStart}
use Rattle.icu_index_keys.specs.declared.keyed_starts.starts.KeyBounds.{KeyBounds}
use Rattle.icu_index_store.specs.stored_names.StatementTexts.{bytes_given, range_parameters, range_text}
use Rattle.icu_order_texts.specs.Collations.{Collation}

module _ {S : Type 0} (g : Ghosts S) where
  -- the query for the names whose keys stand between two bounds has begun
  abbrev pub BeginsRange : List ℕ → Option (List ℕ) → Held S → Held S → Type 0
  BeginsRange lower upper old new = HasBegun g (range_text upper) (range_parameters lower upper) old new

  -- the query for the names under the heading of a number has begun: their keys, and no other ones, stand between its
  -- bounds
  pub record BeginsHeading (c : Collation) (starts : List NamedStart) (n : ℕ) (old new : Held S) : Type 0 where
    pub bounds : KeyBounds
    pub stand : KeysStandUnder c starts n bounds
    pub begun : BeginsRange bounds.lower.now (bytes_given bounds.upper) old new
