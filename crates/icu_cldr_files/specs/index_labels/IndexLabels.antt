-- What labels a file says (UTS #35 part 2, "Exemplars").
use Rattle.std.specs.Prelude.{◌≡◌, ℕ, List, Option, Some, None, chars}
use Rattle.icu_cldr_files.specs.declared.xml.event.Event.{Event}
use Rattle.icu_cldr_files.specs.xml.XmlDocuments.{IsDocument}
use Rattle.icu_cldr_files.specs.index_labels.IndexSets.{index_set_from}
use Rattle.icu_cldr_files.specs.index_labels.WrittenLabels.{WritesSet}

-- a text is a document that says no characters for an index, or first says a set of these labels
pub data SaysLabels (text : List ℕ) : Option (List (List ℕ)) → Type 0 where
  no_index : {events : List Event} → IsDocument text events → index_set_from events ≡ None → SaysLabels text None
  index : {events : List Event} {set : List ℕ} {labels : List (List ℕ)} → IsDocument text events
      → index_set_from events ≡ Some set → WritesSet labels (chars set) → SaysLabels text (Some labels)
