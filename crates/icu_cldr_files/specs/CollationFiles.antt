-- Files of collations (UTS #35 part 5, "Collation Tailorings").
use Rattle.std.specs.Prelude.{◌≡◌, ℕ, List, map, None, option_map, string_bytes}
use Rattle.icu_cldr_files.specs.declared.xml.event.Event.{Event}
use Rattle.icu_cldr_files.specs.xml.XmlDocuments.{IsDocument}
use Rattle.icu_cldr_files.specs.declared.collation_places.CollationPlace.TheVariants.{Outside}
use Rattle.icu_cldr_files.specs.declared.collation_file.CollationFile.{CollationFile}
use Rattle.icu_cldr_files.specs.CollationEvents.{first_refused, default_from, collations_from, said_collation}

-- a file is what events say
pub record IsSaidBy (events : List Event) (file : CollationFile) : Type 0 where
  pub default_type : option_map string_bytes file.default_type ≡ default_from Outside events
  pub collations : map said_collation file.collations.items ≡ collations_from Outside events

-- a text is a document whose events stand at their places and say a file
pub record IsCollationFile (text : List ℕ) (file : CollationFile) : Type 0 where
  pub events : List Event
  pub document : IsDocument text events
  pub places : first_refused Outside events ≡ None
  pub said : IsSaidBy events file
