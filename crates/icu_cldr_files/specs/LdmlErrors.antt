-- Why a text is no file of collations.
use Rattle.std.specs.Prelude.{◌≡◌, ℕ, ◌≤◌, List, length, take, Some}
use Rattle.icu_cldr_files.specs.declared.xml.event.Event.{Event}
use Rattle.icu_cldr_files.specs.declared.xml.xml_error.XmlError.TheVariants as xml_errors
use Rattle.icu_cldr_files.specs.xml.XmlDocuments.{IsDocument}
use Rattle.icu_cldr_files.specs.xml.XmlErrors.{IsPlaceIn, line_behind}
use Rattle.icu_cldr_files.specs.declared.collation_places.CollationPlace.TheVariants.{Outside}
use Rattle.icu_cldr_files.specs.declared.ldml_error.LdmlReason.{LdmlReason}
use Rattle.icu_cldr_files.specs.declared.ldml_error.LdmlError.{LdmlError}
use Rattle.icu_cldr_files.specs.declared.ldml_error.LdmlError.TheVariants as errors
use Rattle.icu_cldr_files.specs.CollationEvents.{first_refused}

-- a line of a text, from 1 on
abbrev pub IsLineIn : List ℕ → ℕ → Type 0
IsLineIn text line = (offset : ℕ) × (offset ≤ length text) × (line ≡ line_behind (take offset text))

-- a text is a document, and the first of its events that may not stand at its place is refused for this reason
pub record IsRefusedFor (text : List ℕ) (reason : LdmlReason) : Type 0 where
  pub events : List Event
  pub document : IsDocument text events
  pub left : ℕ
  pub first : first_refused Outside events ≡ Some (record { left = left; reason = reason })

-- the error says why the text is no file of collations: its place is one of the text, and what is refused is refused
-- for that reason
abbrev pub IsErrorOf : List ℕ → LdmlError → Type 0
IsErrorOf text errors.NoMemory = Unit {0}
IsErrorOf text (errors.Xml line column reason) = IsPlaceIn text (xml_errors.Refused line column reason)
IsErrorOf text (errors.Refused line reason) = IsLineIn text line × IsRefusedFor text reason
