-- Parts of a body that say nothing.
use Rattle.std.specs.Prelude.{◌≡◌, string_bytes}
use Rattle.std.specs.Str.{IsUtf8}
use Rattle.icu_table_files.specs.declared.parts.form_error.FormError.{FormError}
use Rattle.icu_table_files.specs.declared.parts.form_error.FormError.TheVariants.{NoMemory}
use Rattle.icu_table_files.specs.declared.table_reading.FileParts.{FileParts}
use Rattle.icu_table_files.specs.declared.table_reading.FileTexts.{FileTexts}

-- the three texts of a body
pub record AreTexts (p : FileParts) (t : FileTexts) : Type 0 where
  pub tag : string_bytes t.tag ≡ p.tag.now
  pub cldr : string_bytes t.cldr ≡ p.cldr.now
  pub unicode : string_bytes t.unicode ≡ p.unicode.now
  pub tag_utf8 : IsUtf8 (string_bytes t.tag)
  pub cldr_utf8 : IsUtf8 (string_bytes t.cldr)
  pub unicode_utf8 : IsUtf8 (string_bytes t.unicode)

-- an error of parts that were to be texts: if they are, memory ran out
abbrev pub RefusesTexts : FileParts → FormError → Type 0
RefusesTexts p e = IsUtf8 p.tag.now → IsUtf8 p.cldr.now → IsUtf8 p.unicode.now → e ≡ NoMemory
