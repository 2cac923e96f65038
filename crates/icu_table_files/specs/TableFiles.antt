-- What a file of tables is, and what it says.
use Rattle.std.specs.Prelude.{◌≡◌, ℕ, ◌<◌, ◌^◌, List, length, IfSome}
use Rattle.std.specs.List.{flat_map}
use Rattle.std.specs.Str.{IsUtf8}
use Rattle.icu_table_data.specs.CodePointTables.{IsCodePointTable}
use Rattle.icu_table_data.specs.Contexts.{IsContextTable}
use Rattle.icu_table_provider.specs.Diacritics.{IsDiacritics}
use Rattle.icu_table_provider.specs.Jamo.{IsJamo}
use Rattle.icu_table_provider.specs.Reorderings.{Reordering}
use Rattle.icu_table_provider.specs.SpecialPrimaries.{IsSpecialPrimaries}
use Rattle.icu_table_files.specs.fingerprint.FingerprintForms.{StoredData, StoredTables, context_words, mapping_words}
use Rattle.icu_table_files.specs.parts.Frames.{framed}
use Rattle.icu_table_files.specs.parts.SpeltParts.{AreBelow, AreChars}
use Rattle.icu_table_files.specs.FileContents.{FileContents, StoredContents, contents_stored}
use Rattle.icu_table_files.specs.TableBytes.{content_bytes}

-- the numbers of a root or a tailoring fit in their widths
pub record HasWidths (s : StoredData) : Type 0 where
  pub blocks : AreBelow (2 ^ 16) s.blocks
  pub values : AreBelow (2 ^ 32) s.values
  pub elements : AreBelow (2 ^ 64) s.elements
  pub entries : AreBelow (2 ^ 32) s.entries
  pub contexts : AreBelow (2 ^ 32) (flat_map context_words s.contexts)
  pub mappings : AreBelow (2 ^ 32) (flat_map mapping_words s.mappings)
  pub chars : AreChars s.chars

-- a root or a tailoring whose lists can be borrowed
pub record IsStorableData (s : StoredData) : Type 0 where
  pub widths : HasWidths s
  pub table : IsCodePointTable s.blocks s.values
  pub context_table : IsContextTable s.contexts s.mappings s.chars

-- the numbers of a reordering fit in their widths
pub record HasReorderingWidths (r : Reordering) : Type 0 where
  pub limit : r.limit < 2 ^ 32
  pub leads : AreBelow (2 ^ 8) r.leads
  pub ranges : AreBelow (2 ^ 32) r.ranges

-- a reordering whose lists can be borrowed
pub record IsStorableReordering (r : Reordering) : Type 0 where
  pub widths : HasReorderingWidths r
  pub whole : length r.leads ≡ 256

-- tables, each of which can be borrowed
pub record IsStorable (s : StoredTables) : Type 0 where
  pub root : IsStorableData s.root
  pub tailoring : IfSome s.tailoring IsStorableData
  pub jamo : AreBelow (2 ^ 32) s.jamo
  pub is_jamo : IsJamo s.jamo
  pub diacritics : AreBelow (2 ^ 16) s.diacritics
  pub is_diacritics : IsDiacritics s.diacritics
  pub last : AreBelow (2 ^ 16) s.last
  pub is_special : IsSpecialPrimaries s.last s.numeric
  pub bits : s.bits < 2 ^ 32
  pub reordering : IfSome s.reordering IsStorableReordering

-- contents whose texts are in UTF-8 and whose tables can be borrowed
pub record AreStorable (s : StoredContents) : Type 0 where
  pub tag : IsUtf8 s.tag
  pub cldr : IsUtf8 s.cldr
  pub unicode : IsUtf8 s.unicode
  pub tables : IsStorable s.tables

-- bytes are a file that says this
pub record IsFileOf (says : FileContents) (bytes : List ℕ) : Type 0 where
  pub stored : StoredContents
  pub is : contents_stored stored ≡ says
  pub storable : AreStorable stored
  pub spelt : framed (content_bytes stored) ≡ bytes
