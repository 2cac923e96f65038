-- What vectors that were read hold.
use Rattle.std.specs.Prelude.{◌≡◌, ℕ, ◌<◌, ◌^◌, List, [], ◌∷◌, Option, IfSome, option_map, string_bytes}
use Rattle.std.specs.Int.{w32}
use Rattle.std.specs.List.{flat_map}
use Rattle.std.specs.Str.{IsUtf8}
use Rattle.icu_table_data.specs.declared.context.Context.{Context}
use Rattle.icu_table_data.specs.declared.context.ContextMapping.{ContextMapping}
use Rattle.icu_table_provider.specs.declared.builder.data_vectors.DataVectors.{DataVectors}
use Rattle.icu_table_provider.specs.Reorderings.{Reordering}
use Rattle.icu_table_files.specs.fingerprint.FingerprintForms.{StoredData, StoredTables, context_words, mapping_words}
use Rattle.icu_table_files.specs.parts.SpeltParts.{AreBelow, bytes_of_numbers}
use Rattle.icu_table_files.specs.FileContents.{StoredContents}
use Rattle.icu_table_files.specs.TableFiles.{HasReorderingWidths, HasWidths}
use Rattle.icu_table_files.specs.declared.data_reading.DataParts.{DataParts}
use Rattle.icu_table_files.specs.declared.other_reading.ReorderingLists.{ReorderingLists}
use Rattle.icu_table_files.specs.declared.other_reading.ReorderingParts.{ReorderingParts}
use Rattle.icu_table_files.specs.declared.table_reading.FileParts.{FileParts}
use Rattle.icu_table_files.specs.declared.table_reading.FileTexts.{FileTexts}
use Rattle.icu_table_files.specs.declared.table_reading.TableVectors.{TableVectors}

-- contexts as bytes
abbrev pub context_bytes : List Context → List ℕ
context_bytes xs = bytes_of_numbers w32 (flat_map context_words xs)

-- their numbers fit in 32 bits
abbrev pub HaveContextWidths : List Context → Type 0
HaveContextWidths xs = AreBelow (2 ^ 32) (flat_map context_words xs)

-- mappings as bytes
abbrev pub mapping_bytes : List ContextMapping → List ℕ
mapping_bytes xs = bytes_of_numbers w32 (flat_map mapping_words xs)

-- their numbers fit in 32 bits
abbrev pub HaveMappingWidths : List ContextMapping → Type 0
HaveMappingWidths xs = AreBelow (2 ^ 32) (flat_map mapping_words xs)

-- the lists of a root or a tailoring, as bytes
abbrev pub parts_in_data : DataParts → List (List ℕ)
parts_in_data p = p.blocks.now ∷ p.values.now ∷ p.elements.now ∷ p.entries.now ∷ p.contexts.now ∷ p.mappings.now ∷ p.chars.now ∷ []

-- a root or a tailoring
abbrev pub vectors_stored : DataVectors → StoredData
vectors_stored v = record {
  blocks = v.blocks.items;
  values = v.values.items;
  elements = v.ces.items;
  entries = v.ce32s.items;
  contexts = v.contexts.items;
  mappings = v.mappings.items;
  chars = v.chars.items;
}

-- a tailoring whose numbers fit in their widths, if there is one
abbrev pub MayHaveWidths : Option StoredData → Type 0
MayHaveWidths o = IfSome o HasWidths

-- the lists of a reordering, as bytes
abbrev pub parts_in_reordering : ReorderingParts → List (List ℕ)
parts_in_reordering p = p.limit.now ∷ p.leads.now ∷ p.ranges.now ∷ []

-- a reordering
abbrev pub lists_reordering : ReorderingLists → Reordering
lists_reordering l = record { limit = l.limit; leads = l.leads.items; ranges = l.ranges.items }

-- a reordering whose numbers fit in their widths, if there is one
abbrev pub MayHaveReorderingWidths : Option Reordering → Type 0
MayHaveReorderingWidths o = IfSome o HasReorderingWidths

-- the parts of a body that tables are made of
abbrev pub parts_in_tables : FileParts → List (List ℕ)
parts_in_tables p = p.root.now ∷ p.tailoring.now ∷ p.jamo.now ∷ p.diacritics.now ∷ p.special.now ∷ p.metadata.now ∷ p.reordering.now ∷ []

-- the parts of a body
abbrev pub parts_in_file : FileParts → List (List ℕ)
parts_in_file p = p.tag.now ∷ p.cldr.now ∷ p.unicode.now ∷ parts_in_tables p

-- the tables of a file
abbrev pub tables_read : TableVectors → StoredTables
tables_read v = record {
  root = vectors_stored v.root;
  tailoring = option_map vectors_stored v.tailoring;
  jamo = v.jamo.items;
  diacritics = v.diacritics.items;
  last = v.last.items;
  numeric = v.numeric;
  bits = v.bits;
  reordering = option_map lists_reordering v.reordering;
}

-- all that a file says
abbrev pub contents_read : FileTexts → TableVectors → StoredContents
contents_read t v = record { tag = string_bytes t.tag; cldr = string_bytes t.cldr; unicode = string_bytes t.unicode; tables = tables_read v }

-- the numbers of tables fit in their widths
pub record HaveTableWidths (s : StoredTables) : Type 0 where
  pub root : HasWidths s.root
  pub tailoring : MayHaveWidths s.tailoring
  pub jamo : AreBelow (2 ^ 32) s.jamo
  pub diacritics : AreBelow (2 ^ 16) s.diacritics
  pub last : AreBelow (2 ^ 16) s.last
  pub bits : s.bits < 2 ^ 32
  pub reordering : MayHaveReorderingWidths s.reordering

-- texts are in UTF-8, and numbers fit in their widths
pub record HaveWidths (s : StoredContents) : Type 0 where
  pub tag : IsUtf8 s.tag
  pub cldr : IsUtf8 s.cldr
  pub unicode : IsUtf8 s.unicode
  pub tables : HaveTableWidths s.tables
