-- Names that stand in a row of an answer.
use Rattle.std.specs.Prelude.{◌≡◌, List, [], ◌∷◌, Option, Some, None, string_bytes}
use Rattle.sqlite_value.specs.Order.{Row, column}
use Rattle.sqlite_value.specs.declared.value.Value.TheVariants.{Blob, Int, Text}
use Rattle.icu_index_store.specs.declared.stored_names.fingerprints.KeptFingerprint.{KeptFingerprint}
use Rattle.icu_index_store.specs.declared.stored_names.stored_name.StoredName.{StoredName}

-- the row has the name's number, its bytes and its payload
abbrev pub IsRowOf : Row → StoredName → Type 0
IsRowOf row s = (column row 0 ≡ Int s.id) × (column row 1 ≡ Blob s.name.items) × (column row 2 ≡ Blob s.payload.items)

-- the row has the bytes of a fingerprint and what it says
abbrev pub IsRowOfFingerprint : Row → KeptFingerprint → Type 0
IsRowOfFingerprint row kept = (column row 0 ≡ Blob kept.fingerprint.items) × (column row 1 ≡ Text (string_bytes kept.settings))

-- the first of the rows has a fingerprint, or there are no rows
abbrev pub IsFirstOf : List Row → Option KeptFingerprint → Type 0
IsFirstOf [] kept = kept ≡ None
IsFirstOf (row ∷ rows) (Some kept) = IsRowOfFingerprint row kept
IsFirstOf (row ∷ rows) None = ⊥
