-- The order of keys in a database (UTS #10, "Compare Sort Keys").
use Rattle.std.specs.Prelude.{◌≡◌, ℕ, List}
use Rattle.sqlite_value.specs.Order.{value_cmp}
use Rattle.sqlite_value.specs.declared.value.Value.TheVariants.{Blob}
use Rattle.icu_table_provider.specs.well_formed.WellFormedTables.{IsWellFormedTables}
use Rattle.icu_text_encodings.specs.DecodedTexts.{utf8_text}
use Rattle.icu_order_texts.specs.Collations.{Collation}
use Rattle.icu_order_texts.specs.TextOrder.{text_key, text_order}

-- the sort key of a name, which is bytes in UTF-8 that may be damaged
abbrev pub stored_key : Collation → List ℕ → List ℕ
stored_key c name = text_key c (utf8_text name)

-- the database compares keys as the collation compares names
abbrev pub BlobsCompareAsNames : Type 0
BlobsCompareAsNames =
    (c : Collation) → IsWellFormedTables c.tables → (x y : List ℕ)
    → value_cmp (Blob (stored_key c x)) (Blob (stored_key c y)) ≡ text_order c (utf8_text x) (utf8_text y)
