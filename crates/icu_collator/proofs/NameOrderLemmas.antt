-- The order of names is that of their keys.
use Rattle.std.proofs.Common.{◌≡◌, ℕ, List, sym}
use Rattle.icu_collator.specs.Collators.{collation_borrowed, tables_borrowed}
use Rattle.icu_collator.specs.NameOrders.{name_order}
use Rattle.icu_collator.specs.declared.collator.CollatorBorrowed.{CollatorBorrowed}
use Rattle.icu_order_levels.specs.ListOrder.{list_order}
use Rattle.icu_order_texts.proofs.TextOrders.{keys_keep}
use Rattle.icu_order_texts.specs.TextOrder.{text_key}
use Rattle.icu_table_provider.specs.well_formed.WellFormedTables.{IsWellFormedTables}
use Rattle.icu_text_encodings.proofs.Utf8Lemmas.{utf8_scalars}
use Rattle.icu_text_encodings.specs.DecodedTexts.{utf8_text}

pub names_keep : (c : CollatorBorrowed) → IsWellFormedTables (tables_borrowed c) → (x y : List ℕ)
    → name_order (collation_borrowed c) x y
    ≡ list_order (text_key (collation_borrowed c) (utf8_text x)) (text_key (collation_borrowed c) (utf8_text y))
names_keep c well_formed x y =
    sym (keys_keep (collation_borrowed c) well_formed (utf8_text x) (utf8_text y) (utf8_scalars x) (utf8_scalars y))
