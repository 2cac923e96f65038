use Rattle.std.proofs.Common.{sym}
use Rattle.icu_text_encodings.proofs.Utf8Lemmas.{utf8_scalars}
use Rattle.icu_text_encodings.specs.DecodedTexts.{utf8_text}
use Rattle.icu_order_texts.proofs.TextOrders.{keys_keep}
use Rattle.icu_collator.specs.NameOrders.{name_order}
use Rattle.icu_index.specs.inner.NameKeys.{key_of}
use Rattle.icu_index.proofs.InsertionLemmas.{sorts, total_by_keys}
use Rattle.icu_index.proofs.laws.inserts_sort.Goals as goal

pub returns : goal.returns
returns c = λ collation names well_formed.
    sorts (name_order collation)
    (total_by_keys (name_order collation) (key_of collation)
    (λ x y. sym (keys_keep collation well_formed (utf8_text x) (utf8_text y) (utf8_scalars x) (utf8_scalars y)))) names
