use Rattle.std.proofs.Common.{◌∙◌}
use Rattle.sqlite_value.proofs.OrderLemmas.{value_cmp-Blob}
use Rattle.icu_text_encodings.proofs.Utf8Lemmas.{utf8_scalars}
use Rattle.icu_text_encodings.specs.DecodedTexts.{utf8_text}
use Rattle.icu_index_store.specs.StoreLaws.{stored_key}
use Rattle.icu_order_texts.proofs.TextOrders.{keys_keep}
use Rattle.icu_index_store.proofs.laws.blobs_compare_as_names.Goals as goal

pub returns : goal.returns
returns c = λ collation well_formed x y.
    value_cmp-Blob (stored_key collation x) (stored_key collation y)
    ∙ keys_keep collation well_formed (utf8_text x) (utf8_text y) (utf8_scalars x) (utf8_scalars y)
