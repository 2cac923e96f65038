use Rattle.icu_order_texts.proofs.text_beginnings.TextBeginningLemmas.{key_begins, key_below, key_between}
use Rattle.icu_order_texts.proofs.text_beginnings.keys_begin_as_texts.Goals as goal

pub returns : goal.returns
returns c = record {
  begin = λ collation well_formed b t p q. key_begins collation well_formed b t p q;
  between = λ collation well_formed b t p q. key_between collation well_formed b t p q;
  below = λ collation well_formed b t p q. key_below collation well_formed b t p q;
}
