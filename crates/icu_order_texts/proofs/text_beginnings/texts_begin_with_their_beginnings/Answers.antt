use Rattle.icu_order_texts.proofs.text_beginnings.TextBeginningLemmas.{begin_the_same, begins_with_front}
use Rattle.icu_order_texts.proofs.text_beginnings.texts_begin_with_their_beginnings.Goals as goal

pub returns : goal.returns
returns c = record {
  fronts = λ collation b front rest h e. begins_with_front collation b front rest h e;
  equal = λ collation t u e. begin_the_same collation t u e;
}
