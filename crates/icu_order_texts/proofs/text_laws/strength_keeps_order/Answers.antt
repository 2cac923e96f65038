use Rattle.icu_order_texts.proofs.text_laws.StrengthLemmas.{strength_keeps}
use Rattle.icu_order_texts.proofs.text_laws.strength_keeps_order.Goals as goal

pub returns : goal.returns
returns c = λ collation s r t u off l n. strength_keeps collation t u s r off l n
