use Rattle.std.proofs.Common.{◌∙◌, ap}
use Rattle.std.specs.Ordering.{is_gt}
use Rattle.icu_order_texts.proofs.text_beginnings.TextBeginningLemmas.{order_is, order_kept}
use Rattle.icu_order_texts.proofs.text_beginnings.primary_order_is_of_weights.Goals as goal

pub returns : goal.returns
returns c = record { weights = λ collation t u. order_is collation t u; kept = λ collation t u h. ap is_gt (order_is collation t u) ∙ order_kept collation t u h }
