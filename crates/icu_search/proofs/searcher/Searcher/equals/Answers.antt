use Rattle.std.proofs.Common.{List, ℕ, ap, ◌∙◌}
use Rattle.std.specs.Prelude.{chars}
use Rattle.std.specs.Ordering.{is_eq}
use Rattle.icu_collator.specs.Collators.{collation_borrowed}
use Rattle.icu_order_texts.specs.TextOrder.{text_order}
use Rattle.icu_search.proofs.searcher.Searcher.equals.Goals as goal

pub returns : goal.returns
returns c =
    let order = text_order (collation_borrowed c.args.self.now.collator) (chars c.args.part.now) in
    c.is_eq.ensures ∙ ap is_eq (c.order.ensures.order ∙ ap (λ (bytes : List ℕ). order (chars bytes)) c.as_str.ensures.value)
