use Rattle.std.proofs.Common.{List, ℕ, ap, ◌∙◌}
use Rattle.std.specs.Prelude.{chars}
use Rattle.std.specs.Ordering.{is_eq}
use Rattle.std.proofs.lemmas.Str.{chars-nil}
use Rattle.icu_collator.specs.Collators.{collation_borrowed}
use Rattle.icu_order_texts.specs.TextOrder.{text_order}
use Rattle.icu_search.proofs.searcher.is_empty_text.Goals as goal

pub returns : goal.returns
returns c =
    let collation = collation_borrowed c.args.collator.now in
    c.is_eq.ensures ∙ ap is_eq (c.order.ensures.order ∙ ap (λ (t : List ℕ). text_order collation t (chars c.args.text.now)) chars-nil)
