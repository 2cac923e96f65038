use Rattle.std.proofs.Common.{List, [], ℕ, ap, ◌∙◌}
use Rattle.std.specs.Prelude.{chars, string_bytes}
use Rattle.std.specs.Ordering.{is_eq}
use Rattle.std.proofs.lemmas.Str.{chars-nil}
use Rattle.icu_collator.specs.Collators.{collation_borrowed}
use Rattle.icu_order_texts.specs.TextOrder.{text_order}
use Rattle.icu_search.proofs.searcher.Searcher.is_ignorable.Goals as goal

pub returns : goal.returns
returns c =
    let s = c.args.self.now in
    let collation = collation_borrowed s.collator in
    c.is_eq.ensures ∙ ap is_eq (c.order.ensures.order ∙ ap (λ (bytes : List ℕ). text_order collation (chars bytes) (chars [])) c.as_str.ensures.value
    ∙ ap (text_order collation (chars (string_bytes s.pattern))) chars-nil)
