-- What the sink took is the key.
use Rattle.std.proofs.Common.{◌++◌, ℕ, Vec, Global, chars, ap, ◌∙◌}
use Rattle.icu_order_texts.specs.Collations.{Collation}
use Rattle.icu_order_texts.specs.TextOrder.{text_key}
use Rattle.icu_collator.specs.Collators.{collation_borrowed}
use Rattle.collate_commands.proofs.answer.sort_key.Goals as goal

pub returns-in-Ok : goal.returns-in-Ok
returns-in-Ok c =
    let text = chars c.args.text.now in
    let written = c.in-Ok.ensures.key in
    let by_loaded = text_key (collation_borrowed c.as_borrowed.result) text in
    let key = ap (λ (k : Collation). text_key k text) c.as_borrowed.ensures in
    ap (λ (v : Vec ℕ Global). v.items) written.5.1 ∙ written.4 ∙ ap (λ before. before ++ by_loaded) c.new-key.ensures.items ∙ key
