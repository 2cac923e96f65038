-- The lines that were cut are those of the text.
use Rattle.std.proofs.Common.{◌∙◌, ℕ, List, ap}
use Rattle.icu_collator.specs.Collators.{collation_kept}
use Rattle.icu_order_texts.specs.weighting.Collations.{Collation}
use Rattle.line_sorts.specs.ShownLines.{shown_lines}
use Rattle.line_commands.specs.field_disorders.FieldDisorders.{first_field_disorder}
use Rattle.line_commands.proofs.field_disorders.field_disorder.first_field_disorder.Goals as goal

pub returns : goal.returns
returns c =
    let ends = c.args.fields.ends in
    let sorts = c.args.fields.sorts.now in
    let r = c.args.request in
    let lines = shown_lines c.as_slice.result.now in
    c.in_ok-index.ensures
    ∙ (ap (λ (k : Collation). first_field_disorder k ends sorts r lines) c.as_borrowed.ensures
    ∙ ap (λ (ls : List (List ℕ)). first_field_disorder (collation_kept c.args.collator.now) ends sorts r ls) (ap shown_lines c.as_slice.ensures.value ∙ c.in_ok-lines.ensures))
