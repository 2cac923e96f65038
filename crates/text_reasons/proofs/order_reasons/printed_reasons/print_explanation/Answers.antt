-- What was printed is a beginning of the text that was made.
use Rattle.std.proofs.Common.{◌≡◌, ◌∙◌, ℕ, List, IfErr, chars, subst}
use Rattle.icu_collator.specs.Collators.{collation_kept}
use Rattle.line_commands.specs.Printed.{StopsPrinting}
use Rattle.text_reasons.specs.order_reasons.Reasons.{explained_text}
use Rattle.text_reasons.proofs.order_reasons.printed_reasons.print_explanation.Goals as goal

pub returns-clause-stops : goal.returns-clause-stops
returns-clause-stops g c =
    let same : c.as_slice.result.now ≡ explained_text (collation_kept c.args.collator.now) (chars c.args.text.now) = c.as_slice.ensures.value ∙ c.in_ok-shown.ensures in
    subst (λ (s : List ℕ). IfErr c.print_text.result (StopsPrinting (λ t. t ≡ s) (g.W.Write.contents c.args.output.now) (g.W.Write.contents c.print_text.new.output)))
    same c.print_text.ensures.stops
