-- The lines that were cut are sorted by their keys, which order as the lines do, and printed.
use Rattle.std.proofs.Common.{◌≡◌, ap, ◌∙◌}
use Rattle.icu_collator.specs.Collators.{collation_kept}
use Rattle.line_sorts.specs.InputLines.{lines_by}
use Rattle.line_sorts.specs.OrderedTexts.{ordered_text}
use Rattle.line_sorts.specs.ShownLines.{shown_lines}
use Rattle.line_commands.proofs.PrintLemmas.{prints_so, stops_so}
use Rattle.line_commands.proofs.SortedInputLemmas.{cut_sorts}
use Rattle.line_commands.specs.SortedInputs.{SortsInput}
use Rattle.line_commands.proofs.printing.print_sorted.Given as given
use Rattle.line_commands.proofs.printing.print_sorted.Goals as goal

sorts : (g : given.Over) (c : goal.After-drop-lines-2 g)
    → SortsInput (collation_kept c.args.collator.now) c.args.request c.args.input.now (ordered_text c.in_ok-sorted.sorted)
sorts g c =
    let r = c.args.request in
    let input = c.args.input.now in
    let cut : shown_lines c.as_slice-2.result.now ≡ lines_by r.separator input = ap shown_lines c.as_slice-2.ensures.value ∙ c.in_ok-lines.ensures in
    cut_sorts c.as_borrowed-collator.result c.has_well_formed_tables.ensures r input _ _ _ cut c.as_borrowed-collator.ensures c.in_ok-sorted.ensures

pub returns-clause-ok : goal.returns-clause-ok
returns-clause-ok g c = prints_so _ _ (sorts g c) _ _ c.print_lines.result c.print_lines.ensures.ok

pub returns-clause-stops : goal.returns-clause-stops
returns-clause-stops g c = stops_so _ _ (sorts g c) _ _ c.print_lines.result c.print_lines.ensures.stops
