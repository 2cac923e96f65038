-- The lines that were cut are sorted by their keys, and printed.
use Rattle.std.proofs.Common.{◌≡◌, ℕ, List, map, ap, ◌∙◌, sym}
use Rattle.icu_collator.specs.Collators.{collation_kept}
use Rattle.line_sorts.specs.InputLines.{lines_by}
use Rattle.line_sorts.specs.KeyBuffers.{keys_in}
use Rattle.line_sorts.specs.ShownLines.{shown_lines}
use Rattle.line_sorts.specs.OrderedTexts.{ordered_text}
use Rattle.line_commands.proofs.PrintLemmas.{prints_so, stops_so}
use Rattle.line_commands.proofs.field_sorts.FieldSortLemmas.{sorts_fields}
use Rattle.line_commands.specs.field_sorts.FieldOrders.{line_key}
use Rattle.line_commands.specs.field_sorts.FieldSortedInputs.{SortsByFields}
use Rattle.line_commands.proofs.field_sorts.printed_fields.print_sorted_by_fields.Given as given
use Rattle.line_commands.proofs.field_sorts.printed_fields.print_sorted_by_fields.Goals as goal

sorts : (g : given.Over) (c : goal.After-drop-lines-2 g)
    → SortsByFields (collation_kept c.args.collator.now) c.args.fields.ends c.args.fields.sorts.now c.args.request c.args.input.now (ordered_text c.in_ok-sorted.sorted)
sorts g c =
    let collation = collation_kept c.args.collator.now in
    let ends = c.args.fields.ends in
    let sorts = c.args.fields.sorts.now in
    let key : List ℕ → List ℕ = line_key collation ends sorts in
    let r = c.args.request in
    let cut : shown_lines c.as_slice-2.result.now ≡ lines_by r.separator c.args.input.now = ap shown_lines c.as_slice-2.ensures.value ∙ c.in_ok-lines.ensures in
    let keyed : keys_in c.in_ok-keys.keys ≡ map key (shown_lines c.as_slice-2.result.now) =
    c.in_ok-keys.ensures
    ∙ (ap (λ k. map (line_key k ends sorts) (shown_lines c.as_slice.result.now)) c.as_borrowed.ensures
    ∙ ap (λ ls. map key (shown_lines ls)) (c.as_slice.ensures.value ∙ sym c.as_slice-2.ensures.value)) in
    sorts_fields collation ends sorts r c.args.input.now _ (shown_lines c.as_slice-2.result.now) cut (c.in_ok-sorted.ensures key keyed)

pub returns-clause-ok : goal.returns-clause-ok
returns-clause-ok g c = prints_so _ _ (sorts g c) _ _ c.print_lines.result c.print_lines.ensures.ok

pub returns-clause-stops : goal.returns-clause-stops
returns-clause-stops g c = stops_so _ _ (sorts g c) _ _ c.print_lines.result c.print_lines.ensures.stops
