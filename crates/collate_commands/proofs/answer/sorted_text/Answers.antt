-- The lines that were cut are sorted by their keys, which order as the lines do, and written.
use Rattle.std.proofs.Common.{◌≡◌, ◌++◌, ℕ, List, ap, ◌∙◌, map, subst, sym}
use Rattle.icu_collator.specs.Collators.{collation_borrowed}
use Rattle.icu_collator.specs.NameOrders.{name_order}
use Rattle.icu_order_texts.specs.Collations.{Collation}
use Rattle.line_sorts.specs.InputLines.{lines_of}
use Rattle.line_sorts.specs.KeyBuffers.{keys_in}
use Rattle.line_sorts.specs.OrderedTexts.{ordered_text}
use Rattle.line_sorts.specs.ShownLines.{shown_lines}
use Rattle.line_sorts.specs.SortedTexts.{SortsByKey}
use Rattle.collate_commands.proofs.LineOrderByKeys.{sorts_lines}
use Rattle.collate_commands.specs.Answers.{SortsLines}
use Rattle.collate_commands.specs.LineKeys.{key_of_line}
use Rattle.collate_commands.specs.inner.Sorting.{all_ascending}
use Rattle.collate_commands.proofs.answer.sorted_text.Goals as goal

pub returns-in-Ok : goal.returns-in-Ok
returns-in-Ok c =
    let borrowed = c.as_borrowed-collator.result in
    let collation = collation_borrowed borrowed in
    let key : List ℕ → List ℕ = key_of_line collation in
    let bytes = c.args.bytes.now in
    let all = shown_lines c.as_slice-2.result.now in
    let text = ordered_text c.in_ok-sorted.sorted in
    let cut : all ≡ lines_of bytes = ap shown_lines c.as_slice-2.ensures.value ∙ c.in_ok-lines.ensures in
    let keyed : keys_in c.in_ok-keys.keys ≡ map key all =
    c.in_ok-keys.ensures ∙ ap (λ ls. map key (shown_lines ls)) (c.as_slice.ensures.value ∙ sym c.as_slice-2.ensures.value) in
    let sorts : SortsByKey key all_ascending (lines_of bytes) text =
    subst (λ ls. SortsByKey key all_ascending ls text) cut
    (subst (λ r. SortsByKey key r all text) c.all_ascending.ensures (c.in_ok-sorted.ensures key keyed)) in
    let written : text ≡ c.write_to.new.output.items = sym (c.in-Ok.ensures.ok ∙ ap (λ (xs : List ℕ). xs ++ text) c.new-text.ensures.items) in
    subst (λ (k : Collation). SortsLines (name_order k) bytes c.write_to.new.output.items) c.as_borrowed-collator.ensures
    (subst (λ t. SortsLines (name_order collation) bytes t) written (sorts_lines borrowed c.has_well_formed_tables.ensures bytes text sorts))
