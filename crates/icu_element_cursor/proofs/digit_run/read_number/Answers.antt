use Rattle.std.proofs.Common.{◌<◌, ℕ, List, length, map, sym, ap, ◌∙◌, arith}
use Rattle.icu_table_entries.specs.Elements.{of_primary}
use Rattle.icu_order_levels.specs.Numbers.{number_weights, value_of}
use Rattle.icu_element_matches.proofs.steady_numbers.FewNumberLemmas.{few_number}
use Rattle.icu_element_cursor.specs.Cursors.{cursor_reading}
use Rattle.icu_element_cursor.proofs.NumberLemmas.{number_piece}
use Rattle.icu_element_cursor.proofs.digit_run.read_number.Goals as goal

pub returns-clause-piece : goal.returns-clause-piece
returns-clause-piece g c =
    let reading = cursor_reading c.args.tables.now in
    let text = g.T.EncodedText.text in
    let few = c.in-Some.few in
    let run = c.in-Some.ensures.run in
    let digits : List ℕ = run.0 in
    let some : 0 < length digits = omega (arith, ap length run.1.values) in
    let small : value_of digits < 1042490 = omega (arith, run.2, c.in-Some.ensures.few) in
    number_piece reading c.args.lead c.args.c c.args.first (text c.args.text) (text few.1) digits _ c.requires.numeric c.requires.digit run.1
    (c.begins_at_boundary.ensures c.if-not-begins_at_boundary.false)
    (ap (map of_primary) (c.of_few.ensures ∙ ap (number_weights c.args.lead) (sym run.2) ∙ sym (few_number c.args.lead digits some small)))
