use Rattle.std.proofs.Common.{ℕ, List, subst}
use Rattle.icu_element_cursor.specs.Cursors.{cursor_reading}
use Rattle.icu_element_cursor.specs.inner.NumberElements.{IsDigitRun, few_digits}
use Rattle.icu_element_cursor.proofs.NumberLemmas.{number_piece}
use Rattle.icu_element_cursor.proofs.digit_run.read_many.Goals as goal

pub returns-clause-piece : goal.returns-clause-piece
returns-clause-piece g c =
    let reading = cursor_reading c.args.tables.now in
    let text = g.T.EncodedText.text in
    let digits = few_digits c.push_run.new.digits in
    let run = subst (λ (old : List ℕ). IsDigitRun reading (text c.args.text) (text c.in_ok-after.after) old digits) c.new-digits.ensures c.in_ok-after.ensures.run in
    number_piece reading c.args.lead c.args.c c.args.first (text c.args.text) (text c.in_ok-after.after) digits _ c.requires.numeric c.requires.digit run
    (c.begins_at_boundary.ensures c.if-not-begins_at_boundary.false) c.number_of.ensures
