use Rattle.std.proofs.Common.{◌<◌, ℕ, List, All, sym, subst}
use Rattle.std.proofs.lemmas.List.Elements.{All-push}
use Rattle.icu_element_cursor.specs.Cursors.{cursor_reading}
use Rattle.icu_element_cursor.specs.inner.NumberElements.{IsDigitRun, few_digits}
use Rattle.icu_element_cursor.proofs.NumberLemmas.{run_begun, run_more}
use Rattle.icu_element_cursor.proofs.digit_run.push_run.Goals as goal

pub digits-init : goal.digits-init
digits-init g c = record { decimal = c.requires; run = run_begun _ _ _ }

pub digits-preserved : goal.digits-preserved
digits-preserved g c =
    let reading = cursor_reading c.args.tables.now in
    let text = g.T.EncodedText.text in
    let old = few_digits c.digits.digits in
    let d = c.in-Some.digit in
    let pushed = sym (c.push.ensures c.if-not-push.false) in
    let taken = c.in-Some.ensures.digit in
    record {
      decimal = subst (All (λ (d : ℕ). d < 10)) pushed (All-push (λ (d : ℕ). d < 10) old d c.digits.invariant.decimal taken.is.decimal);
      run =
          subst (λ (ds : List ℕ). IsDigitRun reading (text c.args.text) (text c.take_digit.new.text) (few_digits c.args.digits.now) ds) pushed
          (run_more reading (text c.args.text) (text c.digits.rest) (text c.take_digit.new.text) (few_digits c.args.digits.now) old taken.char d c.digits.invariant.run taken.parts taken.is);
    }
