use Rattle.std.proofs.Common.{◌≡◌, ◌+◌, ◌*◌, ◌∷◌, [], ◌++◌, ℕ, List, length, ap, ◌∙◌, arith, rules}
use Rattle.icu_order_levels.specs.Numbers.{value_of}
use Rattle.icu_element_matches.proofs.steady_numbers.FewNumberLemmas.{value_push}
use Rattle.icu_element_cursor.specs.Cursors.{cursor_reading}
use Rattle.icu_element_cursor.proofs.NumberLemmas.{run_begun, run_more}
use Rattle.icu_element_cursor.proofs.digit_run.take_few.Goals as goal

pub digits-init : goal.digits-init
digits-init g c = record {
  run = (c.args.first ∷ [], run_begun _ _ _, omega arith);
  few = omega (arith, c.requires);
  shorter = omega arith;
}

pub digits-preserved : goal.digits-preserved
digits-preserved g c =
    let reading = cursor_reading c.args.tables.now in
    let text = g.T.EncodedText.text in
    let before = c.digits.invariant.run in
    let ds : List ℕ = before.0 in
    let d = c.in-Some.digit in
    let taken = c.in-Some.ensures.digit in
    let value : value_of (ds ++ d ∷ []) ≡ 10 * c.digits.value + d = value_push ds 0 d ∙ ap (λ (v : ℕ). 10 * v + d) before.2 in
    record {
      run = (ds ++ d ∷ [], run_more reading (text c.args.text) (text c.digits.rest) (text c.take_digit.new.text) (c.args.first ∷ []) ds taken.char d before.1 taken.parts taken.is, search rules);
      few = search rules;
      shorter = omega (arith, ap length taken.parts, c.digits.invariant.shorter);
    }
