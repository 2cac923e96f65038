-- One digit more has its 2.
use Rattle.std.proofs.Common.{ℕ, ◌∙◌, ◌+◌, ◌++◌, ap, sym, arith, append_assoc, drop, map, [], ◌∷◌}
use Rattle.line_sorts.proofs.fields.PassingLemmas.{next_two}
use Rattle.line_sorts.proofs.fields.number_key.push_twos.Goals as goal

pub loop-digit-preserved : goal.loop-digit-preserved
loop-digit-preserved c =
    let i = c.loop-digit._digit-index in
    let digits = c.args.digits.now in
    ap (λ l. l ++ map {B = ℕ} (λ digit. 2) (drop (i + 1) digits)) c.in_ok-push.ensures.items
    ∙ (append_assoc c.loop-digit.key.items (2 ∷ []) (map {B = ℕ} (λ digit. 2) (drop (i + 1) digits))
    ∙ (ap (λ l. c.loop-digit.key.items ++ l) (sym (next_two i digits (omega arith))) ∙ c.loop-digit.invariant))
