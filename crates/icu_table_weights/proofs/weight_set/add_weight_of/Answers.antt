use Rattle.std.proofs.Common.{true, false, refl, sym, ◌∙◌}
use Rattle.std.proofs.lemmas.Bool.{true≢false}
use Rattle.icu_table_weights.specs.inner.Pages.{IsOfSetBit}
use Rattle.icu_table_weights.proofs.PageLemmas.{adds_none, adds_one}
use Rattle.icu_table_weights.proofs.weight_set.add_weight_of.Goals as goal

pub returns-then-not-is_set : goal.returns-then-not-is_set
returns-then-not-is_set c = adds_none (IsOfSetBit c.args.word c.args.bit c.args.weight) _ (λ w p. true≢false (sym p.set ∙ (sym c.is_set.ensures ∙ c.if-not-is_set.true)))

pub returns-then-not-is_three_bytes : goal.returns-then-not-is_three_bytes
returns-then-not-is_three_bytes c = adds_none (IsOfSetBit c.args.word c.args.bit c.args.weight) _ (λ w p. true≢false (sym p.three ∙ (sym c.is_three_bytes.ensures ∙ c.if-not-is_three_bytes.true)))

pub returns : goal.returns
returns c =
    adds_one (IsOfSetBit c.args.word c.args.bit c.args.weight) _ _ c.args.weight c.in_ok-push.ensures.items
    (record { set = sym c.is_set.ensures ∙ c.if-not-is_set.false; three = sym c.is_three_bytes.ensures ∙ c.if-not-is_three_bytes.false; is = refl }) (λ w p. p.is)
