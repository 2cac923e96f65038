use Rattle.std.proofs.Common.{true, false, refl, sym, ap, ◌∙◌}
use Rattle.std.proofs.lemmas.Bool.{true≢false}
use Rattle.icu_table_weights.specs.WeightSets.{is_three_bytes}
use Rattle.icu_table_weights.specs.inner.Pages.{IsOther}
use Rattle.icu_table_weights.proofs.PageLemmas.{adds_none, adds_one}
use Rattle.icu_table_weights.proofs.weight_set.add_other.Goals as goal

pub returns-then-is_three_bytes : goal.returns-then-is_three_bytes
returns-then-is_three_bytes c =
    adds_none (IsOther c.args.weight) _ (λ w p. true≢false (sym (ap (λ p. is_three_bytes p) p.is ∙ sym c.is_three_bytes.ensures ∙ c.if-is_three_bytes.true) ∙ p.other))

pub returns : goal.returns
returns c =
    adds_one (IsOther c.args.weight) _ _ c.args.weight c.in_ok-push.ensures.items (record { other = sym c.is_three_bytes.ensures ∙ c.if-is_three_bytes.false; is = refl }) (λ w p. p.is)
