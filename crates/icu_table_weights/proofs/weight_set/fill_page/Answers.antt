use Rattle.std.proofs.Common.{ℕ, List, length, get_or, ap, ◌∙◌, arith}
use Rattle.icu_table_weights.proofs.WeightSetLemmas.{zero_pushed, pushed_word_len}
use Rattle.icu_table_weights.proofs.weight_set.fill_page.Goals as goal

pub loop-index-preserved : goal.loop-index-preserved
loop-index-preserved c = record {
  len = ap length c.in_ok-push.ensures.items ∙ pushed_word_len _ _ ∙ omega (arith, c.loop-index.invariant.len);
  same = λ k. ap (λ (ws : List ℕ). get_or ws k 0) c.in_ok-push.ensures.items ∙ zero_pushed _ k ∙ c.loop-index.invariant.same k;
}
