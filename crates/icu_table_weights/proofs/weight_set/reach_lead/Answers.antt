use Rattle.std.proofs.Common.{ℕ, List, length, ap, ◌∙◌, arith}
use Rattle.std.specs.Global.{Vec}
use Rattle.icu_table_weights.specs.WeightSets.{page_of}
use Rattle.icu_table_weights.proofs.WeightSetLemmas.{page-push, pushed_len}
use Rattle.icu_table_weights.proofs.weight_set.reach_lead.Goals as goal

pub loop-index-preserved : goal.loop-index-preserved
loop-index-preserved c = record {
  len = ap length c.in_ok-push.ensures.items ∙ pushed_len _ _ ∙ omega (arith, c.loop-index.invariant.len);
  same = λ lead.
      ap (λ (ps : List (Vec ℕ)). page_of ps lead) c.in_ok-push.ensures.items
      ∙ page-push _ _ lead c.new.ensures.items ∙ c.loop-index.invariant.same lead;
}
