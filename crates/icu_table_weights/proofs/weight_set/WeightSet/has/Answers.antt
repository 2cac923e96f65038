use Rattle.std.proofs.Common.{◌↔◌, IsTrue, Contains, sym, subst, ◌∙◌, arith}
use Rattle.icu_table_weights.specs.WeightSets.{weights_of_set}
use Rattle.icu_table_weights.proofs.WeightSetLemmas.{three_in, other_in}
use Rattle.icu_table_weights.proofs.TargetLemmas.{both_ways}
use Rattle.icu_table_weights.proofs.weight_set.WeightSet.has.Goals as goal

pub returns-then-is_three_bytes : goal.returns-then-is_three_bytes
returns-then-is_three_bytes c =
    subst (λ b. IsTrue b ↔ Contains (weights_of_set c.args.self.now) c.args.weight) (sym c.has_bit.ensures)
    (three_in c.args.self.now c.args.weight (omega arith) (sym c.is_three_bytes.ensures ∙ c.if-is_three_bytes.true))

pub returns-else-is_three_bytes : goal.returns-else-is_three_bytes
returns-else-is_three_bytes c =
    both_ways (subst (λ ws. IsTrue c.is_listed.result ↔ Contains ws c.args.weight) c.deref.ensures.value c.is_listed.ensures)
    (other_in c.args.self.now c.args.weight (omega arith) (sym c.is_three_bytes.ensures ∙ c.if-is_three_bytes.false))
