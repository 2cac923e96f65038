use Rattle.std.proofs.Common.{◌<◌, ◌^◌, refl, sym, ◌∙◌, arith}
use Rattle.icu_table_data.proofs.WalkLemmas.{on_ok}
use Rattle.icu_table_weights.specs.declared.weight_set.WeightSet.{WeightSet}
use Rattle.icu_table_weights.proofs.WeightSetLemmas.{bit_added, other_added}
use Rattle.icu_table_weights.proofs.weight_set.WeightSetHoldWeights.add.Goals as goal

pub returns-then-is_three_bytes : goal.returns-then-is_three_bytes
returns-then-is_three_bytes c =
    let new : WeightSet = record { pages = c.add_bit.new.pages; others = c.args.self.now.others } in
    let fits : c.args.weight < 2 ^ 32 = omega arith in
    on_ok _ _ (bit_added c.args.self.now new c.args.weight fits (sym c.is_three_bytes.ensures ∙ c.if-is_three_bytes.true) refl) c.add_bit.result c.add_bit.ensures

pub returns-else-is_three_bytes : goal.returns-else-is_three_bytes
returns-else-is_three_bytes c =
    let new : WeightSet = record { pages = c.args.self.now.pages; others = c.add.new.self } in
    let fits : c.args.weight < 2 ^ 32 = omega arith in
    on_ok _ _ (other_added c.args.self.now new c.args.weight fits (sym c.is_three_bytes.ensures ∙ c.if-is_three_bytes.false) refl) c.add.result c.add.ensures
