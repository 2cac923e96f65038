-- The other list has ended.
use Rattle.std.proofs.Common.{◌∙◌, ap, arith, drop}
use Rattle.std.proofs.Math.ListN.{drop_of_length-le}
use Rattle.icu_order_texts.proofs.level_weights.CommonLengthLemmas.{none_alike}
use Rattle.icu_order_texts.specs.level_weights.CommonWeights.{common_length}
use Rattle.icu_order_texts.proofs.level_weights.common_weights.common_length.Goals as goal

pub returns-else-alike-other : goal.returns-else-alike-other
returns-else-alike-other c =
    let alike = c.alike.alike in
    let left = drop alike c.args.one.now in
    let none = ap (common_length left) (drop_of_length-le c.args.other.now c.if-alike-other.false) ∙ none_alike left in
    omega (arith, none, c.alike.invariant.whole)
