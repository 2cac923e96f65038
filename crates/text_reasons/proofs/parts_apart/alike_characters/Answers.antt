-- The other list has ended.
use Rattle.std.proofs.Common.{◌∙◌, ap, arith, drop}
use Rattle.std.proofs.Math.ListN.{drop_of_length-le}
use Rattle.text_reasons.proofs.AlikeCharacterLemmas.{none_alike}
use Rattle.icu_order_texts.specs.level_weights.CommonWeights.{common_length}
use Rattle.text_reasons.proofs.parts_apart.alike_characters.Goals as goal

pub returns-else-alike-other : goal.returns-else-alike-other
returns-else-alike-other c =
    let alike = c.alike.alike in
    let left = drop alike c.args.one.now in
    let none = ap (common_length left) (drop_of_length-le c.args.other.now c.if-alike-other.false) ∙ none_alike left in
    omega (arith, none, c.alike.invariant.whole)
