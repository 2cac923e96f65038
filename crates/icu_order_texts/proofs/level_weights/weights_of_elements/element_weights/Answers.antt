-- No elements are left.
use Rattle.std.proofs.Common.{◌∙◌, ℕ, List, ◌++◌, ap, append-nil, sym}
use Rattle.std.proofs.Math.ListN.{drop_of_length-le}
use Rattle.icu_table_entries.specs.Elements.{Element}
use Rattle.icu_order_texts.specs.weighting.VariableWeightings.{handled_after}
use Rattle.icu_order_texts.proofs.level_weights.WeighedLemmas.{none_weighed}
use Rattle.icu_order_texts.specs.level_weights.Weighings.{handled_weights, weighing_of}
use Rattle.icu_order_texts.proofs.level_weights.weights_of_elements.element_weights.Goals as goal

pub returns : goal.returns
returns c =
    let w = weighing_of c.args.weighing.now in
    let v = c.loop-element.handles in
    let list = c.loop-element.list.items in
    sym (append-nil list)
    ∙ (ap (λ (l : List ℕ). list ++ l) (sym (none_weighed w v))
    ∙ (ap (λ (es : List Element). list ++ handled_weights w (handled_after v es)) (sym (drop_of_length-le c.args.elements.now c.loop-element-test.false))
    ∙ c.loop-element.invariant))
