-- The weights so far, and then those of what is left, are all.
use Rattle.std.proofs.Common.{◌≡◌, ◌++◌, drop}
use Rattle.icu_order_texts.specs.weighting.VariableWeightings.{handled_after}
use Rattle.icu_order_texts.specs.level_weights.Weighings.{element_weights, handled_weights, weighing_of}
use Rattle.icu_order_texts.proofs.level_weights.weights_of_elements.element_weights.Given as goal

abbrev pub invariant-loop-element : goal.invariant-loop-element
invariant-loop-element l =
    let w = weighing_of l.weighing in
    l.list.items ++ handled_weights w (handled_after l.handles (drop l.element-index l.elements)) ≡ element_weights w l.elements
