-- So many weights were passed with the elements so far, and none of their beginnings has enough.
use Rattle.std.proofs.Common.{◌≡◌, ◌+◌, ◌-◌, false, List, ◌++◌, length, take}
use Rattle.icu_table_entries.specs.Elements.{Element}
use Rattle.icu_order_texts.specs.weighting.Handled.{handled}
use Rattle.icu_order_texts.specs.weighting.VariableWeightings.{handled_after}
use Rattle.icu_order_texts.specs.level_weights.LeastNumbers.{least_meeting}
use Rattle.icu_order_texts.specs.level_weights.Weighings.{elements_with, handled_weights, has_enough, weighing_of}
use Rattle.icu_order_texts.proofs.level_weights.bearing_element.elements_with.Given as goal

abbrev pub invariant-loop-element : goal.invariant-loop-element
invariant-loop-element l =
    let w = weighing_of l.weighing in
    record {
      counted : l.passed ≡ l.element-index;
      weighed : (rest : List Element)
          → length (handled_weights w (handled w.handling w.last_variable false (take l.passed l.elements ++ rest))) + l.left
          ≡ l.before + length (handled_weights w (handled_after l.handles rest));
      least : least_meeting (has_enough w l.before l.elements) l.passed (length l.elements - l.passed) ≡ elements_with w l.before l.elements;
    }
