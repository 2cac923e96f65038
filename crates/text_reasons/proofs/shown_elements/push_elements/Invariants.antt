-- What was appended, and then what is left, is the whole.
use Rattle.std.proofs.Common.{◌≡◌, ◌++◌, drop}
use Rattle.text_reasons.specs.ShownElements.{elements_text}
use Rattle.text_reasons.proofs.shown_elements.push_elements.Given as goal

abbrev pub invariant-loop-element : goal.invariant-loop-element
invariant-loop-element l =
    l.text.items ++ elements_text (drop l.element-index l.elements) ≡ l.initial.text.items ++ elements_text l.elements
