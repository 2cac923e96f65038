-- A text, its elements, and their weights at a level.
use Rattle.std.specs.Prelude.{◌≡◌, ℕ, List}
use Rattle.icu_element_reading.specs.TextElements.{Reading}
use Rattle.icu_order_texts.specs.level_weights.Weighings.{Weighing, element_weights}
use Rattle.text_reasons.specs.DecidingParts.{text_elements}
use Rattle.text_reasons.specs.declared.parts_apart.WeighedText.{WeighedText}

-- it is this text, with its elements and their weights
pub record HasWeights (reading : Reading) (w : Weighing) (text : List ℕ) (t : WeighedText) : Type 0 where
  pub text_is : t.text.now ≡ text
  pub elements_are : t.elements.items ≡ text_elements reading text
  pub weights_are : t.weights.items ≡ element_weights w t.elements.items
