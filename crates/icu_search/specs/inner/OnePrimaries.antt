-- Texts with one element.
use Rattle.std.specs.Prelude.{◌≡◌, ℕ, List, [], ◌∷◌}
use Rattle.unicode_normalization.specs.Forms.{nfd}
use Rattle.icu_table_entries.specs.Elements.{Element}
use Rattle.icu_element_reading.specs.TextElements.{Reading, elements_of}

-- the text has one element, with this primary weight
pub record HasOnePrimary (reading : Reading) (text : List ℕ) (p : ℕ) : Type 0 where
  pub element : Element
  pub elements : elements_of reading (nfd text) ≡ element ∷ []
  pub primary : element.primary ≡ p
