-- Characters that decompose to themselves.
use Rattle.std.specs.Prelude.{◌≡◌, ℕ, [], ◌∷◌}
use Rattle.ucd_normal.specs.declared.forms.Form.TheVariants.{Nfd}
use Rattle.unicode_normalization.specs.Decompose.{decompose}
use Rattle.icu_element_reading.specs.TextElements.{Reading}
use Rattle.icu_element_facts.specs.KeptFacts.{AreTrueFacts}
use Rattle.icu_element_facts.specs.declared.char_facts.CharFacts.{CharFacts}
use Rattle.icu_element_facts.specs.declared.char_facts.FactsKind.TheVariants.{Starters}

-- a starter that decomposes to itself and has one element
pub record AreOwnFacts (reading : Reading) (c : ℕ) (l : CharFacts) : Type 0 where
  pub itself : decompose Nfd c ≡ c ∷ []
  pub kind : l.kind ≡ Starters
  pub count : l.count ≡ 1
  pub is : AreTrueFacts reading c l
