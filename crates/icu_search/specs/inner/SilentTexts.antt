-- Texts that give nothing below the quaternary level before another one.
use Rattle.std.specs.Prelude.{◌≡◌, ◌⊎◌, Bool, true, false, List, ℕ, [], ◌∷◌}
use Rattle.std.specs.List.{list_all}
use Rattle.unicode_normalization.specs.Forms.{nfd}
use Rattle.icu_table_entries.specs.Elements.{Element}
use Rattle.icu_element_reading.specs.TextElements.{Reading, elements_of}
use Rattle.icu_search.specs.inner.SilentStarts.{is_weightless, is_silent, begins_with_primary, gives_none}
use Rattle.icu_order_texts.specs.TextOrder.{reading_by}
use Rattle.icu_order_texts.specs.weighting.Collations.{Collation}
use Rattle.icu_order_texts.specs.weighting.Forms.{last_variable_by}

-- the elements of a text begin with this one
pub record HasFirstElement (reading : Reading) (text : List ℕ) (e : Element) : Type 0 where
  pub rest : List Element
  pub is : elements_of reading (nfd text) ≡ e ∷ rest

-- The elements of a text give nothing below the quaternary level, and have no weights at all if none of them is
-- variable.
pub record GivesNone (c : Collation) (text : List ℕ) (varies : Bool) : Type 0 where
  pub silent : gives_none (last_variable_by c) false (elements_of (reading_by c) (nfd text)) ≡ true
  pub weightless : varies ≡ false → list_all is_weightless (elements_of (reading_by c) (nfd text)) ≡ true

-- a text is silent before another one (`IsSilentBefore`)
pub record StartsSilently (c : Collation) (first rest : List ℕ) : Type 0 where
  pub silent : gives_none (last_variable_by c) false (elements_of (reading_by c) (nfd first)) ≡ true
  pub either : (list_all is_weightless (elements_of (reading_by c) (nfd first)) ≡ true)
      ⊎ (begins_with_primary (elements_of (reading_by c) (nfd rest)) ≡ true)

-- a character by itself is silent before a primary weight
abbrev pub IsSilentAlone : Collation → ℕ → Type 0
IsSilentAlone c x = list_all (is_silent (last_variable_by c)) (elements_of (reading_by c) (nfd (x ∷ []))) ≡ true
