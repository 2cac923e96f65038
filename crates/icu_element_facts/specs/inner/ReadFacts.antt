-- What a decomposition, its first character and the others, shows by itself.
use Rattle.std.specs.Prelude.{◌≡◌, ◌≢◌, ◌%◌, ℕ, true, false, IsTrue, List, [], ◌∷◌}
use Rattle.std.specs.List.{list_all}
use Rattle.ucd_normal.specs.CanonicalCombiningClass.{canonical_combining_class as class_of}
use Rattle.unicode_normalization.specs.Order.{is_starter}
use Rattle.icu_table_entries.specs.Elements.{Element}
use Rattle.icu_element_reading.specs.TextElements.{Reading}
use Rattle.icu_element_reading.specs.boundaries.Cuts.{IsBoundary}
use Rattle.icu_element_reading.specs.boundaries.Alone.{elements_of_char, is_alone}
use Rattle.icu_element_facts.specs.KeptFacts.{rises_to}
use Rattle.icu_element_facts.specs.declared.char_facts.CharFacts.{CharFacts}
use Rattle.icu_element_facts.specs.declared.char_facts.FactsKind.{FactsKind}
use Rattle.icu_element_facts.specs.declared.char_facts.FactsKind.TheVariants.{Starters, Marked, Mark, Base}

-- of what kind it is, if all of it stands alone
pub record IsShaped (c first : ℕ) (more : List ℕ) (kind : FactsKind) (last : ℕ) : Type 0 where
  pub starters : kind ≡ Starters → list_all is_starter (first ∷ more) ≡ true
  pub marked : kind ≡ Marked → is_starter first ≡ true
  pub in_order : kind ≡ Marked → rises_to 0 more last ≡ true
  pub mark : kind ≡ Mark → more ≡ []
  pub itself : kind ≡ Mark → first ≡ c
  pub class : kind ≡ Mark → class_of c ≡ last
  pub no_base : kind ≢ Base

-- a starter that stands alone, whose elements begin with this primary weight
pub record LeadsBy (reading : Reading) (first : ℕ) (primary : ℕ) : Type 0 where
  pub element : Element
  pub rest : List Element
  pub starter : is_starter first ≡ true
  pub alone : is_alone reading first ≡ true
  pub elements : elements_of_char reading.tables first ≡ element ∷ rest
  pub leading : element.primary ≡ primary

-- what the first character shows
pub record IsOutline (reading : Reading) (first : ℕ) (l : CharFacts) : Type 0 where
  pub begins : IsTrue l.begins_with_starter → is_starter first ≡ true
  pub boundary : IsTrue l.has_boundary_before → IsBoundary reading first
  pub leads : l.leading_primary ≢ 0 → LeadsBy reading first l.leading_primary
  pub head : l.has_boundary_before ≡ false → first % 64 ≡ l.head
