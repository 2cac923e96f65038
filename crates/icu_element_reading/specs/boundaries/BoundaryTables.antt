-- Characters before which a text may be cut.
use Rattle.std.specs.Prelude.{◌≡◌, ℕ, List, ◌∷◌}
use Rattle.ucd_normal.specs.declared.forms.Form.TheVariants.{Nfd}
use Rattle.unicode_normalization.specs.Decompose.{decompose}
use Rattle.icu_element_reading.specs.TextElements.{Reading}
use Rattle.icu_element_reading.specs.Reading.{reading_of}
use Rattle.icu_element_reading.specs.boundaries.Cuts.{IsBoundary}
use Rattle.icu_element_reading.specs.declared.boundaries.boundary_tables.Boundaries.{Boundaries}

-- the character's decomposition begins with a boundary
pub record HasBoundaryBefore (reading : Reading) (c : ℕ) : Type 0 where
  pub first : ℕ
  pub more : List ℕ
  pub decomposes : decompose Nfd c ≡ first ∷ more
  pub boundary : IsBoundary reading first

-- how the texts are read that may be cut
unfoldable pub boundary_reading : Boundaries → Reading
boundary_reading s = reading_of s.reading
