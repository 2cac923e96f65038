-- Runs of marks in a text that isn't decomposed.
use Rattle.std.specs.Prelude.{◌≡◌, ◌≢◌, ◌≤◌, ℕ, true, List, [], ◌∷◌, flat_map}
use Rattle.ucd_normal.specs.CanonicalCombiningClass.{canonical_combining_class as class_of}
use Rattle.ucd_normal.specs.declared.forms.Form.TheVariants.{Nfd}
use Rattle.unicode_normalization.specs.Decompose.{decompose}
use Rattle.icu_element_reading.specs.boundaries.Alone.{rises_from}

-- the classes of the marks that a text begins with, once it is decomposed, rise from this one
abbrev pub Rises : ℕ → List ℕ → Type 0
Rises class text = rises_from class (flat_map (decompose Nfd) text) ≡ true

-- a run of marks ends before the character
abbrev pub EndsRuns : ℕ → Type 0
EndsRuns c = (least : ℕ) (text : List ℕ) → Rises least (c ∷ text)

-- it ends there, where the class is 0, and else goes on with a mark of this class
pub record IsInRun (c class : ℕ) : Type 0 where
  pub ends : class ≡ 0 → EndsRuns c
  pub goes_on : class ≢ 0 → (least : ℕ) (text : List ℕ) → least ≤ class → Rises class text → Rises least (c ∷ text)

-- a mark of this class that decomposes to itself
pub record IsMarkItself (c k : ℕ) : Type 0 where
  pub itself : decompose Nfd c ≡ c ∷ []
  pub class : class_of c ≡ k
