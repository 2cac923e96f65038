-- Marks of lower classes, behind a letter composed with a mark that contractions join.
use Rattle.std.specs.Prelude.{◌≡◌, ◌<◌, ℕ, List, [], ◌∷◌, ◌++◌, ⊤}
use Rattle.unicode_normalization.specs.Forms.{nfd}
use Rattle.ucd_normal.specs.CanonicalCombiningClass.{canonical_combining_class as class_of}
use Rattle.icu_table_data.specs.Data.{Context}
use Rattle.icu_element_reading.specs.TextElements.{Reading}
use Rattle.icu_element_cursor.specs.inner.MarkRuns.{Rises}
use Rattle.icu_element_reading.specs.boundaries.Places.{BeginsAtBoundary}
use Rattle.icu_element_cursor.specs.inner.Unjoined.{BeginsNone}

-- a mark of a class below this one, with which no mapping begins
pub record IsLowerMark (context : Context) (k d : ℕ) : Type 0 where
  pub none : BeginsNone context d
  pub mark : 0 < class_of d
  pub below : class_of d < k

-- all characters are such marks
unfoldable pub AreLowerMarks : Context → ℕ → List ℕ → Type 0
AreLowerMarks context k [] = ⊤
AreLowerMarks context k (d ∷ ds) = IsLowerMark context k d × AreLowerMarks context k ds

-- a beginning of the text is such marks, whose classes rise from this one, and the text may be cut after it
pub record AreLowerMarksBefore (reading : Reading) (context : Context) (k least : ℕ) (text : List ℕ) : Type 0 where
  pub front : List ℕ
  pub rest : List ℕ
  pub parts : text ≡ front ++ rest
  pub rises : Rises least front
  pub below : AreLowerMarks context k (nfd front)
  pub boundary : BeginsAtBoundary reading rest
