-- What a match leaves of the marks of each class.
use Rattle.std.specs.Prelude.{◌≡◌, ℕ, List, [], drop}
use Rattle.icu_table_data.specs.Data.{Mapping}
use Rattle.icu_text_decomposition.specs.MarkClasses.{of_class}
use Rattle.icu_element_matches.specs.Matches.{with_marks}

-- the second list is an end of the first: it drops some first members
pub record IsEndOf (xs ys : List ℕ) : Type 0 where
  pub count : ℕ
  pub is : ys ≡ drop count xs

-- of the marks of each class, those that a match leaves are the last ones (UTS #10, "Produce Collation Element Arrays")
abbrev pub MatchesLeaveEnds : Type 0
MatchesLeaveEnds = (mappings : List Mapping) (entry : ℕ) (suffix text : List ℕ) (k : ℕ) → IsEndOf (of_class k text) (of_class k (with_marks mappings entry suffix [] text).rest)
