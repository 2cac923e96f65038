-- A decomposed text of which a beginning was read and some marks were taken.
use Rattle.std.specs.Prelude.{◌≡◌, ◌<◌, ◌-◌, ℕ, nat_le, List, [], ◌∷◌, ◌++◌, take, drop, slice_get, Some, if◌then◌else◌}
use Rattle.ucd_normal.specs.CanonicalCombiningClass.{canonical_combining_class as class_of}
use Rattle.unicode_normalization.specs.Order.{is_starter}
use Rattle.icu_text_decomposition.specs.MarkClasses.{AreMarks}

-- Of what is still to be read so many characters were passed over. The last of them is this mark, and those before it
-- are marks of lower classes, so that none of them blocks it (UTS #10, "Produce Collation Element Arrays").
pub record IsUnblocked (unread : List ℕ) (passed mark : ℕ) : Type 0 where
  pub some : 0 < passed
  pub last : slice_get unread (passed - 1) ≡ Some mark
  pub is_mark : 0 < class_of mark
  pub before : AreMarks (class_of mark) (take (passed - 1) unread)

-- what is still to be read without the character that was passed over last
abbrev pub without_last : List ℕ → ℕ → List ℕ
without_last unread passed = take (passed - 1) unread ++ drop passed unread

-- the marks with which the characters begin, as far as their classes are no higher than this one
unfoldable pub marks_up_to : ℕ → List ℕ → List ℕ
marks_up_to k [] = []
marks_up_to k (c ∷ cs) = if is_starter c then [] else if nat_le (class_of c) k then c ∷ marks_up_to k cs else []
