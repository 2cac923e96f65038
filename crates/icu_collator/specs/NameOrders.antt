-- The order of names, and names that are sorted (UTS #10, "Compare Sort Keys").
use Rattle.std.specs.Prelude.{ℕ, List}
use Rattle.std.specs.List.Sorted.{IsPermutation, IsSorted, IsStable}
use Rattle.std.specs.declared.cmp.Ordering.{Ordering}
use Rattle.icu_text_encodings.specs.DecodedTexts.{utf8_text}
use Rattle.icu_order_texts.specs.Collations.{Collation}
use Rattle.icu_order_texts.specs.TextOrder.{text_order}

-- the order of two names, which are bytes in UTF-8 that may be damaged: that of their texts
abbrev pub name_order : Collation → List ℕ → List ℕ → Ordering
name_order c x y = text_order c (utf8_text x) (utf8_text y)

-- the same names in order, equal ones as they stood
pub record IsStablySorted (order : List ℕ → List ℕ → Ordering) (names sorted : List (List ℕ)) : Type 0 where
  pub permutation : IsPermutation names sorted
  pub ascends : IsSorted order sorted
  pub stable : IsStable order names sorted
