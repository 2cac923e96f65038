-- Marks of one class that join a match one by one, or are passed over.
use Rattle.std.proofs.Common.{◌≡◌, ℕ, ◌+◌, ◌<◌, ◌≤◌, true, false, List, [], ◌∷◌, ◌++◌, Some, None, is_some, refl, sym, ap, ◌∙◌, append_assoc, append-nil, arith}
use Rattle.std.specs.Prelude.{slice_get, max}
use Rattle.std.proofs.lemmas.Bool.{eq-eqb, le-leb, lt-leb}
use Rattle.std.proofs.lemmas.Option.{same_Some}
use Rattle.icu_text_decomposition.proofs.FrontMarkLemmas.{no_starter}
use Rattle.ucd_normal.specs.CanonicalCombiningClass.{canonical_combining_class as class_of}
use Rattle.unicode_normalization.specs.Order.{is_starter}
use Rattle.icu_table_data.specs.Data.{Mapping, mapping_entry}
use Rattle.icu_element_matches.specs.Matches.{Match, is_blocked, with_marks}
use Rattle.icu_element_matches.specs.inner.Joining.{greatest_class}
use Rattle.icu_element_matches.specs.inner.MarkQueues.{HasNoMark}
use Rattle.icu_element_matches.proofs.MarkLemmas.{blocked_by_greatest, greatest_more, at_starter, at_blocked, at_joining, at_other}
use Rattle.icu_element_matches.proofs.MarkQueueLemmas.{AreOfClass}

-- ---- the greatest class

-- marks of a class that isn't above it leave it as it is
pub greatest_same : (passed ms : List ℕ) (k : ℕ) → AreOfClass k ms → k ≤ greatest_class passed → greatest_class (passed ++ ms) ≡ greatest_class passed
greatest_same passed [] k all below = ap greatest_class (append-nil passed)
greatest_same passed (m ∷ ms) k all below =
    let first : greatest_class (passed ++ m ∷ []) ≡ greatest_class passed = omega (arith, greatest_more passed m, all.0, below) in
    ap greatest_class (sym (append_assoc passed (m ∷ []) ms))
    ∙ greatest_same (passed ++ m ∷ []) ms k all.1 (omega (arith, first, below)) ∙ first

-- marks of a class above it make it theirs
pub greatest_new : (passed ms : List ℕ) (k m : ℕ) → AreOfClass k ms → greatest_class passed < k → slice_get ms 0 ≡ Some m → greatest_class (passed ++ ms) ≡ k
greatest_new passed [] k m all above at = cc
greatest_new passed (x ∷ xs) k m all above at =
    let first : greatest_class (passed ++ x ∷ []) ≡ k = omega (arith, greatest_more passed x, all.0, above) in
    ap greatest_class (sym (append_assoc passed (x ∷ []) xs))
    ∙ greatest_same (passed ++ x ∷ []) xs k all.1 (omega (arith, first)) ∙ first

module _ (mappings : List Mapping) where
  -- ---- marks that are passed over

  -- those of a class that isn't above the greatest
  pub pass_class : (entry : ℕ) (suffix passed ms left : List ℕ) (k : ℕ) → 0 < k → AreOfClass k ms → k ≤ greatest_class passed
      → with_marks mappings entry suffix (passed ++ ms) left ≡ with_marks mappings entry suffix passed (ms ++ left)
  pass_class entry suffix passed [] left k mark all below =
      ap (λ (l : List ℕ). with_marks mappings entry suffix l left) (append-nil passed)
  pass_class entry suffix passed (m ∷ ms) left k mark all below =
      let is_mark : 0 < class_of m = omega (arith, mark, all.0) in
      let blocked : is_blocked passed m ≡ true = blocked_by_greatest passed m is_mark ∙ le-leb _ _ (omega (arith, all.0, below)) in
      let more : k ≤ greatest_class (passed ++ m ∷ []) = omega (arith, greatest_more passed m, below) in
      ap (λ (l : List ℕ). with_marks mappings entry suffix l left) (sym (append_assoc passed (m ∷ []) ms))
      ∙ pass_class entry suffix (passed ++ m ∷ []) ms left k mark all.1 more
      ∙ sym (at_blocked mappings entry suffix passed (m ∷ (ms ++ left)) 0 m refl (no_starter m is_mark) blocked)

  -- those of a class above it, where the first doesn't join
  pub pass_others : (entry : ℕ) (suffix passed ms left : List ℕ) (k m : ℕ) → 0 < k → AreOfClass k ms → greatest_class passed < k → slice_get ms 0 ≡ Some m
      → mapping_entry mappings (suffix ++ m ∷ []) ≡ None → with_marks mappings entry suffix (passed ++ ms) left ≡ with_marks mappings entry suffix passed (ms ++ left)
  pass_others entry suffix passed [] left k m mark all above at none = cc
  pass_others entry suffix passed (x ∷ xs) left k m mark all above at none =
      let same : x ≡ m = same_Some x m at in
      let is_mark : 0 < class_of x = omega (arith, mark, all.0) in
      let free : is_blocked passed x ≡ false = blocked_by_greatest passed x is_mark ∙ lt-leb _ _ (omega (arith, all.0, above)) in
      let more : k ≤ greatest_class (passed ++ x ∷ []) = omega (arith, greatest_more passed x, all.0) in
      let other : mapping_entry mappings (suffix ++ x ∷ []) ≡ None = ap (λ y. mapping_entry mappings (suffix ++ y ∷ [])) same ∙ none in
      ap (λ (l : List ℕ). with_marks mappings entry suffix l left) (sym (append_assoc passed (x ∷ []) xs))
      ∙ pass_class entry suffix (passed ++ x ∷ []) xs left k mark all.1 more
      ∙ sym (at_other mappings entry suffix passed (x ∷ (xs ++ left)) 0 x refl (no_starter x is_mark) free other)

  -- ---- a mark that joins

  pub join_first : (entry joined : ℕ) (suffix passed ms rest left : List ℕ) (k m : ℕ) → 0 < k → AreOfClass k ms → greatest_class passed < k → ms ≡ m ∷ rest
      → mapping_entry mappings (suffix ++ m ∷ []) ≡ Some joined → with_marks mappings joined (suffix ++ m ∷ []) passed (rest ++ left) ≡ with_marks mappings entry suffix passed (ms ++ left)
  join_first entry joined suffix passed [] rest left k m mark all above is some = cc
  join_first entry joined suffix passed (x ∷ xs) rest left k m mark all above is some =
      let same : x ≡ m = cc in
      let others : xs ≡ rest = cc in
      let is_mark : 0 < class_of x = omega (arith, mark, all.0) in
      let free : is_blocked passed x ≡ false = blocked_by_greatest passed x is_mark ∙ lt-leb _ _ (omega (arith, all.0, above)) in
      let joins : mapping_entry mappings (suffix ++ x ∷ []) ≡ Some joined = ap (λ y. mapping_entry mappings (suffix ++ y ∷ [])) same ∙ some in
      ap (λ y. with_marks mappings joined (suffix ++ y ∷ []) passed (rest ++ left)) (sym same)
      ∙ ap (λ (l : List ℕ). with_marks mappings joined (suffix ++ x ∷ []) passed (l ++ left)) (sym others)
      ∙ sym (at_joining mappings entry suffix passed (x ∷ (xs ++ left)) 0 x refl joined (no_starter x is_mark) free joins)

  -- ---- where no mark comes next

  pub ends_marks : (entry : ℕ) (suffix passed left : List ℕ) → HasNoMark left → with_marks mappings entry suffix passed left ≡ record { entry = entry; suffix = suffix; rest = passed ++ left }
  unfolding with_marks
  ends_marks entry suffix passed [] none = ap (λ (l : List ℕ). record { entry = entry; suffix = suffix; rest = l }) (sym (append-nil passed))
  ends_marks entry suffix passed (c ∷ cs) none = at_starter mappings entry suffix passed (c ∷ cs) 0 c refl (eq-eqb (class_of c) 0 none)

-- ---- marks of which none is left

pub greatest_some : (passed ms : List ℕ) (k : ℕ) → AreOfClass k ms → greatest_class passed < k → is_some (slice_get ms 0) ≡ true → greatest_class (passed ++ ms) ≡ k
greatest_some passed [] k all above some = cc
greatest_some passed (x ∷ xs) k all above some = greatest_new passed (x ∷ xs) k x all above refl

pub greatest_none : (passed ms : List ℕ) → is_some (slice_get ms 0) ≡ false → greatest_class (passed ++ ms) ≡ greatest_class passed
greatest_none passed [] none = ap greatest_class (append-nil passed)
greatest_none passed (x ∷ xs) none = cc

pub pass_none : (mappings : List Mapping) (entry : ℕ) (suffix passed ms left : List ℕ) → slice_get ms 0 ≡ None → with_marks mappings entry suffix (passed ++ ms) left ≡ with_marks mappings entry suffix passed (ms ++ left)
pass_none mappings entry suffix passed [] left none = ap (λ (l : List ℕ). with_marks mappings entry suffix l left) (append-nil passed)
pass_none mappings entry suffix passed (x ∷ xs) left none = cc
