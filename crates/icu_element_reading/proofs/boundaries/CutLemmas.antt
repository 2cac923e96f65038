-- A text that is cut at a boundary.
use Rattle.std.proofs.Common.{◌≡◌, ℕ, List, ◌∷◌, ◌++◌, sym, ap, ◌∙◌, append_assoc}
use Rattle.ucd_normal.specs.declared.forms.Form.TheVariants.{Nfd}
use Rattle.unicode_normalization.specs.Decompose.{decompose}
use Rattle.unicode_normalization.specs.Forms.{nfd}
use Rattle.icu_element_reading.specs.TextElements.{Reading, Step, step, elements_after, elements_of}
use Rattle.icu_element_reading.specs.ReadAhead.{and_more, HasWholeStep}
use Rattle.icu_element_reading.specs.boundaries.Cuts.{IsBoundary}
use Rattle.icu_element_reading.proofs.boundaries.NfdLemmas.{rest_after, nfd-begins, nfd-parted}
use Rattle.icu_element_reading.proofs.boundaries.StepCuts.{elements_after-at, elements_after-append, step-append}

module _ (reading : Reading) (c s : ℕ) (ts tail : List ℕ) (split : decompose Nfd c ≡ s ∷ ts) (boundary : IsBoundary reading s) where
  -- at a character whose decomposition begins with s, the elements of a text are those of its two parts
  pub boundary_cut : (before head : List ℕ) → elements_after reading before (nfd (head ++ c ∷ tail)) ≡ elements_after reading before (nfd head) ++ elements_of reading (nfd (c ∷ tail))
  boundary_cut before head =
      ap (elements_after reading before) (nfd-parted c s ts tail split boundary.starter head)
      ∙ elements_after-append reading before (nfd head) s (rest_after c s ts tail split boundary.starter) boundary
      ∙ ap (λ (t : List ℕ). elements_after reading before (nfd head) ++ elements_of reading t) (sym (nfd-begins c s ts tail split boundary.starter))

  -- from there on they are the same after any context
  pub boundary_start : (p q : List ℕ) → elements_after reading p (nfd (c ∷ tail)) ≡ elements_after reading q (nfd (c ∷ tail))
  boundary_start p q =
      ap (elements_after reading p) (nfd-begins c s ts tail split boundary.starter)
      ∙ elements_after-at reading p q s (rest_after c s ts tail split boundary.starter) boundary
      ∙ ap (elements_after reading q) (sym (nfd-begins c s ts tail split boundary.starter))

-- a text with a boundary in it is enough for a step before that
pub HasWholeStep-boundary : (reading : Reading) (before : List ℕ) (c : ℕ) (front : List ℕ) (x : ℕ) (back : List ℕ) → IsBoundary reading x → HasWholeStep reading before c (front ++ x ∷ back)
HasWholeStep-boundary reading before c front x back boundary left =
    let s = step reading before c front in
    let with_rest : List ℕ → Step = λ r. record { elements = s.elements; suffix = s.suffix; rest = r } in
    ap (step reading before c) (append_assoc front (x ∷ back) left)
    ∙ step-append reading before c front x (back ++ left) boundary
    ∙ ap with_rest (sym (append_assoc s.rest (x ∷ back) left))
    ∙ ap (λ s. and_more s left) (sym (step-append reading before c front x back boundary))
