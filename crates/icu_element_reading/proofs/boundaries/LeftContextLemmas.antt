-- The context that a text leaves.
use Rattle.std.proofs.Common.{◌≡◌, ℕ, ◌≤◌, List, [], ◌∷◌, ◌++◌, length, reverse, refl, ap, ◌∙◌, arith, length-append}
use Rattle.icu_element_reading.specs.TextElements.{Reading, Step, step, consumed, last_two, elements_after}
use Rattle.icu_element_reading.specs.boundaries.Cuts.{cut, IsBoundary}
use Rattle.icu_element_reading.specs.boundaries.LeftContexts.{AgreeUpTo, context_along, context_left}
use Rattle.icu_element_reading.proofs.StepLemmas.{Rests-step}
use Rattle.icu_element_reading.proofs.boundaries.MatchCuts.{same_cut}
use Rattle.icu_element_reading.proofs.boundaries.StepCuts.{step-append, step-same, step-at, cut-last_two, cut_taken, elements_along-same}

pub context_along-enough : (reading : Reading) (along others before text : List ℕ) → length text ≤ length along → length text ≤ length others → context_along along reading before text ≡ context_along others reading before text
unfolding context_along
context_along-enough reading along others before [] fits fit = refl
context_along-enough reading [] others before (c ∷ text) fits fit = absurd (omega arith)
context_along-enough reading (_ ∷ along) [] before (c ∷ text) fits fit = absurd (omega arith)
context_along-enough reading (_ ∷ along) (_ ∷ others) before (c ∷ text) fits fit =
    let s = step reading before c text in
    let shorter = (Rests-step reading before c text).fits in
    context_along-enough reading along others (last_two before (consumed c s)) s.rest (omega (arith, shorter)) (omega (arith, shorter))

-- alike contexts give the same elements, and leave alike contexts
pub elements_after-alike : (reading : Reading) (x : ℕ) (p q text : List ℕ) → IsBoundary reading x → AgreeUpTo x p q → elements_after reading p text ≡ elements_after reading q text
unfolding elements_after
elements_after-alike reading x p q text boundary alike = elements_along-same reading x text p q text boundary alike

context_along-alike : (reading : Reading) (x : ℕ) (along p q text : List ℕ) → IsBoundary reading x → AgreeUpTo x p q → AgreeUpTo x (context_along along reading p text) (context_along along reading q text)
unfolding context_along
context_along-alike reading x along p q [] boundary alike = alike
context_along-alike reading x [] p q (c ∷ text) boundary alike = alike
context_along-alike reading x (_ ∷ along) p q (c ∷ text) boundary alike =
    let s = step reading p c text in
    let after = cut-last_two x p q (consumed c s) (same_cut x (reverse (consumed c s)) p q alike) in
    context_along-alike reading x along (last_two p (consumed c s)) (last_two q (consumed c s)) s.rest boundary after
    ∙ ap (λ (s : Step). cut x (context_along along reading (last_two q (consumed c s)) s.rest)) (step-same reading x p q c text boundary alike)

-- from x on, whatever the contexts were
context_along-at : (reading : Reading) (x : ℕ) (along p q more : List ℕ) → IsBoundary reading x → length more ≤ length along → AgreeUpTo x (context_along (x ∷ along) reading p (x ∷ more)) (context_along (x ∷ along) reading q (x ∷ more))
unfolding context_along
context_along-at reading x along p q more boundary fits =
    let s = step reading p x more in
    let after = cut-last_two x p q (consumed x s) (cut_taken x s.suffix p q) in
    context_along-alike reading x along (last_two p (consumed x s)) (last_two q (consumed x s)) s.rest boundary after
    ∙ ap (λ (s : Step). cut x (context_along along reading (last_two q (consumed x s)) s.rest)) (step-at reading p q x more boundary)

context_along-whole : (reading : Reading) (x : ℕ) (along before head more : List ℕ) → IsBoundary reading x → length (head ++ x ∷ more) ≤ length along
    → AgreeUpTo x (context_along along reading before (head ++ x ∷ more)) (context_left reading [] (x ∷ more))
unfolding context_along context_left
context_along-whole reading x along before [] more boundary fits =
    ap (cut x) (context_along-enough reading along (x ∷ more) before (x ∷ more) fits (omega arith))
    ∙ context_along-at reading x more before [] more boundary (omega arith)
context_along-whole reading x [] before (c ∷ head) more boundary fits = absurd (omega arith)
context_along-whole reading x (_ ∷ along) before (c ∷ head) more boundary fits =
    let s = step reading before c head in
    let shorter = (Rests-step reading before c head).fits in
    let room : length (s.rest ++ x ∷ more) ≤ length along = omega (arith, shorter, length-append s.rest (x ∷ more), length-append head (x ∷ more)) in
    ap (λ (s : Step). cut x (context_along along reading (last_two before (consumed c s)) s.rest)) (step-append reading before c head x more boundary)
    ∙ context_along-whole reading x along (last_two before (consumed c s)) s.rest more boundary room

-- what a piece from a boundary leaves is alike to what the whole text leaves
pub context_left-piece : (reading : Reading) (x : ℕ) (before head more : List ℕ) → IsBoundary reading x → AgreeUpTo x (context_left reading before (head ++ x ∷ more)) (context_left reading [] (x ∷ more))
unfolding context_left
context_left-piece reading x before head more boundary = context_along-whole reading x (head ++ x ∷ more) before head more boundary (omega arith)

-- so what follows the piece gives the same elements after either
pub elements_after-piece : (reading : Reading) (x : ℕ) (before head more text : List ℕ) → IsBoundary reading x
    → elements_after reading (context_left reading before (head ++ x ∷ more)) text ≡ elements_after reading (context_left reading [] (x ∷ more)) text
elements_after-piece reading x before head more text boundary =
    elements_after-alike reading x (context_left reading before (head ++ x ∷ more)) (context_left reading [] (x ∷ more)) text boundary (context_left-piece reading x before head more boundary)
