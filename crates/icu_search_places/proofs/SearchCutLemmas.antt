-- A text that is cut at a boundary that leads: the places of each piece are those of the whole there.
use Rattle.std.proofs.Common.{◌≡◌, ℕ, ◌<◌, ◌≤◌, Bool, false, ◌||◌, List, [], ◌∷◌, ◌++◌, length, reverse, refl, ap, ◌∙◌, arith, length-append}
use Rattle.std.specs.List.{list_any}
use Rattle.std.specs.Str.{bytes_eq}
use Rattle.std.proofs.lemmas.Bool.{false_from_ne_true}
use Rattle.std.proofs.lemmas.Slice.Eq.{bytes_eq-Decides}
use Rattle.icu_element_reading.specs.TextElements.{Reading, Step, step, consumed, last_two}
use Rattle.icu_element_reading.proofs.StepLemmas.{Rests-step}
use Rattle.icu_element_reading.specs.boundaries.Cuts.{cut, IsBoundary}
use Rattle.icu_element_reading.proofs.boundaries.MatchCuts.{same_cut}
use Rattle.icu_element_reading.proofs.boundaries.StepCuts.{step-append, step-same, step-at, cut-last_two, cut_taken}
use Rattle.icu_search_places.specs.SearchPlaces.{rests_along}
use Rattle.icu_search_places.proofs.RestLemmas.{comes_to, rests_along-enough}

-- ---- what a boundary leaves to come

-- contexts that are alike before the boundary leave the same to come
rests_along-same : (reading : Reading) (x : ℕ) (along p q text : List ℕ) → IsBoundary reading x → cut x p ≡ cut x q → rests_along along reading p text ≡ rests_along along reading q text
unfolding rests_along
rests_along-same reading x along p q [] boundary same = refl
rests_along-same reading x [] p q (c ∷ text) boundary same = refl
rests_along-same reading x (_ ∷ along) p q (c ∷ text) boundary same =
    let s = step reading p c text in
    let after = cut-last_two x p q (consumed c s) (same_cut x (reverse (consumed c s)) p q same) in
    ap (λ (l : List (List ℕ)). (c ∷ text) ∷ l) (rests_along-same reading x along (last_two p (consumed c s)) (last_two q (consumed c s)) s.rest boundary after)
    ∙ ap (λ (s : Step). (c ∷ text) ∷ rests_along along reading (last_two q (consumed c s)) s.rest) (step-same reading x p q c text boundary same)

-- from the boundary on it is the same after any context
rests_along-at : (reading : Reading) (x : ℕ) (along p q more : List ℕ) → IsBoundary reading x → rests_along along reading p (x ∷ more) ≡ rests_along along reading q (x ∷ more)
unfolding rests_along
rests_along-at reading x [] p q more boundary = refl
rests_along-at reading x (_ ∷ along) p q more boundary =
    let s = step reading p x more in
    let after = cut-last_two x p q (consumed x s) (cut_taken x s.suffix p q) in
    ap (λ (l : List (List ℕ)). (x ∷ more) ∷ l) (rests_along-same reading x along (last_two p (consumed x s)) (last_two q (consumed x s)) s.rest boundary after)
    ∙ ap (λ (s : Step). (x ∷ more) ∷ rests_along along reading (last_two q (consumed x s)) s.rest) (step-at reading p q x more boundary)

differs_by_length : (l text : List ℕ) → length l < length text → bytes_eq l text ≡ false
differs_by_length l text short = false_from_ne_true (bytes_eq l text) (λ h. omega (arith, ap length ((bytes_eq-Decides l text).0 h), short))

-- of what is no longer than the text from the boundary on, the reading of the whole comes to the same
cut_along : (along : List ℕ) (reading : Reading) (before front : List ℕ) (x : ℕ) (more left : List ℕ) → IsBoundary reading x → length left ≤ length (x ∷ more) → length (front ++ x ∷ more) ≤ length along
    → comes_to along reading before (front ++ x ∷ more) left ≡ comes_to (x ∷ more) reading [] (x ∷ more) left
unfolding rests_along
cut_along along reading before [] x more left boundary fits room =
    ap (list_any (bytes_eq left)) (rests_along-at reading x along before [] more boundary ∙ rests_along-enough reading along (x ∷ more) [] (x ∷ more) room (omega arith))
cut_along [] reading before (c ∷ front) x more left boundary fits room = absurd (omega arith)
cut_along (_ ∷ along) reading before (c ∷ front) x more left boundary fits room =
    let s = step reading before c front in
    let whole = front ++ x ∷ more in
    let shorter = (Rests-step reading before c front).fits in
    let smaller : length (s.rest ++ x ∷ more) ≤ length along = omega (arith, shorter, room, length-append s.rest (x ∷ more), length-append front (x ∷ more)) in
    let later : Step → Bool = λ s. comes_to along reading (last_two before (consumed c s)) s.rest left in
    ap (λ b. b || later (step reading before c whole)) (differs_by_length left (c ∷ whole) (omega (arith, fits, length-append front (x ∷ more))))
    ∙ ap later (step-append reading before c front x more boundary)
    ∙ cut_along along reading (last_two before (consumed c s)) s.rest x more left boundary fits smaller

pub cut_rests : (reading : Reading) (front : List ℕ) (x : ℕ) (more left : List ℕ) → IsBoundary reading x → length left ≤ length (x ∷ more)
    → comes_to (front ++ x ∷ more) reading [] (front ++ x ∷ more) left ≡ comes_to (x ∷ more) reading [] (x ∷ more) left
cut_rests reading front x more left boundary fits = cut_along (front ++ x ∷ more) reading [] front x more left boundary fits (omega arith)
