-- The context that a text leaves, and contexts that what follows a boundary can't tell apart.
use Rattle.std.specs.Prelude.{ℕ, ◌≡◌, List, [], ◌∷◌}
use Rattle.icu_element_reading.specs.TextElements.{Reading, step, consumed, last_two}
use Rattle.icu_element_reading.specs.boundaries.Cuts.{cut}

-- two contexts that have the same characters up to the first x, nearest character first
abbrev pub AgreeUpTo : ℕ → List ℕ → List ℕ → Type 0
AgreeUpTo x p q = cut x p ≡ cut x q

-- the last two characters consumed, once as many steps are taken as a list has members, at most
unfoldable pub context_along : List ℕ → Reading → List ℕ → List ℕ → List ℕ
context_along along reading before [] = before
context_along [] reading before (c ∷ text) = before
context_along (_ ∷ along) reading before (c ∷ text) =
    let s = step reading before c text in context_along along reading (last_two before (consumed c s)) s.rest

-- the last two characters consumed, nearest first, once a decomposed text is read
unfoldable pub context_left : Reading → List ℕ → List ℕ → List ℕ
context_left reading before text = context_along text reading before text
