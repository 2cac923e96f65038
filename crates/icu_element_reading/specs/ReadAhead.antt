-- How far a step looks into a decomposed text, where more of it may follow.
use Rattle.std.specs.Prelude.{◌≡◌, ℕ, List, ◌++◌}
use Rattle.icu_element_reading.specs.TextElements.{Reading, Step, step}

-- a step that leaves more
abbrev pub and_more : Step → List ℕ → Step
and_more s more = record { elements = s.elements; suffix = s.suffix; rest = s.rest ++ more }

-- after these characters, a step at c before this text is the same where so much more follows, but for what it leaves
abbrev pub IsEnough : Reading → List ℕ → ℕ → List ℕ → List ℕ → Type 0
IsEnough reading before c text more = step reading before c (text ++ more) ≡ and_more (step reading before c text) more

-- so it is whatever follows
abbrev pub HasWholeStep : Reading → List ℕ → ℕ → List ℕ → Type 0
HasWholeStep reading before c text = (more : List ℕ) → IsEnough reading before c text more
