-- What variable weighting leaves of the elements of a text (UTS #10, "Variable Weighting").
use Rattle.std.specs.Prelude.{ℕ, Bool, true, false, ◌&&◌, ◌==◌, nat_lt, nat_le, List, [], ◌∷◌, ◌++◌, if◌then◌else◌}
use Rattle.icu_options.specs.declared.settings.AlternateHandling.{AlternateHandling}
use Rattle.icu_options.specs.declared.settings.AlternateHandling.TheVariants.{NonIgnorable, Shifted, Blanked}
use Rattle.icu_table_entries.specs.Elements.{Element}
use Rattle.icu_table_entries.specs.ElementConditions.{separator_primary}

-- an element that stayed, or the primary of one that is shifted, before reordering
pub data HandledElement : Type 0 where
  stayed : Element → HandledElement
  shifted_primary : ℕ → HandledElement

-- above the merge separator, and up to the last primary of the variable groups: where that is 0, no element is variable
abbrev pub is_variable : ℕ → Element → Bool
is_variable last x = nat_lt separator_primary x.primary && nat_le x.primary last

-- What becomes of a variable element with this primary: it vanishes where it is blanked, and else it is shifted. Where
-- variable elements are handled as all others are, none is variable (`last_variable`)
abbrev pub handled_variable : AlternateHandling → ℕ → List HandledElement
handled_variable NonIgnorable p = shifted_primary p ∷ []
handled_variable Shifted p = shifted_primary p ∷ []
handled_variable Blanked p = []

-- From the left: a variable element is shifted or blanked, and elements without a primary after it vanish until one
-- that has a primary stays. The flag says that a variable element came last.
unfoldable pub handled : AlternateHandling → ℕ → Bool → List Element → List HandledElement
handled handling last after [] = []
handled handling last after (x ∷ xs) =
    if is_variable last x then handled_variable handling x.primary ++ handled handling last true xs
    else if after && x.primary == 0 then handled handling last true xs
    else stayed x ∷ handled handling last false xs

-- the elements that stayed: each level before the quaternary one reads these alone
abbrev pub stayed_elements : List HandledElement → List Element
stayed_elements [] = []
stayed_elements (stayed x ∷ hs) = x ∷ stayed_elements hs
stayed_elements (shifted_primary p ∷ hs) = stayed_elements hs
