-- What the words of a command line ask for.
use Rattle.std.specs.Prelude.{ℕ, List, [], ◌∷◌, Option, Some, None, if◌then◌else◌, codes, bytes_eq, option_map}
use Rattle.icu_options.specs.declared.settings.Strength.{Strength}
use Rattle.icu_options.specs.declared.settings.Strength.TheVariants.{Primary, Secondary, Tertiary, Quaternary, Identical}

-- the order of two texts at a strength
pub record Comparing : Type 0 where
  pub strength : Strength
  pub left : List ℕ
  pub right : List ℕ

-- the sort key of a text at a strength
pub record ShowingKey : Type 0 where
  pub strength : Strength
  pub text : List ℕ

-- what is asked for
pub data Asked : Type 0 where
  for_order : Comparing → Asked
  for_key : ShowingKey → Asked
  for_sorting : Strength → Asked

-- the strength that a word names
abbrev pub strength_named : List ℕ → Option Strength
strength_named word =
    if bytes_eq word (codes "1") then Some Primary
    else (if bytes_eq word (codes "2") then Some Secondary
    else (if bytes_eq word (codes "3") then Some Tertiary
    else (if bytes_eq word (codes "4") then Some Quaternary
    else (if bytes_eq word (codes "i") then Some Identical
    else None))))

-- `compare STRENGTH A B`, `key STRENGTH TEXT` and `sort STRENGTH`; all other words are wrong
abbrev pub command_of : List (List ℕ) → Option Asked
command_of (name ∷ strength ∷ left ∷ right ∷ []) =
    if bytes_eq name (codes "compare")
    then option_map (λ s. for_order (record { strength = s; left = left; right = right })) (strength_named strength)
    else None
command_of (name ∷ strength ∷ text ∷ []) =
    if bytes_eq name (codes "key")
    then option_map (λ s. for_key (record { strength = s; text = text })) (strength_named strength)
    else None
command_of (name ∷ strength ∷ []) =
    if bytes_eq name (codes "sort")
    then option_map (λ s. for_sorting s) (strength_named strength)
    else None
command_of _ = None

-- the strength that is asked for
abbrev pub strength_of : Asked → Strength
strength_of (for_order c) = c.strength
strength_of (for_key k) = k.strength
strength_of (for_sorting strength) = strength
