-- The elements of a line, as tables have them.
use Rattle.std.specs.Prelude.{◌≡◌, ℕ, ◌+◌, ◌/◌, ◌^◌, ◌==◌, List, Option, Some, map, option_map, if◌then◌else◌}
use Rattle.icu_table_entries.specs.Elements.{Element}
use Rattle.icu_table_entries.specs.EncodedEntries.{of_weights}
use Rattle.icu_cldr_root.specs.declared.fractional_element.FractionalElement.{FractionalElement}
use Rattle.icu_cldr_root.specs.declared.fractional_element.Primary.{Primary}
use Rattle.icu_cldr_root.specs.declared.fractional_element.Primary.TheVariants.{Weight, OfIdeograph}

-- A primary weight as tables have it: those with lead byte EF stand behind all others, and have FF there, since
-- implicit weights have FE; the first one of unassigned characters is the implicit weight before that of U+0000.
abbrev pub respelt : ℕ → ℕ
respelt primary =
    if primary == 0xE4000000 then 0xFE040202
    else (if primary / 2 ^ 24 == 0xEF then primary + 0x10000000 else primary)

-- a primary weight, by those of ideographs
abbrev pub primary_said : (ℕ → Option ℕ) → Primary → Option ℕ
primary_said of_ideograph (Weight weight) = Some (respelt weight)
primary_said of_ideograph (OfIdeograph c) = of_ideograph c

-- an element, by the weights of ideographs
abbrev pub element_said : (ℕ → Option ℕ) → FractionalElement → Option Element
element_said of_ideograph e = option_map (λ p. of_weights p e.secondary e.tertiary) (primary_said of_ideograph e.primary)

-- what is written of elements says these
abbrev pub AreSaid : (ℕ → Option ℕ) → List FractionalElement → List Element → Type 0
AreSaid of_ideograph read elements = map (element_said of_ideograph) read ≡ map Some elements
