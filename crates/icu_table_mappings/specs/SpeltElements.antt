-- What entries give that spell elements (UTS #10, "Expansions").
use Rattle.std.specs.Prelude.{ℕ, ◌≡◌, List}
use Rattle.icu_table_entries.specs.Elements.{Element}
use Rattle.icu_table_data.specs.Data.{Data, homed}
use Rattle.icu_table_data.specs.Final.{final_elements}
use Rattle.icu_table_mappings.specs.Given.{Spells}

-- an entry that spells elements has these for each character
abbrev pub SpeltElementsAreFinal : Type 0
SpeltElementsAreFinal = (d : Data) (e : ℕ) (es : List Element) → Spells d e es → (c : ℕ) → final_elements (homed d e) c ≡ es
