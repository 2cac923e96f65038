-- Parts of a text with which no match begins, and parts whose characters are known.
use Rattle.std.specs.Prelude.{ℕ, ◌<◌}
use Rattle.icu_search_places.specs.declared.barren_part.BarrenPart.{BarrenPart}
use Rattle.icu_search_places.specs.declared.known_parts.KnownParts.{KnownParts}

-- a part is so, unless it ends at 0
abbrev pub SaysBarren : (BarrenPart → Type 0) → BarrenPart → Type 0
SaysBarren is_barren part = 0 < part.stop → is_barren part

-- so is the barren part of what is known, and the other one is as it has to be, unless it ends at 0
pub record SaysKnown (is_barren : BarrenPart → Type 0) (is_run : ℕ → ℕ → Type 0) (known : KnownParts) : Type 0 where
  pub barren : SaysBarren is_barren known.barren
  pub run : 0 < known.run_stop → is_run known.run_start known.run_stop
