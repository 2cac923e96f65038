-- What lines say of their file (UTS #35 part 5, "Root Collation Data Files").
use Rattle.std.specs.Prelude.{◌≡◌, ℕ, List, [], ◌∷◌, Option, Some, None, option_map, fold, string_bytes}
use Rattle.std.specs.List.{flat_map}
use Rattle.std.specs.Option.{option_or}
use Rattle.icu_cldr_root.specs.declared.file_facts.FileFacts.{FileFacts}
use Rattle.icu_cldr_root.specs.declared.fixed_bytes.FixedByte.{FixedByte}
use Rattle.icu_cldr_root.specs.declared.line.Line.{Line}
use Rattle.icu_cldr_root.specs.declared.line.Line.TheVariants as says
use Rattle.icu_cldr_root.specs.declared.reserved.ReservedRange.{ReservedRange}

-- the bytes that a line fixes
abbrev pub fixed_by : Line → List FixedByte
fixed_by (says.Fixed f) = f ∷ []
fixed_by _ = []

-- the range that a line leaves free
abbrev pub reserved_by : Line → List ReservedRange
reserved_by (says.Reserved r) = r ∷ []
reserved_by _ = []

-- the version that a line says
abbrev pub version_by : Line → Option (List ℕ)
version_by (says.Version text) = Some (string_bytes text)
version_by _ = None

-- the version by lines, of which the last that says one counts
abbrev pub version_said : List Line → Option (List ℕ)
version_said said = fold (λ version line. option_or (version_by line) version) None said

-- these are what lines say: the version, all bytes that they fix and all ranges that they leave free, in their order
pub record SaysFacts (facts : FileFacts) (said : List Line) : Type 0 where
  pub version : option_map string_bytes facts.version ≡ version_said said
  pub fixed : facts.fixed.items ≡ flat_map fixed_by said
  pub reserved : facts.reserved.items ≡ flat_map reserved_by said
