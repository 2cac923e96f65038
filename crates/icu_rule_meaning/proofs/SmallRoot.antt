-- A small root for worked rules: some letters of three scripts with their capitals, marks, digits and symbols.
use Rattle.std.proofs.Common.{ℕ, ◌==◌, List, [], ◌∷◌, map, if◌then◌else◌, Some, None, Option}
use Rattle.icu_table_entries.specs.Elements.{Element, of_primary, of_secondary, common}
use Rattle.icu_rule_meaning.specs.TailoredRoots.{RootMapping, Root}

-- characters with their primary weights
pub record Letter : Type 0 where
  pub character : ℕ
  pub primary : ℕ

abbrev letter : ℕ → ℕ → Letter
letter character primary = record { character = character; primary = primary }

-- tab, hyphen, backslash; grave accent, tilde, dollar; 1, 2, 9; a to f, h, i, t, x, y, z, thorn; alpha, beta; three
-- letters of Cyrillic; a letter of Hiragana; two ideographs
abbrev letters : List Letter
letters =
    letter 9 11 ∷ letter 0x2D 14 ∷ letter 0x5C 15 ∷ letter 0x60 21 ∷ letter 0x7E 22 ∷ letter 0x24 23
    ∷ letter 0x31 30 ∷ letter 0x32 31 ∷ letter 0x39 39
    ∷ letter 0x61 40 ∷ letter 0x62 41 ∷ letter 0x63 42 ∷ letter 0x64 43 ∷ letter 0x65 44 ∷ letter 0x66 45
    ∷ letter 0x68 48 ∷ letter 0x69 52 ∷ letter 0x74 60 ∷ letter 0x76 62 ∷ letter 0x77 63 ∷ letter 0x78 64 ∷ letter 0x79 65 ∷ letter 0x7A 66
    ∷ letter 0xFE 67 ∷ letter 0x3B1 70 ∷ letter 0x3B2 71 ∷ letter 0x430 75 ∷ letter 0x438 76 ∷ letter 0x43A 78
    ∷ letter 0x3042 80 ∷ letter 0x4E00 91 ∷ letter 0x4E01 92 ∷ []

-- A to F, H, T, X with the primary weights of their small letters
abbrev capitals : List Letter
capitals =
    letter 0x41 40 ∷ letter 0x42 41 ∷ letter 0x43 42 ∷ letter 0x44 43 ∷ letter 0x45 44 ∷ letter 0x48 48 ∷ letter 0x54 60
    ∷ letter 0x58 64 ∷ []

-- a tilde overlay, acute, grave, breve, ring, diaeresis and a dot below with their secondary weights
abbrev marks : List Letter
marks =
    letter 0x334 0x8080 ∷ letter 0x301 0x8100 ∷ letter 0x300 0x8200 ∷ letter 0x306 0x8300 ∷ letter 0x30A 0x8400 ∷ letter 0x308 0x8500
    ∷ letter 0x323 0x8600 ∷ letter 0x20E3 0x8700 ∷ []

-- the weight of a character
abbrev weight_in : List Letter → ℕ → Option ℕ
weight_in [] c = None
weight_in (l ∷ ls) c = if l.character == c then Some l.primary else weight_in ls c

-- an element of upper case
abbrev of_capital : ℕ → Element
of_capital p = record { primary = p; secondary = common; lower = 0x9C00 }

-- the mapping of a character alone
abbrev alone : List Element → List RootMapping
alone es = record { prefix = []; suffix = []; elements = es } ∷ []

-- U+0438 with a breve is a letter of its own
abbrev short_i : List RootMapping
short_i =
    record { prefix = []; suffix = 0x306 ∷ []; elements = of_primary 77 ∷ [] }
    ∷ record { prefix = []; suffix = []; elements = of_primary 76 ∷ [] } ∷ []

abbrev mappings : ℕ → List RootMapping
mappings c =
    if c == 0x438 then short_i
    else (elim (weight_in letters c) [
      | Some p ↦ alone (of_primary p ∷ [])
      | None ↦ (elim (weight_in capitals c) [
        | Some p ↦ alone (of_capital p ∷ [])
        | None ↦ (elim (weight_in marks c) [
          | Some s ↦ alone (of_secondary s ∷ [])
          | None ↦ alone (record { primary = 0; secondary = 0; lower = 0 } ∷ [])
        ])
      ])
    ])

-- those of letters, and those that begin groups, which no text has
abbrev primaries : List ℕ
primaries =
    10 ∷ 11 ∷ 14 ∷ 15 ∷ 20 ∷ 21 ∷ 22 ∷ 23 ∷ 30 ∷ 31 ∷ 39 ∷ 40 ∷ 41 ∷ 42 ∷ 43 ∷ 44 ∷ 45 ∷ 48 ∷ 52 ∷ 60 ∷ 62 ∷ 63 ∷ 64 ∷ 65 ∷ 66 ∷ 67
    ∷ 70 ∷ 71 ∷ 75 ∷ 76 ∷ 77 ∷ 78 ∷ 80 ∷ 90 ∷ 91 ∷ 92 ∷ []

abbrev weights : List ℕ → List ℕ
weights [] = primaries
weights (p ∷ []) = if p == 0 then map (λ (l : Letter). l.primary) marks else common ∷ []
weights (p ∷ s ∷ []) = if s == 0 then 0x3D00 ∷ [] else if p == 0 then common ∷ [] else common ∷ 0x1C00 ∷ []
weights (p ∷ s ∷ t ∷ ws) = []

abbrev pub small_root : Root
small_root = record { mappings = mappings; weights = weights; last_variable = 15; last_regular = 90; first_implicit = 91 }
