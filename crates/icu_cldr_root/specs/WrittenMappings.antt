-- What a line of a mapping says (UTS #35 part 5, "Root Collation Data Files" and "Context-Sensitive Mappings").
use Rattle.std.specs.Prelude.{◌≡◌, ℕ, ◌<◌, ◌==◌, ◌&&◌, Bool, List, [], ◌∷◌, ◌⊎◌, length}
use Rattle.icu_cldr_root.specs.LineParts.{Lacks}
use Rattle.icu_cldr_root.specs.Words.{IsCutAt, WriteCharacters}
use Rattle.icu_cldr_root.specs.WrittenElements.{WriteElements}
use Rattle.icu_cldr_root.specs.declared.mapping.Mapping.{Mapping}

-- characters, and those before a bar, if there is one
abbrev pub WriteContext : List ℕ → List ℕ → List ℕ → Type 0
WriteContext text prefix mapped =
    (Lacks 124 text × (prefix ≡ []) × WriteCharacters text mapped)
    ⊎ ((before : List ℕ) × (behind : List ℕ) × IsCutAt 124 text before behind
    × (0 < length prefix) × WriteCharacters before prefix × WriteCharacters behind mapped)

-- characters, a semicolon, and their elements
abbrev pub WritesMapping : List ℕ → Mapping → Type 0
WritesMapping text m = (left : List ℕ) × (right : List ℕ) × IsCutAt 59 text left right
    × WriteContext left m.prefix.items (m.first ∷ m.suffix.items)
    × WriteElements right m.elements.items × (0 < length m.elements.items)

-- a mapping of one character wherever it stands
abbrev pub is_without_context : Mapping → Bool
is_without_context m = length m.prefix.items == 0 && length m.suffix.items == 0
