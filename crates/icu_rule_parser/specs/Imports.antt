-- Imports (UTS #35 part 5, "Collation Tailorings").
use Rattle.std.specs.Prelude.{ℕ, Bool, true, false, not, List, [], ◌∷◌, ◌++◌, map, Option, Some, None, ◌≡◌, ◌⊎◌, String, string_bytes, chars}
use Rattle.std.specs.declared.alloc.Global.{Global}
use Rattle.icu_rule_parser.specs.declared.rules.PlacedStatement.{PlacedStatement}
use Rattle.icu_rule_parser.specs.declared.statement.Statement.{Statement}
use Rattle.icu_rule_parser.specs.declared.statement.Statement.TheVariants.{Reset, Relation, Starred, Setting, Import}
use Rattle.icu_rule_parser.specs.Statements.{SpellStatements}

-- whether a statement is an import
abbrev pub is_import : Statement → Bool
is_import (Reset reset) = false
is_import (Relation r) = false
is_import (Starred r) = false
is_import (Setting setting) = false
is_import (Import tag) = true

-- whether a statement, wherever it stands, is none
abbrev pub has_no_import : PlacedStatement → Bool
has_no_import placed = not (is_import placed.statement)

-- a place in the rules that were asked for: that of the import that led here, if one did
abbrev pub outermost : ℕ → Option ℕ → ℕ
outermost place None = place
outermost place (Some led) = led

-- a statement to which the import at this place led
abbrev pub led_by : ℕ → PlacedStatement → PlacedStatement
led_by led placed = record { place = placed.place; import = Some led; statement = placed.statement }

-- The statements are those that an import stands for: those of rules that its tag has, with the import's place in the
-- rules that were asked for. `has` says which rules a tag has.
pub record AreImported (has : List ℕ → List ℕ → Type 0) (placed : PlacedStatement) (added : List PlacedStatement) : Type 0 where
  pub tag : String Global
  pub is : placed.statement ≡ Import tag
  pub rules : List ℕ
  pub found : has (string_bytes tag) rules
  pub stated : List PlacedStatement
  pub says : SpellStatements (map (λ p. p.statement) stated) (chars rules)
  pub led : added ≡ map (led_by (outermost placed.place placed.import)) stated

-- The second statements are the first ones, with those in place of each import that it stands for, and so on until
-- there is no import.
pub data Resolve (has : List ℕ → List ℕ → Type 0) : List PlacedStatement → List PlacedStatement → Type 0 where
  nothing : Resolve has [] []
  own : {placed : PlacedStatement} {more all : List PlacedStatement} → is_import placed.statement ≡ false
      → Resolve has more all → Resolve has (placed ∷ more) (placed ∷ all)
  imported : {placed : PlacedStatement} {more added : List PlacedStatement} (inner all : List PlacedStatement)
      {whole : List PlacedStatement}
      → AreImported has placed added → Resolve has added inner → Resolve has more all → whole ≡ inner ++ all
      → Resolve has (placed ∷ more) whole

-- what a statement stands for: itself, or what it imports
abbrev pub StandsForImport : (List ℕ → List ℕ → Type 0) → PlacedStatement → List PlacedStatement → Type 0
StandsForImport has placed added = AreImported has placed added
    ⊎ ((is_import placed.statement ≡ false) × (added ≡ placed ∷ []))

-- so were added, to the statements before, those that a statement stands for
abbrev pub AddsStated : (List ℕ → List ℕ → Type 0) → PlacedStatement → List PlacedStatement → List PlacedStatement → Type 0
AddsStated has placed before after = (added : List PlacedStatement) × StandsForImport has placed added
    × (after ≡ before ++ added)

-- whatever the second statements resolve to, the first ones do
abbrev pub ResolveAs : (List ℕ → List ℕ → Type 0) → List PlacedStatement → List PlacedStatement → Type 0
ResolveAs has stated replaced = (all : List PlacedStatement) → Resolve has replaced all → Resolve has stated all
