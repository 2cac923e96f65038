-- Which relations hold by all rules: those whose two strings no later rule moves (UTS #35 part 5, "Collation
-- Tailorings").
use Rattle.std.specs.Prelude.{ℕ, ◌≡◌, ◌+◌, ◌-◌, nat_lt, if◌then◌else◌, List, [], take, Option, Some, None}
use Rattle.std.specs.List.{slice_get}
use Rattle.unicode_normalization.specs.Forms.{nfd}
use Rattle.icu_rule_parser.specs.declared.rules.PlacedStatement.{PlacedStatement}
use Rattle.icu_rule_parser.specs.declared.statement.Anchor.{Anchor}
use Rattle.icu_rule_parser.specs.declared.statement.Anchor.TheVariants as anchors
use Rattle.icu_rule_parser.specs.declared.statement.Statement.{Statement}
use Rattle.icu_rule_parser.specs.declared.statement.Statement.TheVariants as statements
use Rattle.icu_rule_meaning.specs.Rules.{rules_of}
use Rattle.icu_rule_meaning.specs.Steps.{tailoring_of}
use Rattle.icu_rule_meaning.specs.TailoredMappings.{symbolic_elements}
use Rattle.icu_rule_meaning.specs.TailoredRoots.{Root}
use Rattle.icu_rule_meaning.specs.declared.symbolic.SymbolicElement.{SymbolicElement}

-- the string of an anchor
abbrev pub string_of_anchor : Anchor → Option (List ℕ)
string_of_anchor (anchors.String s) = Some s.items
string_of_anchor (anchors.Position position) = None

-- the string of a reset or of a relation
abbrev pub string_of : Statement → Option (List ℕ)
string_of (statements.Reset r) = string_of_anchor r.anchor
string_of (statements.Relation r) = Some r.string.items
string_of _ = None

-- the string where there is nothing beside it
abbrev pub string_alone : List ℕ → List ℕ → List ℕ → Option (List ℕ)
string_alone [] string [] = Some string
string_alone _ string _ = None

-- the string of a relation that has no prefix and no extension
abbrev pub plain_string : Statement → Option (List ℕ)
plain_string (statements.Relation r) = string_alone r.prefix.items r.string.items r.extension.items
plain_string _ = None

-- a string, and the one before it
pub record RelatedStrings : Type 0 where
  pub other : List ℕ
  pub string : List ℕ

-- both strings, if both are there
abbrev pub both_strings : Option (List ℕ) → Option (List ℕ) → Option RelatedStrings
both_strings (Some string) (Some other) = Some (record { other = other; string = string })
both_strings _ _ = None

-- that of a statement, if there is one
abbrev pub string_at : Option PlacedStatement → Option (List ℕ)
string_at None = None
string_at (Some placed) = string_of placed.statement

-- that of a plain relation, if there is a statement
abbrev pub plain_at : Option PlacedStatement → Option (List ℕ)
plain_at None = None
plain_at (Some placed) = plain_string placed.statement

-- The strings that the relation at an index relates, without prefixes and extensions. None where the statement there
-- isn't such a relation, or nothing with a string stands before it.
unfoldable pub related_at : List PlacedStatement → ℕ → Option RelatedStrings
related_at placed index =
    if nat_lt 0 index then both_strings (plain_at (slice_get placed index)) (string_at (slice_get placed (index - 1))) else None

-- the elements that the first statements come to, so many of them
abbrev pub elements_of_first : Root → List PlacedStatement → ℕ → List SymbolicElement
elements_of_first root placed count = (tailoring_of root (rules_of (take count placed))).elements

-- the elements of a string by all statements
abbrev pub elements_by_all : Root → List PlacedStatement → List ℕ → List SymbolicElement
elements_by_all root placed string = symbolic_elements (tailoring_of root (rules_of placed)).mappings (nfd string)

-- The relation at an index relates two strings, and by all statements both have the elements that they had there: no
-- later one moved them.
pub record IsHeld (root : Root) (placed : List PlacedStatement) (index : ℕ) : Type 0 where
  pub strings : RelatedStrings
  pub related : related_at placed index ≡ Some strings
  pub other : elements_by_all root placed strings.other ≡ elements_of_first root placed index
  pub string : elements_by_all root placed strings.string ≡ elements_of_first root placed (index + 1)
