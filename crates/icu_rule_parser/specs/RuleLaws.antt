-- What the definitions of the grammar amount to.
use Rattle.std.specs.Prelude.{ℕ, List, map, ◌≡◌}
use Rattle.std.specs.List.{AllZip}
use Rattle.icu_rule_parser.specs.declared.statement.Statement.{Statement}
use Rattle.icu_rule_parser.specs.Statements.{SpellStatements}
use Rattle.icu_rule_parser.specs.Sayings.{saying, SetsAgree}

-- A text says one thing at most: two lists of statements that it spells have the same tokens, and say the same, and
-- their sets have the same characters.
abbrev pub TextsSayOneThing : Type 0
TextsSayOneThing = (first second : List Statement) (text : List ℕ) (a : SpellStatements first text)
    (b : SpellStatements second text) → (a.tokens ≡ b.tokens) × (map saying first ≡ map saying second)
    × AllZip SetsAgree first second
