-- Lines with their sort keys in hexadecimal digits.
use Rattle.std.specs.Prelude.{ℕ, List, [], ◌∷◌, ◌++◌}
use Rattle.std.specs.List.{flat_map}
use Rattle.collate_commands.specs.KeyText.{hex}
use Rattle.icu_order_texts.specs.Collations.{Collation}
use Rattle.collate_commands.specs.LineKeys.{key_of_line}

-- the digits of a line's key, a tab, and the line
abbrev pub keyed_line : Collation → List ℕ → List ℕ
keyed_line c line = flat_map hex (key_of_line c line) ++ 9 ∷ line

-- lines so, with a separator after each
abbrev pub keyed_lines_text : Collation → ℕ → List (List ℕ) → List ℕ
keyed_lines_text c separator lines = flat_map (λ line. keyed_line c line ++ separator ∷ []) lines
