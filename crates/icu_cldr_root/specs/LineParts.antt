-- The parts of a line.
use Rattle.std.specs.Prelude.{◌≡◌, ◌==◌, ℕ, List, length}
use Rattle.std.specs.List.{before_first, position_or_len}
use Rattle.std.specs.Str.{trim}

-- what stands before the comment, `#` and what follows it, without white space around
abbrev pub text_of : List ℕ → List ℕ
text_of line = trim (before_first (λ b. b == 35) line)

-- a text in which a byte doesn't occur
abbrev pub Lacks : ℕ → List ℕ → Type 0
Lacks byte text = position_or_len (λ b. b == byte) text ≡ length text
