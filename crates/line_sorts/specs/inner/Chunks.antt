-- How far a text is written, chunk by chunk.
use Rattle.std.specs.Prelude.{◌≡◌, ℕ, List, ◌++◌, MatchResult, Option, Result, drop, take}
use Rattle.std.specs.Io.KnownBytes.{Appends}
use Rattle.line_sorts.specs.OrderedTexts.{WritesBeginning}

-- the known bytes of a writer grew by a beginning of the text, and these bytes are what is left of it
pub record HasWritten (first now : Option (List ℕ)) (text left : List ℕ) : Type 0 where
  pub count : ℕ
  pub written : Appends first now (take count text)
  pub rest : left ≡ drop count text

-- Where these bytes and more were left of a text, the bytes that are left now, and more, are left of it. So what was to
-- be written has been but for what is left, whatever was written before and is to be written behind
abbrev pub Advances : Option (List ℕ) → List ℕ → Option (List ℕ) → List ℕ → Type 0
Advances old bytes new left =
    (first : Option (List ℕ)) (text more : List ℕ) → HasWritten first old text (bytes ++ more) → HasWritten first new text (left ++ more)

-- where these bytes and more were left of a text, a beginning of it was written
abbrev pub StopsAmid : Option (List ℕ) → List ℕ → Option (List ℕ) → Type 0
StopsAmid old bytes new =
    (first : Option (List ℕ)) (text more : List ℕ) → HasWritten first old text (bytes ++ more) → WritesBeginning first new text

-- what is left of these bytes is still to be written, or writing stopped
abbrev pub Proceeds : {X E : Type 0} → Result X E → Option (List ℕ) → List ℕ → Option (List ℕ) → List ℕ → Type 0
Proceeds result old bytes new left = MatchResult result (λ _. Advances old bytes new left) (λ _. StopsAmid old bytes new)
