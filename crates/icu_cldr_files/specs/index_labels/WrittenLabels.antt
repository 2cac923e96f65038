-- How the labels of an index are written, as files have characters for an index (UTS #35 part 2, "Exemplar Syntax").
use Rattle.std.specs.Prelude.{◌≡◌, ◌<◌, ◌+◌, ◌*◌, ◌==◌, ◌||◌, ℕ, Bool, false, List, [], ◌∷◌, ◌++◌, encode_utf8}
use Rattle.std.specs.Char.{IsScalar, digit_value}

-- what means something else than itself in a set: a space, brackets, braces, a backslash, a hyphen, and other signs
abbrev pub is_sign : ℕ → Bool
is_sign c = c == 32 || (c == 91 || (c == 93 || (c == 123 || (c == 125 || (c == 92 || (c == 45 || (c == 38 || (c == 94 || c == 36))))))))

-- the number that four hexadecimal digits write
abbrev pub number_of_digits : ℕ → ℕ → ℕ → ℕ → ℕ
number_of_digits a b c d = ((digit_value a * 16 + digit_value b) * 16 + digit_value c) * 16 + digit_value d

-- how a character is written: as itself, or by its number of four hexadecimal digits behind \u
pub data WritesCharacter : ℕ → List ℕ → Type 0 where
  itself : {c : ℕ} → is_sign c ≡ false → WritesCharacter c (c ∷ [])
  numbered : {a b c d n : ℕ} → digit_value a < 16 → digit_value b < 16 → digit_value c < 16 → digit_value d < 16
      → n ≡ number_of_digits a b c d → IsScalar n → WritesCharacter n (92 ∷ 117 ∷ a ∷ b ∷ c ∷ d ∷ [])

-- how characters are written, one behind another; they are given in UTF-8
pub data WritesCharacters : List ℕ → List ℕ → Type 0 where
  ends : WritesCharacters [] []
  more : {c : ℕ} {first bytes rest whole label : List ℕ} → WritesCharacter c first → WritesCharacters bytes rest
      → whole ≡ first ++ rest → label ≡ encode_utf8 c ++ bytes → WritesCharacters label whole

-- how a label is written: a character by itself, or characters in braces
pub data WritesLabel : List ℕ → List ℕ → Type 0 where
  one : {c : ℕ} {text : List ℕ} → WritesCharacter c text → WritesLabel (encode_utf8 c) text
  braced : {label inside text : List ℕ} → WritesCharacters label inside → text ≡ 123 ∷ inside ++ 125 ∷ []
      → WritesLabel label text

-- how labels are written, with spaces around them or not
pub data WritesLabels : List (List ℕ) → List ℕ → Type 0 where
  none : WritesLabels [] []
  space : {labels : List (List ℕ)} {text : List ℕ} → WritesLabels labels text → WritesLabels labels (32 ∷ text)
  label : {first written rest whole : List ℕ} {labels : List (List ℕ)} → WritesLabel first written
      → WritesLabels labels rest → whole ≡ written ++ rest → WritesLabels (first ∷ labels) whole

-- a set of labels: in brackets
pub record WritesSet (labels : List (List ℕ)) (text : List ℕ) : Type 0 where
  pub inside : List ℕ
  pub text_is : text ≡ 91 ∷ inside ++ 93 ∷ []
  pub written : WritesLabels labels inside
