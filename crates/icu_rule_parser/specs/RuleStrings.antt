-- How strings are spelled, with quotes and escapes (UTS #35 part 5, "Collation Tailorings").
use Rattle.std.specs.Prelude.{ℕ, Bool, true, false, ◌+◌, ◌*◌, ◌≤◌, ◌<◌, List, [], ◌∷◌, ◌++◌, length, IsTrue, ◌≡◌, ◌≢◌}
use Rattle.std.specs.List.{AllByRecursion}
use Rattle.std.specs.Char.{IsScalar, digit_value}
use Rattle.icu_rule_parser.specs.RuleCharacters.{is_plain}

-- the number that hexadecimal digits write behind those of a number
abbrev pub hex_number : ℕ → List ℕ → ℕ
hex_number n [] = n
hex_number n (digit ∷ digits) = hex_number (n * 16 + digit_value digit) digits

-- hexadecimal digits write the number of a character
pub record WritesInHex (c : ℕ) (digits : List ℕ) : Type 0 where
  pub each : AllByRecursion (λ digit. digit_value digit < 16) digits
  pub value : c ≡ hex_number 0 digits
  pub scalar : IsScalar c

-- what stands behind a backslash, for a character: itself, or its number after u, U or x
pub data SpellsEscape : ℕ → List ℕ → Type 0 where
  itself : {c : ℕ} → c ≢ 117 → c ≢ 85 → c ≢ 120 → SpellsEscape c (c ∷ [])
  four : {c : ℕ} {digits : List ℕ} → length digits ≡ 4 → WritesInHex c digits → SpellsEscape c (117 ∷ digits)
  eight : {c : ℕ} {digits : List ℕ} → length digits ≡ 8 → WritesInHex c digits → SpellsEscape c (85 ∷ digits)
  two : {c : ℕ} {digits : List ℕ} → length digits ≡ 2 → WritesInHex c digits → SpellsEscape c (120 ∷ digits)
  braced : {c : ℕ} (digits : List ℕ) {text : List ℕ} → 1 ≤ length digits → length digits ≤ 8
      → WritesInHex c digits → text ≡ 120 ∷ 123 ∷ digits ++ 125 ∷ [] → SpellsEscape c text

-- text that doesn't go on with an apostrophe
abbrev pub IsNoQuote : List ℕ → Type 0
IsNoQuote [] = Unit {0}
IsNoQuote (c ∷ text) = c ≢ 39

-- The text spells the characters; it begins within quotes, if that is true, and ends outside. Two apostrophes are one,
-- within quotes and outside.
pub data SpellsCharacters : Bool → List ℕ → List ℕ → Type 0 where
  ends : SpellsCharacters false [] []
  plain : {c : ℕ} {cs text : List ℕ} → IsTrue (is_plain c)
      → SpellsCharacters false cs text → SpellsCharacters false (c ∷ cs) (c ∷ text)
  quoted : {c : ℕ} {cs text : List ℕ} → c ≢ 39 → c ≢ 92
      → SpellsCharacters true cs text → SpellsCharacters true (c ∷ cs) (c ∷ text)
  apostrophe : {within : Bool} {cs text : List ℕ}
      → SpellsCharacters within cs text → SpellsCharacters within (39 ∷ cs) (39 ∷ 39 ∷ text)
  escaped : {within : Bool} {c : ℕ} (escape : List ℕ) {cs text whole : List ℕ} → SpellsEscape c escape
      → SpellsCharacters within cs text → whole ≡ 92 ∷ escape ++ text → SpellsCharacters within (c ∷ cs) whole
  opens : {cs text : List ℕ} → IsNoQuote text
      → SpellsCharacters true cs text → SpellsCharacters false cs (39 ∷ text)
  closes : {cs text : List ℕ} → IsNoQuote text
      → SpellsCharacters false cs text → SpellsCharacters true cs (39 ∷ text)
