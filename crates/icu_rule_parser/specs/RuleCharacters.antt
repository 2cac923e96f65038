-- What the characters of rules are for (UTS #35 part 5, "Collation Tailorings").
use Rattle.std.specs.Prelude.{ℕ, Bool, true, false, nat_le, ◌==◌, ◌||◌, ◌&&◌, not, List, [], ◌∷◌, ◌++◌, IsTrue, ◌≡◌, ◌≢◌, ◌⊎◌, if◌then◌else◌}
use Rattle.std.specs.List.{list_all}

-- white space, which separates: Pattern_White_Space of Unicode
unfoldable pub is_white : ℕ → Bool
is_white c =
    (nat_le 9 c && nat_le c 13) || c == 32 || c == 0x85
    || c == 0x200E || c == 0x200F || c == 0x2028 || c == 0x2029

-- what ends a line, and the comment in it
unfoldable pub is_line_end : ℕ → Bool
is_line_end c = c == 10 || c == 12 || c == 13 || c == 0x85 || c == 0x2028 || c == 0x2029

-- punctuation and symbols of ASCII, which stand for themselves in a string only if they are quoted
unfoldable pub is_syntax : ℕ → Bool
is_syntax c =
    (nat_le 0x21 c && nat_le c 0x2F) || (nat_le 0x3A c && nat_le c 0x40)
    || (nat_le 0x5B c && nat_le c 0x60) || (nat_le 0x7B c && nat_le c 0x7E)

-- what stands for itself in a string
unfoldable pub is_plain : ℕ → Bool
is_plain c = not (is_white c) && not (is_syntax c)

-- what the words in brackets are of
unfoldable pub is_word_character : ℕ → Bool
is_word_character c = is_plain c || c == 45 || c == 95

-- U+FFFD, U+FFFE and U+FFFF, which no string has
unfoldable pub is_reserved : ℕ → Bool
is_reserved c = nat_le 0xFFFD c && nat_le c 0xFFFF

-- white space alone
abbrev pub IsWhite : List ℕ → Type 0
IsWhite text = IsTrue (list_all is_white text)

-- a comment with the end of its line: whether the text, which begins outside comments or in one, is such comments and
-- white space
unfoldable pub is_blank : Bool → List ℕ → Bool
is_blank in_comment [] = not in_comment
is_blank true (c ∷ text) = is_blank (not (is_line_end c)) text
is_blank false (c ∷ text) = if c == 35 then is_blank true text else is_white c && is_blank false text

-- what may stand between what is said: white space and comments
abbrev pub IsBlank : List ℕ → Type 0
IsBlank text = IsTrue (is_blank false text)

-- text that begins with no blank
abbrev pub BeginsNoBlank : List ℕ → Type 0
BeginsNoBlank [] = Unit {0}
BeginsNoBlank (c ∷ text) = (is_white c ≡ false) × (c ≢ 35)

-- a comment without the end of its line, as may stand at the end
abbrev pub IsOpenComment : List ℕ → Type 0
IsOpenComment text = (inside : List ℕ) × (text ≡ 35 ∷ inside) × IsTrue (list_all (λ c. not (is_line_end c)) inside)

-- what may stand behind all that is said
abbrev pub IsTrail : List ℕ → Type 0
IsTrail text = IsBlank text
    ⊎ ((blank comment : List ℕ) × IsBlank blank × IsOpenComment comment × (text ≡ blank ++ comment))
