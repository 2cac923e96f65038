-- Numbers in hexadecimal digits.
use Rattle.std.specs.Prelude.{ℕ, ◌+◌, ◌-◌, ◌*◌, ◌&&◌, ◌||◌, nat_le, nat_lt, List, [], ◌∷◌, length, Option, Some, None, option_and_then, if◌then◌else◌}

-- the digit that a byte of text is: 0 to 9, A to F
abbrev pub digit_of : ℕ → Option ℕ
digit_of b =
    if nat_le 0x30 b && nat_le b 0x39 then Some (b - 0x30)
    else (if nat_le 0x41 b && nat_le b 0x46 then Some (b - 0x37) else None)

-- the number that digits write behind others which write v
unfoldable pub number_behind : ℕ → List ℕ → Option ℕ
number_behind v [] = Some v
number_behind v (b ∷ bs) = option_and_then (λ d. number_behind (16 * v + d) bs) (digit_of b)

-- the number that digits write
abbrev pub number_written : List ℕ → Option ℕ
number_written word = number_behind 0 word

-- a number that is the code of a character, and no surrogate
abbrev pub scalar_from : ℕ → Option ℕ
scalar_from n = if nat_lt n 0xD800 || (nat_lt 0xDFFF n && nat_lt n 0x110000) then Some n else None

-- the character whose number a word of four to six digits writes
abbrev pub character_written : List ℕ → Option ℕ
character_written word =
    if nat_le 4 (length word) && nat_le (length word) 6
    then option_and_then scalar_from (number_written word)
    else None

-- the byte that a word of two digits writes
abbrev pub byte_written : List ℕ → Option ℕ
byte_written word = if nat_le 2 (length word) && nat_le (length word) 2 then number_written word else None
