-- References to characters (Extensible Markup Language 1.0, sections 4.1 and 4.6).
use Rattle.std.specs.Prelude.{◌≡◌, ℕ, ◌+◌, ◌-◌, ◌*◌, ◌==◌, ◌&&◌, ◌⊎◌, nat_le, nat_lt, List, [], ◌∷◌, ◌++◌, length, Option, Some, None, option_and_then, if◌then◌else◌, encode_utf8, codes}
use Rattle.icu_cldr_files.specs.xml.SpelledParts.{SpellsInParts, LacksText}
use Rattle.icu_cldr_files.specs.xml.XmlCharacters.{is_character}

-- the digit that a byte is, below a base of at most sixteen: 0 to 9, a to f, A to F
abbrev pub digit_in : ℕ → ℕ → Option ℕ
digit_in base b =
    let d = if nat_le 48 b && nat_le b 57 then b - 48
    else (if nat_le 97 b && nat_le b 102 then b - 87
    else (if nat_le 65 b && nat_le b 70 then b - 55 else 16)) in
    if nat_lt d base then Some d else None

-- the number that digits write behind others which write v
unfoldable pub number_after : ℕ → ℕ → List ℕ → Option ℕ
number_after base v [] = Some v
number_after base v (b ∷ bs) = option_and_then (λ d. number_after base (base * v + d) bs) (digit_in base b)

-- the character whose number one to seven digits write
abbrev pub character_numbered : ℕ → List ℕ → Option ℕ
character_numbered base digits =
    if nat_le 1 (length digits) && nat_le (length digits) 7
    then option_and_then (λ n. if is_character n then Some n else None) (number_after base 0 digits)
    else None

-- a reference names a character: one of five by a word (section 4.6), another by its number, in decimal digits or in
-- hexadecimal ones
abbrev pub NamesCharacter : List ℕ → ℕ → Type 0
NamesCharacter name c =
    ((name ≡ codes "lt") × (c ≡ 60)) ⊎ (((name ≡ codes "gt") × (c ≡ 62)) ⊎ (((name ≡ codes "amp") × (c ≡ 38))
    ⊎ (((name ≡ codes "quot") × (c ≡ 34)) ⊎ (((name ≡ codes "apos") × (c ≡ 39))
    ⊎ (((digits : List ℕ) × (name ≡ codes "#x" ++ digits) × (character_numbered 16 digits ≡ Some c))
    ⊎ ((digits : List ℕ) × (name ≡ codes "#" ++ digits) × (character_numbered 10 digits ≡ Some c)))))))

-- a part of a text stands for what it is read as: characters for themselves, a reference for the character that it
-- names
abbrev pub ReadsAs : List ℕ → List ℕ → Type 0
ReadsAs part value =
    (LacksText (codes "&") part × (value ≡ part))
    ⊎ ((name : List ℕ) × (c : ℕ) × (part ≡ codes "&" ++ (name ++ codes ";")) × NamesCharacter name c × (value ≡ encode_utf8 c))

-- a text with references stands for a value
abbrev pub WritesValue : List ℕ → List ℕ → Type 0
WritesValue text value = SpellsInParts ReadsAs text value
