-- How the bytes of a key are printed.
use Rattle.std.specs.Prelude.{ℕ, ◌+◌, ◌/◌, ◌%◌, nat_lt, List, [], ◌∷◌, ◌++◌, if◌then◌else◌}
use Rattle.std.specs.List.{flat_map}

-- the character of a hexadecimal digit, with letters in upper case
abbrev pub hex_digit : ℕ → ℕ
hex_digit d = if nat_lt d 10 then 48 + d else 55 + d

-- a byte as two digits
abbrev pub hex : ℕ → List ℕ
hex byte = hex_digit (byte / 16) ∷ hex_digit (byte % 16) ∷ []

-- bytes, with a space before each
abbrev pub spaced : List ℕ → List ℕ
spaced bytes = flat_map (λ byte. 32 ∷ hex byte) bytes

-- bytes with single spaces between, and nothing for no bytes
abbrev pub key_text : List ℕ → List ℕ
key_text [] = []
key_text (byte ∷ bytes) = hex byte ++ spaced bytes
