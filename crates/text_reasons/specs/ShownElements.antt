-- Characters and collation elements as they are shown.
use Rattle.std.specs.Prelude.{ℕ, ◌+◌, ◌/◌, ◌%◌, ◌==◌, bit_and, nat_lt, List, [], ◌∷◌, ◌++◌, if◌then◌else◌, codes}
use Rattle.std.specs.List.{flat_map}
use Rattle.icu_table_entries.specs.Elements.{Element, quaternary_mask}
use Rattle.icu_table_entries.specs.ElementConditions.{tertiary_of}

-- ---- numbers in hexadecimal digits

-- a digit
abbrev pub digit : ℕ → ℕ
digit d = if nat_lt d 10 then 48 + d else 55 + d

-- a byte, by two digits
abbrev pub two_digits : ℕ → List ℕ
two_digits b = digit (b / 16) ∷ digit (b % 16) ∷ []

-- the digits of a character's number above the last four: none where it has none
abbrev pub high_digits : ℕ → List ℕ
high_digits c =
    if nat_lt c 0x10000 then []
    else if nat_lt c 0x100000 then digit (c / 0x10000) ∷ []
    else two_digits (c / 0x10000)

-- a character's number, by at least four digits
abbrev pub code_point : ℕ → List ℕ
code_point c = codes "U+" ++ (high_digits c ++ (two_digits (c / 256 % 256) ++ two_digits (c % 256)))

-- characters' numbers, with a space before each
abbrev pub more_code_points : List ℕ → List ℕ
more_code_points cs = flat_map (λ c. 32 ∷ code_point c) cs

-- characters' numbers with spaces between
abbrev pub code_points : List ℕ → List ℕ
code_points [] = []
code_points (c ∷ cs) = code_point c ++ more_code_points cs

-- ---- weights

-- a byte of a weight behind others: nothing where it is 0, as behind the last byte of a weight that has fewer
abbrev pub next_byte : ℕ → List ℕ
next_byte b = if b == 0 then [] else 32 ∷ two_digits b

-- the first byte of a weight: nothing where there is no weight
abbrev pub first_byte : ℕ → List ℕ
first_byte b = if b == 0 then [] else two_digits b

-- a weight of two bytes
abbrev pub two_bytes_text : ℕ → List ℕ
two_bytes_text w = first_byte (w / 256) ++ next_byte (w % 256)

-- a weight of four bytes
abbrev pub four_bytes_text : ℕ → List ℕ
four_bytes_text w =
    first_byte (w / 0x1000000) ++ (next_byte (w / 0x10000 % 256) ++ (next_byte (w / 256 % 256) ++ next_byte (w % 256)))

-- ---- elements

-- the case of an element, where it isn't lower case or none
abbrev pub case_text : ℕ → List ℕ
case_text n = if n == 1 then codes " mixed" else if n == 2 then codes " upper" else []

-- the quaternary bits of an element, where there are some
abbrev pub quaternary_text : ℕ → List ℕ
quaternary_text n = if n == 0 then [] else codes ", " ++ (48 + n) ∷ []

-- the primary, the secondary and the tertiary weight of an element
abbrev pub weights_text : Element → List ℕ
weights_text e =
    four_bytes_text e.primary ++ (codes ", " ++ (two_bytes_text e.secondary ++ (codes ", " ++ two_bytes_text (tertiary_of e))))

-- its case, and its quaternary bits
abbrev pub marks_text : Element → List ℕ
marks_text e = case_text (e.lower / 0x4000) ++ quaternary_text (bit_and e.lower quaternary_mask / 64)

-- an element
abbrev pub element_text : Element → List ℕ
element_text e = codes "[" ++ (weights_text e ++ (marks_text e ++ codes "]"))

-- elements one behind another
abbrev pub elements_text : List Element → List ℕ
elements_text es = flat_map element_text es
