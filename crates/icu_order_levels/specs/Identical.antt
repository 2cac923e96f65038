-- The bytes of the identical level: each character's difference from a base that the character before it sets
-- (UTS #10, "Form Sort Keys" on the identical level; UTS #35 part 5, "Root Collation" on U+FFFE; the differences are
-- those of ICU's keys, akin to UTN #6).
use Rattle.std.specs.Prelude.{ℕ, ◌+◌, ◌-◌, ◌*◌, ◌/◌, ◌%◌, ◌^◌, ◌==◌, nat_lt, nat_le, if◌then◌else◌, List, [], ◌∷◌, ◌++◌}

-- A difference d stands as e = d + 253 ^ 3, which is never negative. So e / 253 is d / 253 + 253 ^ 2, rounded
-- down, and e % 253 is the remainder of d. A tail is 3 plus a remainder
abbrev pub last_tail : ℕ → ℕ
last_tail e = 3 + e % 253

-- the tail of the second place from the end
abbrev pub middle_tail : ℕ → ℕ
middle_tail e = 3 + e / 253 % 253

-- the tail of the third place from the end
abbrev pub first_tail : ℕ → ℕ
first_tail e = 3 + e / 253 / 253 % 253

-- d below -192786: 3 and three tails
abbrev pub far_below : ℕ → List ℕ
far_below e = 3 ∷ first_tail e ∷ middle_tail e ∷ last_tail e ∷ []

-- d from -192786: 7 + d / 253 / 253 and two tails
abbrev pub well_below : ℕ → List ℕ
well_below e = (7 + e / 253 / 253 - 253) ∷ middle_tail e ∷ last_tail e ∷ []

-- d from -10668: 49 + d / 253 and a tail
abbrev pub below : ℕ → List ℕ
below e = (49 + e / 253 - 253 ^ 2) ∷ last_tail e ∷ []

-- d from -80 to 80: 129 + d
abbrev pub near : ℕ → List ℕ
near e = (129 + e - 253 ^ 3) ∷ []

-- d to 10667: 210 + d / 253 and a tail
abbrev pub above : ℕ → List ℕ
above e = (210 + e / 253 - 253 ^ 2) ∷ last_tail e ∷ []

-- d to 192785: 252 + d / 253 / 253 and two tails
abbrev pub well_above : ℕ → List ℕ
well_above e = (252 + e / 253 / 253 - 253) ∷ middle_tail e ∷ last_tail e ∷ []

-- d above 192785: 255 and three tails
abbrev pub far_above : ℕ → List ℕ
far_above e = 255 ∷ first_tail e ∷ middle_tail e ∷ last_tail e ∷ []

-- one form below a number, and another from it on
abbrev pub split_at : ℕ → (ℕ → List ℕ) → (ℕ → List ℕ) → ℕ → List ℕ
split_at n f g e = if nat_lt e n then f e else g e

-- the bytes of a difference
abbrev pub difference_bytes : ℕ → List ℕ
difference_bytes =
    split_at (253 ^ 3 - 192786) far_below
    (split_at (253 ^ 3 - 10668) well_below
    (split_at (253 ^ 3 - 80) below
    (split_at (253 ^ 3 + 81) near
    (split_at (253 ^ 3 + 10668) above
    (split_at (253 ^ 3 + 192786) well_above far_above)))))

-- the character U+FFFE, which parts merged texts
abbrev pub merge_character : ℕ
merge_character = 0xFFFE

-- the base at the start and after U+FFFE
abbrev pub first_base : ℕ
first_base = 80

-- The base after another character: one for all from U+4E00 to U+A000, else the middle of the character's 128
abbrev pub base_after : ℕ → ℕ
base_after c = if nat_lt c 0x4E00 then c / 128 * 128 + 80 else (if nat_le c 0xA000 then 30292 else c / 128 * 128 + 80)

-- the bytes of characters after one that set the base: 02 for U+FFFE, else the difference from the base
abbrev pub identical_bytes : ℕ → List ℕ → List ℕ
identical_bytes base [] = []
identical_bytes base (c ∷ cs) =
    if c == merge_character then 2 ∷ identical_bytes first_base cs
    else difference_bytes (c + 253 ^ 3 - base) ++ identical_bytes (base_after c) cs

-- the bytes of the decomposed characters of a text
abbrev pub identical_level : List ℕ → List ℕ
identical_level = identical_bytes first_base

-- where a character stands: U+FFFE is lowest
abbrev pub identical_rank : ℕ → ℕ
identical_rank c = if c == merge_character then 0 else c + 1
