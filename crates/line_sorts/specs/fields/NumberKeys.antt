-- Numbers at the beginning of a text, as bytes that order as the numbers do (POSIX, "sort", option -n).
use Rattle.std.specs.Prelude.{ℕ, ◌-◌, ◌==◌, ◌&&◌, nat_le, Bool, true, false, List, [], ◌∷◌, ◌++◌, if◌then◌else◌, map, reverse, drop}
use Rattle.line_sorts.specs.fields.LineFields.{drop_while, front_while, is_blank_byte}

-- a digit
abbrev pub is_digit : ℕ → Bool
is_digit b = nat_le 48 b && nat_le b 57

-- the digit 0
abbrev pub is_zero : ℕ → Bool
is_zero b = b == 48

-- whether bytes begin with this one
abbrev pub begins_with_byte : ℕ → List ℕ → Bool
begins_with_byte byte [] = false
begins_with_byte byte (b ∷ bs) = b == byte

-- bytes without this one, if they begin with it
abbrev pub without_first : ℕ → List ℕ → List ℕ
without_first byte bs = if begins_with_byte byte bs then drop 1 bs else bs

-- the digits before the point, without zeros before them
abbrev pub whole_digits : List ℕ → List ℕ
whole_digits bs = drop_while is_zero (front_while is_digit bs)

-- digits without zeros behind them
abbrev pub without_end_zeros : List ℕ → List ℕ
without_end_zeros digits = reverse (drop_while is_zero (reverse digits))

-- the digits behind the point, without zeros behind them
abbrev pub fraction_digits : List ℕ → List ℕ
fraction_digits bs =
    let rest = drop_while is_digit bs in
    if begins_with_byte 46 rest then without_end_zeros (front_while is_digit (drop 1 rest)) else []

-- Of a number above 0: for each digit before the point a 2, then a 1, then its digits. More digits before the point
-- are greater, as many are compared one by one, and then those behind the point
abbrev pub magnitude_key : List ℕ → List ℕ → List ℕ
magnitude_key whole fraction = map (λ digit. 2) whole ++ 1 ∷ (whole ++ fraction)

-- one below 0 comes before 0, and among those the greater magnitude first
abbrev pub below_zero : List ℕ → List ℕ
below_zero magnitude = 0 ∷ (map (λ b. 255 - b) magnitude ++ 255 ∷ [])

-- no bytes
abbrev pub is_nothing : List ℕ → Bool
is_nothing [] = true
is_nothing (b ∷ bs) = false

-- the key of a sign and of digits: all zeros are one number
abbrev pub signed_key : Bool → List ℕ → List ℕ → List ℕ
signed_key is_negative whole fraction =
    if is_nothing whole && is_nothing fraction then 1 ∷ []
    else if is_negative then below_zero (magnitude_key whole fraction)
    else 2 ∷ magnitude_key whole fraction

-- the key of the number with which a text begins, behind blanks; 0 where there is none
abbrev pub number_key : List ℕ → List ℕ
number_key text =
    let number = drop_while is_blank_byte text in
    let digits = without_first 45 number in
    signed_key (begins_with_byte 45 number) (whole_digits digits) (fraction_digits digits)

-- ---- the number as it stands

-- whether bytes begin with a digit
abbrev pub is_digit_first : List ℕ → Bool
is_digit_first [] = false
is_digit_first (b ∷ bs) = is_digit b

-- whether a digit stands at the beginning of bytes, or behind a point there
abbrev pub has_digits : List ℕ → Bool
has_digits bs = is_digit_first (without_first 46 bs)

-- what stands behind digits, a point and digits
abbrev pub behind_digits : List ℕ → List ℕ
behind_digits bs =
    let rest = drop_while is_digit bs in
    if begins_with_byte 46 rest then drop_while is_digit (drop 1 rest) else rest
