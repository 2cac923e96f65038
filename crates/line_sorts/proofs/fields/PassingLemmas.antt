-- Bytes that pass a test, and those behind them.
use Rattle.std.proofs.Common.{◌≡◌, ℕ, suc, zero, ◌-◌, ◌+◌, ◌≤◌, ◌<◌, Bool, true, false, List, [], ◌∷◌, ◌++◌, length, map, take, drop, reverse, refl, sym, ap, ◌∙◌, arith, if◌then◌else◌}
use Rattle.line_sorts.specs.fields.LineFields.{drop_while, front_while, from_field, next_field, past_char, past_chars}
use Rattle.line_sorts.specs.declared.fields.field_key.FieldEnds.{FieldEnds}
use Rattle.line_sorts.specs.declared.fields.field_key.FieldEnds.TheVariants.{AtByte, AtBlanks}

-- nothing is left of nothing, whatever fields are passed over
pub no_fields : (ends : FieldEnds) (n : ℕ) → from_field ends n [] ≡ []
no_fields ends zero = refl
no_fields (AtByte b) (suc n) = no_fields (AtByte b) n
no_fields AtBlanks (suc n) = no_fields AtBlanks n

pub no_fields_of : (ends : FieldEnds) (n : ℕ) (line : List ℕ) → length line ≡ 0 → from_field ends n line ≡ line
no_fields_of ends n [] h = no_fields ends n
no_fields_of ends n (b ∷ bs) h = absurd (omega (arith, h))

pub no_chars : (n : ℕ) → past_chars n [] ≡ []
no_chars zero = refl
no_chars (suc n) = no_chars n

not_longer : (test : ℕ → Bool) (l : List ℕ) → length (drop_while test l) ≤ length l
not_longer test [] = omega arith
not_longer test (x ∷ l) = by (test x) refl (not_longer test l) where
  by : (t : Bool) → test x ≡ t → length (drop_while test l) ≤ length l → length (drop_while test (x ∷ l)) ≤ length (x ∷ l)
  by false e h = rw e (omega arith)
  by true e h = rw e (omega (arith, h))

one_more : (n m b : ℕ) (bs : List ℕ) → m ≤ n → take (suc n - m) (b ∷ bs) ≡ b ∷ take (n - m) bs
one_more n m b bs h = let e : suc n - m ≡ suc (n - m) = omega arith in rw e refl

none_of : (n b : ℕ) (bs : List ℕ) → take (n - n) (b ∷ bs) ≡ []
none_of n b bs = let e : n - n ≡ 0 = omega arith in rw e refl

-- what stands before the bytes from the first on that fails a test, passes it
pub taken_before : (test : ℕ → Bool) (bs : List ℕ) → take (length bs - length (drop_while test bs)) bs ≡ front_while test bs
taken_before test [] = refl
taken_before test (b ∷ bs) = by (test b) refl (taken_before test bs) where
  by : (t : Bool) → test b ≡ t → take (length bs - length (drop_while test bs)) bs ≡ front_while test bs
      → take (length (b ∷ bs) - length (drop_while test (b ∷ bs))) (b ∷ bs) ≡ front_while test (b ∷ bs)
  by false e h = rw e (none_of (length (b ∷ bs)) b bs)
  by true e h = rw e (one_more (length bs) (length (drop_while test bs)) b bs (not_longer test bs) ∙ ap (λ l. b ∷ l) h)

-- one field more is passed
pub one_field_more : (ends : FieldEnds) (n i : ℕ) (line : List ℕ) → i < n → from_field ends (n - i) line ≡ from_field ends (n - (i + 1)) (next_field ends line)
one_field_more ends n i line h = let e : n - i ≡ suc (n - (i + 1)) = omega arith in rw e refl

-- one character more
pub one_char_more : (n i : ℕ) (line : List ℕ) → i < n → past_chars (n - i) line ≡ past_chars (n - (i + 1)) (past_char line)
one_char_more n i line h = let e : n - i ≡ suc (n - (i + 1)) = omega arith in rw e refl

-- a 2 for the next of some digits
pub next_two : (i : ℕ) (digits : List ℕ) → i < length digits → map {B = ℕ} (λ digit. 2) (drop i digits) ≡ 2 ∷ map {B = ℕ} (λ digit. 2) (drop (i + 1) digits)
next_two i [] h = absurd (omega (arith, h))
next_two zero (d ∷ digits) h = refl
next_two (suc i) (d ∷ digits) h = let e : suc i + 1 ≡ suc (i + 1) = omega arith in rw e (next_two i digits (omega (arith, h)))
