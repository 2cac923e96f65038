-- Digits, one after another.
use Rattle.std.proofs.Common.{◌≡◌, ℕ, zero, suc, ◌+◌, ◌-◌, ◌<◌, Bool, true, false, List, [], ◌∷◌, refl, sym, ap, ◌∙◌, if◌then◌else◌, arith}
use Rattle.std.specs.Prelude.{◌&&◌, ◌||◌, nat_le}
use Rattle.ucd_table.specs.Rows.{Range, in_ranges}
use Rattle.ucd_perl.specs.Perl.{is_digit_char}
use Rattle.icu_table_mappings.specs.DigitEntries.{digits_before}

-- the first range has the code point
pub in_first : (left next : List Range) (r : Range) (c : ℕ) (all : Bool) → left ≡ r ∷ next → (nat_le r.0 c && nat_le c r.1) ≡ true
    → in_ranges left c ≡ all → true ≡ all
unfolding in_ranges
in_first left next r c all steps here h = sym (ap (λ rs. in_ranges rs c) steps ∙ ap (λ b. b || in_ranges next c) here) ∙ h

-- or others may have it
pub in_later : (left next : List Range) (r : Range) (c : ℕ) (all : Bool) → left ≡ r ∷ next → (nat_le r.0 c && nat_le c r.1) ≡ false
    → in_ranges left c ≡ all → in_ranges next c ≡ all
unfolding in_ranges
in_later left next r c all steps other h = sym (ap (λ rs. in_ranges rs c) steps ∙ ap (λ b. b || in_ranges next c) other) ∙ h

-- no range is left
pub in_none : (left : List Range) (c : ℕ) (all : Bool) → left ≡ [] → in_ranges left c ≡ all → false ≡ all
unfolding in_ranges
in_none left c all done h = sym (ap (λ rs. in_ranges rs c) done) ∙ h

-- one digit more
pub digit_before : (start total : ℕ) → 0 < start → is_digit_char (start - 1) ≡ true → digits_before start ≡ total → digits_before (start - 1) + 1 ≡ total
unfolding digits_before
digit_before zero total some is h = absurd (omega arith)
digit_before (suc n) total some is h =
    let one : suc n - 1 ≡ n = omega arith in
    let digit : is_digit_char n ≡ true = ap is_digit_char (sym one) ∙ is in
    let all : suc (digits_before n) ≡ total = sym (ap (λ b. if b then suc (digits_before n) else 0) digit) ∙ h in
    let same : digits_before (suc n - 1) ≡ digits_before n = ap digits_before one in
    omega (arith, all, same)

-- no digit stands before
pub no_digit_before : (start : ℕ) → 0 < start → is_digit_char (start - 1) ≡ false → digits_before start ≡ 0
unfolding digits_before
no_digit_before zero some is = absurd (omega arith)
no_digit_before (suc n) some is =
    let one : suc n - 1 ≡ n = omega arith in
    ap (λ b. if b then suc (digits_before n) else 0) (ap is_digit_char (sym one) ∙ is)

pub nothing_before : (start : ℕ) → start ≡ 0 → digits_before start ≡ 0
unfolding digits_before
nothing_before zero h = refl
nothing_before (suc n) h = absurd (omega arith)
