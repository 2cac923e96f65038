use Rattle.std.proofs.Common.{◌≡◌, ◌<◌, ◌≤◌, ◌+◌, ◌-◌, ℕ, false, true, sym, refl, ◌∙◌, arith, rules}
use Rattle.ucd_perl.specs.Perl.{is_digit_char}
use Rattle.icu_table_mappings.specs.DigitEntries.{digits_before}
use Rattle.icu_table_mappings.proofs.DecimalDigitLemmas.{digit_before, no_digit_before, nothing_before}
use Rattle.icu_table_mappings.proofs.digit_entries.digits_before.Goals as goal

pub returns-then-not-have_code : goal.returns-then-not-have_code
returns-then-not-have_code c =
    let start : ℕ = c.counting.start in
    let some : 0 < start = search rules in
    let inside : start - 1 ≤ 0x10FFFF = search rules in
    let other : is_digit_char (start - 1) ≡ false = sym (c.requires.digits (start - 1) inside) ∙ sym c.have_code.ensures ∙ c.if-not-have_code.true in
    let none : digits_before start ≡ 0 = no_digit_before start some other in
    omega (arith, none, c.counting.invariant.counted)

pub counting-preserved : goal.counting-preserved
counting-preserved c =
    let start : ℕ = c.counting.start in
    let some : 0 < start = search rules in
    let inside : start - 1 ≤ 0x10FFFF = search rules in
    let is : is_digit_char (start - 1) ≡ true = sym (c.requires.digits (start - 1) inside) ∙ sym c.have_code.ensures ∙ c.if-not-have_code.false in
    let one : digits_before (start - 1) + 1 ≡ digits_before start = digit_before start (digits_before start) some is refl in
    record { inside = omega arith; counted = omega (arith, one, c.counting.invariant.counted) }

pub returns : goal.returns
returns c =
    let start : ℕ = c.counting.start in
    let over : start ≡ 0 = search rules in
    let none : digits_before start ≡ 0 = nothing_before start over in
    omega (arith, over, none, c.counting.invariant.counted)
