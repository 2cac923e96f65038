-- A lead byte is added to those whose bits are set.
use Rattle.std.proofs.Common.{◌≡◌, ◌≢◌, ℕ, ◌*◌, ◌^◌, ◌/◌, ◌%◌, ◌<◌, Bool, true, false, List, refl, sym, ap, ◌∙◌, length, arith}
use Rattle.std.specs.Prelude.{◌==◌, ◌||◌, slice_index, slice_set}
use Rattle.std.specs.Int.{w16}
use Rattle.std.specs.Int.RustNames.{bit_or}
use Rattle.std.proofs.lemmas.Bool.Decides.{nat_tests}
use Rattle.std.proofs.lemmas.List.{get_or-set_same, get_or-set_other}
use Rattle.std.proofs.lemmas.Nat.Bits.{bit_at_set_same, bit_at_set_other}
use Rattle.std.proofs.lemmas.Bool.{or_right, eqb-true, eq-eqb}
use Rattle.icu_table_entries.specs.Entries.{has_bit}
use Rattle.icu_cldr_root.specs.inner.CompressedLeads.{has_lead}

apart : (m n : ℕ) → (m == n) ≡ false → m ≢ n
apart m n h = grind (arith, nat_tests)

differs : (m n : ℕ) → m ≢ n → (m == n) ≡ false
differs m n h = grind (arith, nat_tests)

-- a byte is its two parts
parts : (b lead : ℕ) → b / 16 ≡ lead / 16 → b % 16 ≡ lead % 16 → b ≡ lead
parts b lead h l = omega arith

module _ (words new : List ℕ) (lead : ℕ) (bound : lead < 256) (count : length words ≡ 16)
    (sets : new ≡ slice_set words (lead / 16) (bit_or (slice_index words (lead / 16)) (1 * 2 ^ (lead % 16) % 2 ^ 16))) where
  low : lead % 16 < 16
  low = omega arith

  same_word : slice_index new (lead / 16) ≡ bit_or (slice_index words (lead / 16)) (1 * 2 ^ (lead % 16) % 2 ^ 16)
  same_word = ap (λ (ws : List ℕ). slice_index ws (lead / 16)) sets
      ∙ get_or-set_same words (lead / 16) (bit_or (slice_index words (lead / 16)) (1 * 2 ^ (lead % 16) % 2 ^ 16)) 0 (omega arith)

  in_word : (b : ℕ) (s : Bool) → b / 16 ≡ lead / 16 → (b % 16 == lead % 16) ≡ s → has_lead new b ≡ (b == lead || has_lead words b)
  in_word b true word bit =
      let low_same : b % 16 ≡ lead % 16 = eqb-true (b % 16) (lead % 16) bit in
      let same : b ≡ lead = parts b lead word low_same in
      ap (λ c. has_lead new c) same
      ∙ ap (λ e. has_bit (lead % 16) e) same_word
      ∙ ap (λ v. v == 1) (bit_at_set_same w16 (slice_index words (lead / 16)) (lead % 16) low)
      ∙ sym (ap (λ t. t || has_lead words b) (ap (λ c. c == lead) same ∙ eq-eqb lead lead refl))
  in_word b false word bit =
      let other : b % 16 ≢ lead % 16 = apart (b % 16) (lead % 16) bit in
      let not_lead : b ≢ lead = λ same. other (ap (λ c. c % 16) same) in
      ap (λ i. has_bit (b % 16) (slice_index new i)) word
      ∙ ap (λ e. has_bit (b % 16) e) same_word
      ∙ ap (λ v. v == 1) (bit_at_set_other w16 (slice_index words (lead / 16)) (lead % 16) low (b % 16) other)
      ∙ ap (λ i. has_bit (b % 16) (slice_index words i)) (sym word)
      ∙ sym (ap (λ t. t || has_lead words b) (differs b lead not_lead))

  by_word : (b : ℕ) (t : Bool) → (b / 16 == lead / 16) ≡ t → has_lead new b ≡ (b == lead || has_lead words b)
  by_word b true word = in_word b (b % 16 == lead % 16) (eqb-true (b / 16) (lead / 16) word) refl
  by_word b false word =
      let other : b / 16 ≢ lead / 16 = apart (b / 16) (lead / 16) word in
      let not_lead : b ≢ lead = λ same. other (ap (λ c. c / 16) same) in
      ap (λ (ws : List ℕ). has_lead ws b) sets
      ∙ ap (λ e. has_bit (b % 16) e) (get_or-set_other words (lead / 16) (b / 16) (bit_or (slice_index words (lead / 16)) (1 * 2 ^ (lead % 16) % 2 ^ 16)) 0 other)
      ∙ sym (ap (λ t. t || has_lead words b) (differs b lead not_lead))

  -- the bits of the others stay
  pub adds_lead : (b : ℕ) → has_lead new b ≡ (b == lead || has_lead words b)
  adds_lead b = by_word b (b / 16 == lead / 16) refl
