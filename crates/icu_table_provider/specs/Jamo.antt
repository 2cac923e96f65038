-- The table of conjoining jamo.
use Rattle.std.specs.Prelude.{ℕ, ◌≡◌, List, length, All, IsTrue}
use Rattle.icu_table_entries.specs.declared.error.DataErrorKind.{DataErrorKind}
use Rattle.icu_table_entries.specs.declared.error.DataErrorKind.TheVariants as kinds
use Rattle.icu_table_entries.specs.EntryConditions.{has_digit, has_known_byte}

-- how many conjoining jamo there are
abbrev pub jamo_count : ℕ
jamo_count = 256

-- the entries of the conjoining jamo, from U+1100 on
pub record IsJamo (entries : List ℕ) : Type 0 where
  pub count : length entries ≡ jamo_count
  pub digits : All (λ e. IsTrue (has_digit e)) entries
  pub known : All (λ e. IsTrue (has_known_byte e)) entries

-- a condition of this kind fails
abbrev pub FailsJamo : List ℕ → DataErrorKind → Type 0
FailsJamo entries kinds.Length = ¬ (length entries ≡ jamo_count)
FailsJamo entries kinds.Digit = ¬ (All (λ e. IsTrue (has_digit e)) entries)
FailsJamo entries kinds.Tag = ¬ (All (λ e. IsTrue (has_known_byte e)) entries)
FailsJamo entries _ = ⊥
