-- The weights that mean more than an order: the ends of the variable groups, the lead byte of numbers, and the lead
-- bytes whose weights are written shorter in sort keys.
use Rattle.std.specs.Prelude.{ℕ, ◌+◌, ◌-◌, ◌*◌, ◌/◌, ◌%◌, ◌≤◌, Bool, ◌&&◌, ◌||◌, ◌==◌, nat_le, List, length, take, slice_index, All, IsTrue, if◌then◌else◌}
use Rattle.icu_options.specs.declared.settings.MaxVariable.{MaxVariable}
use Rattle.icu_options.specs.declared.settings.MaxVariable.TheVariants.{Space, Punctuation, Symbol, Currency}
use Rattle.icu_table_entries.specs.declared.error.DataErrorKind.{DataErrorKind}
use Rattle.icu_table_entries.specs.declared.error.DataErrorKind.TheVariants as kinds
use Rattle.icu_table_entries.specs.Entries.{has_bit}

-- The two highest bytes of the first primary weight after each of the four variable groups, and then, if there are 20
-- numbers, the compressible lead bytes, a bit for each.
pub record SpecialPrimaries : Type 0 where
  pub last : List ℕ
  pub numeric : ℕ

-- the place of a group among the four
abbrev pub group_index : MaxVariable → ℕ
group_index Space = 0
group_index Punctuation = 1
group_index Symbol = 2
group_index Currency = 3

-- the last primary weight of a group: one below the first after it
abbrev pub last_primary : SpecialPrimaries → MaxVariable → ℕ
last_primary special group = slice_index special.last (group_index group) * 0x10000 - 1

-- without bits for them: the lead bytes of the Latin script to CJK's, and that of implicit weights
unfoldable pub is_compressible : SpecialPrimaries → ℕ → Bool
is_compressible special b =
    if length special.last == 20 then has_bit (b % 16) (slice_index special.last (4 + b / 16))
    else (nat_le 0x61 b && nat_le b 0x80) || b == 0xFE

-- a lead byte that numbers may have
abbrev pub is_numeric_lead : ℕ → Bool
is_numeric_lead n = nat_le 3 n && nat_le n 0xFD

-- a group has an end, which is not above the lead byte of numbers
abbrev pub ends_below : ℕ → ℕ → Bool
ends_below n p = nat_le 1 p && nat_le p (256 * n)

-- numbers have a lead byte of their own, and the variable groups end below it
pub record HasGroupEnds (last : List ℕ) (n : ℕ) : Type 0 where
  pub numeric : IsTrue (is_numeric_lead n)
  pub ends : All (λ p. IsTrue (ends_below n p)) (take 4 last)

-- four ends of groups, or more numbers
pub record IsSpecialPrimaries (last : List ℕ) (n : ℕ) : Type 0 where
  pub count : 4 ≤ length last
  pub group_ends : HasGroupEnds last n

-- a condition of this kind fails
abbrev pub FailsSpecial : List ℕ → ℕ → DataErrorKind → Type 0
FailsSpecial last n kinds.Length = ¬ (4 ≤ length last)
FailsSpecial last n kinds.SpecialPrimary = ¬ (HasGroupEnds last n)
FailsSpecial last n _ = ⊥
