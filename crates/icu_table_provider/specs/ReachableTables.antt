-- The entries that are reachable in tables: those of a root, of the conjoining jamo, and of a tailoring, which falls
-- back to the root.
use Rattle.std.specs.Prelude.{ℕ, ◌-◌, ◌≡◌, ◌⊎◌, true, false, slice_index, Some, IfSome, IsTrue}
use Rattle.std.specs.Char.{IsScalar}
use Rattle.std.specs.List.{AllByRecursion, Contains}
use Rattle.icu_table_data.specs.Data.{Data}
use Rattle.icu_table_provider.specs.Tables.{Tables, jamo_base, is_jamo}
use Rattle.icu_table_entries.specs.EntryConditions.{has_digit}
use Rattle.icu_table_data.specs.Reachable.{reachable_from, reachable_at, EachReachable}

-- the entry of a conjoining jamo
abbrev pub jamo_entry : Tables → ℕ → ℕ
jamo_entry tables c = slice_index tables.jamo (c - jamo_base)

-- what holds of each home, character and entry of the home that is reachable with the character
pub record AllReachable (P : Data → ℕ → ℕ → Type 0) (tables : Tables) : Type 0 where
  pub root : EachReachable (P tables.root) false tables.root
  pub jamo : (c : ℕ) → IsTrue (is_jamo c) → AllByRecursion (P tables.root c) (reachable_from tables.root (jamo_entry tables c))
  pub tailoring : IfSome tables.tailoring (λ (home : Data). EachReachable (P home) true home)

-- each reachable digit entry's digit is one
abbrev pub HasDigits : Tables → Type 0
HasDigits tables = AllReachable (λ home c e. IsTrue (has_digit e)) tables

-- an entry that is reachable with a character by the root
abbrev pub IsReachableInRoot : Tables → Data → ℕ → ℕ → Type 0
IsReachableInRoot tables home c e = (home ≡ tables.root) × IsScalar c × Contains (reachable_at false home c) e

-- an entry that is reachable with a character by the table of jamo
abbrev pub IsReachableInJamo : Tables → Data → ℕ → ℕ → Type 0
IsReachableInJamo tables home c e = (home ≡ tables.root) × IsTrue (is_jamo c) × Contains (reachable_from home (jamo_entry tables c)) e

-- an entry that is reachable with a character by the tailoring
abbrev pub IsReachableInTailoring : Tables → Data → ℕ → ℕ → Type 0
IsReachableInTailoring tables home c e = (tables.tailoring ≡ Some home) × IsScalar c × Contains (reachable_at true home c) e

-- the entry, of this home, is reachable with the character
abbrev pub IsReachable : Tables → Data → ℕ → ℕ → Type 0
IsReachable tables home c e =
    IsReachableInRoot tables home c e ⊎ (IsReachableInJamo tables home c e ⊎ IsReachableInTailoring tables home c e)
