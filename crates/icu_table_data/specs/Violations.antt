-- Which of the violations that are found is reported.
use Rattle.std.specs.Prelude.{ℕ, ◌≡◌, ◌≤◌, Bool, nat_lt, List, Option, Some, None, IfSome, if◌then◌else◌}
use Rattle.std.specs.Char.{IsScalar}
use Rattle.std.specs.List.{AllByRecursion, Contains}
use Rattle.icu_table_data.specs.declared.reachable_condition.ReachableCondition.{ReachableCondition}
use Rattle.icu_table_data.specs.declared.reachable_condition.ReachableCondition.TheVariants.{Indices, PrefixMappings, Chains, Digits, Bytes, Offsets, Shapes, Leads, Primaries}
use Rattle.icu_table_data.specs.Data.{Data}
use Rattle.icu_table_data.specs.Reachable.{AreAlike, reachable_at, EachReachable}

-- conditions in the order in which they are reported
abbrev pub condition_rank : ReachableCondition → ℕ
condition_rank Indices = 0
condition_rank PrefixMappings = 1
condition_rank Chains = 2
condition_rank Digits = 3
condition_rank Bytes = 4
condition_rank Offsets = 5
condition_rank Shapes = 6
condition_rank Leads = 7
condition_rank Primaries = 8

-- the violation with the lesser rank
unfoldable pub earlier : {F : Type 0} → (F → ℕ) → Option F → Option F → Option F
earlier rank None found = found
earlier rank (Some a) None = Some a
earlier rank (Some a) (Some b) = if nat_lt (rank b) (rank a) then Some b else Some a

-- the violation has no greater rank than this one, if it is one
abbrev pub ComesFirst : {F : Type 0} → (F → ℕ) → F → Option F → Type 0
ComesFirst rank f found = IfSome found (λ g. rank f ≤ rank g)

-- a judge of entries finds the same violation of entries that say the same, whatever the characters
abbrev pub JudgesAlike : {F : Type 0} → (Data → ℕ → ℕ → Option F) → Type 0
JudgesAlike violation = (home : Data) (c d e f : ℕ) → AreAlike e f → violation home c e ≡ violation home d f

-- none of these entries has a violation with this character
abbrev pub AreFreeOf : {F : Type 0} → (Data → ℕ → ℕ → Option F) → Data → ℕ → List ℕ → Type 0
AreFreeOf violation home c es = AllByRecursion (λ e. violation home c e ≡ None) es

-- no entry that is reachable with a character has a violation
abbrev pub IsFreeOf : {F : Type 0} → (Data → ℕ → ℕ → Option F) → Bool → Data → Type 0
IsFreeOf violation falls_back home = EachReachable (λ c e. violation home c e ≡ None) falls_back home

-- no violation of these entries with this character has a lesser rank than this one
abbrev pub IsFirstAmong : {F : Type 0} → (F → ℕ) → (Data → ℕ → ℕ → Option F) → Data → ℕ → List ℕ → F → Type 0
IsFirstAmong rank violation home c es f = AllByRecursion (λ e. ComesFirst rank f (violation home c e)) es

-- no violation of an entry that is reachable with a character has a lesser rank than this one
abbrev pub IsFirstOfReachable : {F : Type 0} → (F → ℕ) → (Data → ℕ → ℕ → Option F) → Bool → Data → F → Type 0
IsFirstOfReachable rank violation falls_back home f = EachReachable (λ c e. ComesFirst rank f (violation home c e)) falls_back home

-- the violation, by a judge of entries with characters, of one of these entries with this character
pub record IsViolationAmong {F : Type 0} (violation : Data → ℕ → ℕ → Option F) (home : Data) (c : ℕ) (es : List ℕ) (f : F) : Type 0 where
  pub e : ℕ
  pub reachable : Contains es e
  pub found : violation home c e ≡ Some f

-- the violation of an entry that is reachable with a character
pub record IsReachableViolation {F : Type 0} (violation : Data → ℕ → ℕ → Option F) (falls_back : Bool) (home : Data) (f : F) : Type 0 where
  pub c : ℕ
  pub scalar : IsScalar c
  pub among : IsViolationAmong violation home c (reachable_at falls_back home c) f
