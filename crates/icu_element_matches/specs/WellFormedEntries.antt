-- What reading by an entry asks of its home.
use Rattle.std.specs.Prelude.{ℕ, ◌<◌, List, length, IsTrue}
use Rattle.std.specs.List.{Contains}
use Rattle.icu_table_data.specs.declared.reachable_condition.ReachableCondition.{ReachableCondition}
use Rattle.icu_table_entries.specs.Entries.{entry_index}
use Rattle.icu_table_data.specs.Reachable.{reachable_from, reachable_digit}
use Rattle.icu_table_data.specs.ReachableConditions.{meets}
use Rattle.icu_table_data.specs.Data.{Data}

-- the context that the entry refers to is there
abbrev pub HasContext : Data → ℕ → Type 0
HasContext home e = entry_index e < length home.contexts

-- each of these entries meets each condition with the character
abbrev pub MeetAll : Data → ℕ → List ℕ → Type 0
MeetAll home c es = (condition : ReachableCondition) (f : ℕ) → Contains es f → IsTrue (meets condition home c f)

-- each entry that is reachable from this one meets each condition with the character
abbrev pub IsWellFormedFrom : Data → ℕ → ℕ → Type 0
IsWellFormedFrom home c e = MeetAll home c (reachable_from home e)

-- an entry that a match came to meets each condition with the character, and where it is a digit, so does its plain
-- entry
abbrev pub IsWellFormedMatch : Data → ℕ → ℕ → Type 0
IsWellFormedMatch home c e = MeetAll home c (reachable_digit home e)
