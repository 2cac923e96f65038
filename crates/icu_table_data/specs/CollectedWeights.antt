-- The weights of the elements of reachable entries, as they are collected. Those of implicit weights (UTS #10,
-- "Implicit Weights") aren't: they follow from the character, and there are a million of them.
use Rattle.std.specs.Prelude.{ℕ, ◌≡◌, Bool, true, false, ◌&&◌, ◌↔◌, ◌⊎◌, List, Option, Some, IsTrue}
use Rattle.std.specs.Char.{IsScalar}
use Rattle.std.specs.List.{Contains}
use Rattle.icu_table_entries.specs.declared.entry.EntryKind.TheVariants.{Implicit}
use Rattle.icu_table_entries.specs.Elements.{Element}
use Rattle.icu_table_entries.specs.Entries.{kind_of}
use Rattle.icu_table_data.specs.Data.{Data, homed}
use Rattle.icu_table_data.specs.Final.{final_elements}
use Rattle.icu_table_data.specs.DataConditions.{is_readable}
use Rattle.icu_table_data.specs.Reachable.{reachable_at}

-- the table states the elements of the entry: they can be read, and aren't for an implicit weight
unfoldable pub is_stated : Data → ℕ → ℕ → Bool
is_stated home c e = (elim (kind_of e) [ Implicit ↦ false | _ ↦ true ]) && is_readable home c e

-- a weight that is collected of an element of one of these entries with this character; of an entry that states none,
-- none is
pub record IsWeightAmong (weight : Element → Option ℕ) (home : Data) (c : ℕ) (es : List ℕ) (w : ℕ) : Type 0 where
  pub e : ℕ
  pub reachable : Contains es e
  pub stated : IsTrue (is_stated home c e)
  pub x : Element
  pub given : Contains (final_elements (homed home e) c) x
  pub weighs : weight x ≡ Some w

-- a weight that is collected of an element of an entry that is reachable with a character
pub record IsReachableWeight (weight : Element → Option ℕ) (falls_back : Bool) (home : Data) (w : ℕ) : Type 0 where
  pub c : ℕ
  pub scalar : IsScalar c
  pub among : IsWeightAmong weight home c (reachable_at falls_back home c) w

-- a list holds what it held, and what is P
abbrev pub Adds : (ℕ → Type 0) → List ℕ → List ℕ → Type 0
Adds P old new = (w : ℕ) → Contains new w ↔ (Contains old w ⊎ P w)
