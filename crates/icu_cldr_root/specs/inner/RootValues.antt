-- What a root says whose characters were given entries.
use Rattle.std.specs.Prelude.{◌≡◌, ℕ, ◌<◌, ◌==◌, List, [], ◌∷◌, if◌then◌else◌, unwrap_or}
use Rattle.std.specs.BTreeMap.{get}
use Rattle.std.specs.Ordering.{nat_cmp}
use Rattle.icu_table_data.specs.CodePointTables.{code_point_count}
use Rattle.icu_table_data.specs.Data.{Data}
use Rattle.icu_cldr_root.specs.inner.LineEntries.{Plain}

-- two that have the same lists and contexts
pub record SameLists (d e : Data) : Type 0 where
  pub elements : e.elements ≡ d.elements
  pub entries : e.entries ≡ d.entries
  pub contexts : e.contexts ≡ d.contexts

-- the entry of a character after these were given, of which the last counts
unfoldable pub last_given : List (ℕ × ℕ) → ℕ → ℕ → ℕ
last_given [] c other = other
last_given (e ∷ es) c other = last_given es c (if e.0 == c then e.1 else other)

-- each mapped character has its entry, and any other what it had
abbrev pub HasEntries : Plain → Data → Data → Type 0
HasEntries entries d e = (c : ℕ) → c < code_point_count → e.value c ≡ unwrap_or (get nat_cmp entries c) (d.value c)
