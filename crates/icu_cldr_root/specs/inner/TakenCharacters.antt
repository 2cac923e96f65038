-- The entries of characters that no line maps, while lines are taken in.
use Rattle.std.specs.Prelude.{◌≡◌, ℕ, ◌==◌, false, List, None}
use Rattle.std.specs.BTreeMap.{get}
use Rattle.std.specs.Char.{IsScalar}
use Rattle.std.specs.List.{list_any}
use Rattle.std.specs.Ordering.{nat_cmp}
use Rattle.icu_table_provider.specs.builder.Building.{built_data}
use Rattle.icu_table_provider.specs.CollatorTables.{CollatorTables}
use Rattle.icu_cldr_root.specs.Ideographs.{primary_in}
use Rattle.icu_cldr_root.specs.Unmapped.{GivesUnmapped, maps_first}
use Rattle.icu_cldr_root.specs.inner.LineEntries.{Around, Plain}
use Rattle.icu_cldr_root.specs.declared.collected.Collected.{Collected}
use Rattle.icu_cldr_root.specs.declared.line.Line.{Line}

-- each character has the weight of an ideograph or the implicit entry, its mappings aside
abbrev pub HasUnmapped : Collected → Type 0
HasUnmapped c = (x : ℕ) → IsScalar x → GivesUnmapped (built_data c.builder) x (primary_in c.ideographs x)

-- a character has no entry, by itself or between others
pub record HasNoEntry (plain : Plain) (around : Around) (c : ℕ) : Type 0 where
  pub alone : get nat_cmp plain c ≡ None
  pub between : get nat_cmp around c ≡ None

-- other characters than this one have the entries that they had
pub record KeepsOthers (plain : Plain) (around : Around) (new_plain : Plain) (new_around : Around) (c : ℕ) : Type 0 where
  pub alone : (x : ℕ) → (c == x) ≡ false → get nat_cmp new_plain x ≡ get nat_cmp plain x
  pub between : (x : ℕ) → (c == x) ≡ false → get nat_cmp new_around x ≡ get nat_cmp around x

-- characters that a line doesn't map have the entries that they had
abbrev pub KeepsUnmapped : Collected → Collected → Line → Type 0
KeepsUnmapped old new said = (x : ℕ) → maps_first x said ≡ false
    → HasNoEntry old.entries old.contexts x → HasNoEntry new.entries new.contexts x

-- characters that no line maps have no entry
abbrev pub MapsOnly : Collected → List Line → Type 0
MapsOnly c said = (x : ℕ) → list_any (maps_first x) said ≡ false → HasNoEntry c.entries c.contexts x

-- the root gives characters that have no entry what was put in for them
abbrev pub LeavesUnmapped : Collected → CollatorTables → Type 0
LeavesUnmapped c all = HasUnmapped c → (x : ℕ) → IsScalar x → HasNoEntry c.entries c.contexts x
    → GivesUnmapped all.tables.root x (primary_in c.ideographs x)
