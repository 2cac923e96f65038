-- The entries of characters, by themselves and between others, while lines are taken in.
use Rattle.std.specs.Prelude.{◌≡◌, ℕ, ◌==◌, ◌&&◌, false, List, [], Option, Some, None, option_and_then, if◌then◌else◌, reverse, bytes_eq, MatchBool}
use Rattle.std.specs.BTreeMap.{BTreeMap, get}
use Rattle.std.specs.Ordering.{nat_cmp}
use Rattle.icu_table_mappings.specs.Surroundings.{Surroundings, entry_between}
use Rattle.icu_cldr_root.specs.WrittenMappings.{is_without_context}
use Rattle.icu_cldr_root.specs.declared.mapping.Mapping.{Mapping}

-- the entries of characters by themselves
abbrev pub Plain : Type 0
Plain = BTreeMap ℕ ℕ

-- the entries of characters between others
abbrev pub Around : Type 0
Around = BTreeMap ℕ Surroundings

-- the entry of a character behind just these characters, the nearest first, and before just those
abbrev pub entry_around : Around → ℕ → List ℕ → List ℕ → Option ℕ
entry_around contexts c before after = option_and_then (λ all. entry_between all before after) (get nat_cmp contexts c)

-- the characters of a mapping have this entry
abbrev pub HasEntry : Plain → Around → Mapping → ℕ → Type 0
HasEntry entries contexts m e =
    MatchBool (is_without_context m) (get nat_cmp entries m.first ≡ Some e)
    (entry_around contexts m.first (reverse m.prefix.items) m.suffix.items ≡ Some e)

-- a character that had no entry has this one, and no other character's changes
pub record PutsPlain (old new : Plain) (c e : ℕ) : Type 0 where
  pub absent : get nat_cmp old c ≡ None
  pub here : get nat_cmp new c ≡ Some e
  pub others : (x : ℕ) → (c == x) ≡ false → get nat_cmp new x ≡ get nat_cmp old x

-- a character that had no entry between these characters has this one, and nothing else changes
pub record PutsBetween (old new : Around) (c : ℕ) (before after : List ℕ) (e : ℕ) : Type 0 where
  pub absent : entry_around old c before after ≡ None
  pub here : (b a : List ℕ) → entry_around new c b a
      ≡ (if bytes_eq before b && bytes_eq after a then Some e else entry_around old c b a)
  pub others : (x : ℕ) → (c == x) ≡ false → get nat_cmp new x ≡ get nat_cmp old x

-- entries that stand stay, and none is put between no characters
pub record EntriesGrow (plain : Plain) (around : Around) (new_plain : Plain) (new_around : Around) : Type 0 where
  pub alone : (c e : ℕ) → get nat_cmp plain c ≡ Some e → get nat_cmp new_plain c ≡ Some e
  pub between : (c : ℕ) (b a : List ℕ) (e : ℕ) → entry_around around c b a ≡ Some e → entry_around new_around c b a ≡ Some e
  pub no_empty : (c : ℕ) → entry_around around c [] [] ≡ None → entry_around new_around c [] [] ≡ None
