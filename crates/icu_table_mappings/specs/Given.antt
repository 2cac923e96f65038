-- What a table gives for the characters of a mapping (UTS #35 part 5, "Context-Sensitive Mappings"; UTS #10,
-- "Expansions" and "Contractions").
use Rattle.std.specs.Prelude.{◌≡◌, ℕ, ◌+◌, ◌<◌, ◌≤◌, true, List, [], ◌∷◌, Option, Some, ◌⊎◌, flat_map, is_some, length}
use Rattle.icu_table_entries.specs.Elements.{Element}
use Rattle.icu_table_entries.specs.declared.entry.EntryKind.{EntryKind}
use Rattle.icu_table_entries.specs.declared.entry.EntryKind.TheVariants.{Expansion32, Expansion, Prefix, Contraction}
use Rattle.icu_table_entries.specs.Entries.{kind_of, entry_index, list_length, self_contained}
use Rattle.icu_table_data.specs.Data.{Data, Context, context_in, mapping_entry}
use Rattle.icu_table_data.specs.Final.{listed}
use Rattle.icu_table_mappings.specs.Surroundings.{IsBehind, Surroundings, nearest, own_entry}

-- the entry has these elements by itself, and has some
pub record SpellsAlone (e : ℕ) (es : List Element) : Type 0 where
  pub some : 0 < length es
  pub elements : self_contained e ≡ es

-- the entry names a list of entries, which the table has and which have these elements by themselves
pub record SpellsByEntries (d : Data) (e : ℕ) (es : List Element) : Type 0 where
  pub kind : kind_of e ≡ Expansion32
  pub inside : entry_index e + list_length e ≤ length d.entries
  pub elements : flat_map self_contained (listed e d.entries) ≡ es

-- the entry names a list of elements, which the table has: these
pub record SpellsByElements (d : Data) (e : ℕ) (es : List Element) : Type 0 where
  pub kind : kind_of e ≡ Expansion
  pub inside : entry_index e + list_length e ≤ length d.elements
  pub elements : listed e d.elements ≡ es

-- the entry has these elements, by itself or by a list of the table (UTS #10, "Expansions")
abbrev pub Spells : Data → ℕ → List Element → Type 0
Spells d e es = SpellsAlone e es ⊎ (SpellsByEntries d e es ⊎ SpellsByElements d e es)

-- the entry that a context has for these characters: its default for none, a mapping's for others
abbrev pub entry_in : Context → List ℕ → Option ℕ
entry_in context [] = Some context.default
entry_in context (c ∷ cs) = mapping_entry context.mappings (c ∷ cs)

-- the entry is of this kind and refers to a context that the table has, in which these characters have the entry f
pub record RefersTo (kind : EntryKind) (d : Data) (e : ℕ) (chars : List ℕ) (f : ℕ) : Type 0 where
  pub kind_is : kind_of e ≡ kind
  pub inside : entry_index e < length d.contexts
  pub entry : entry_in (context_in d.contexts (entry_index e)) chars ≡ Some f

-- beside these characters the entry e comes to f: by a context, or, where there are none, as it stands
abbrev pub Leads : EntryKind → Data → ℕ → List ℕ → ℕ → Type 0
Leads kind d e chars f = RefersTo kind d e chars f ⊎ ((chars ≡ []) × (f ≡ e))

-- behind some characters, the nearest first, and before others the entry e comes to f: first by its prefix, then by its
-- contraction (UTS #35 part 5, "Context-Sensitive Mappings")
pub record Gives (d : Data) (e : ℕ) (before after : List ℕ) (f : ℕ) : Type 0 where
  pub behind : ℕ
  pub prefix : Leads Prefix d e before behind
  pub contraction : Leads Contraction d behind after f

-- the entry is of this kind and refers to a context that the table has, in which each list of characters has just the
-- entry that is found by it
pub record RefersJustTo (kind : EntryKind) (d : Data) (e : ℕ) (found : List ℕ → Option ℕ) : Type 0 where
  pub kind_is : kind_of e ≡ kind
  pub inside : entry_index e < length d.contexts
  pub entries : (chars : List ℕ) → entry_in (context_in d.contexts (entry_index e)) chars ≡ found chars

-- Beside each list of characters the entry e comes to what is found by it, and to nothing where nothing is: by a
-- context, or, where nothing is found but by no characters, as it stands.
abbrev pub LeadsJust : EntryKind → Data → ℕ → (List ℕ → Option ℕ) → Type 0
LeadsJust kind d e found = RefersJustTo kind d e found ⊎ ((chars : List ℕ) → own_entry e chars ≡ found chars)

-- Behind characters that have entries, or none, the entry e comes to one; and behind any for which it does, it comes to
-- just the nearest entry, whatever follows.
pub record GivesJust (d : Data) (e : ℕ) (all : Surroundings) (own : ℕ) : Type 0 where
  pub behind : List ℕ → Option ℕ
  pub prefix : LeadsJust Prefix d e behind
  pub prefixes : (before : List ℕ) → IsBehind all before → is_some (behind before) ≡ true
  pub contraction : (before : List ℕ) (b : ℕ) → behind before ≡ Some b → LeadsJust Contraction d b (nearest all own before)
