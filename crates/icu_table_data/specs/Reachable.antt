-- The entries that reading a text may come to from an entry. Prefixes lead to contractions, those to digits, and digits
-- to final entries, so there are three layers. Where an entry leads to one that it may not lead to, that one is
-- reachable, and opens nothing. An index outside its table reads as the empty context, or as entry 0, as it does where
-- texts are read.
use Rattle.std.specs.Prelude.{ℕ, ◌≡◌, ◌⊎◌, Bool, true, false, ◌&&◌, ◌==◌, List, [], ◌∷◌, map, flat_map, if◌then◌else◌}
use Rattle.std.specs.Char.{IsScalar}
use Rattle.std.specs.List.{AllByRecursion}
use Rattle.icu_table_entries.specs.declared.entry.EntryKind.{EntryKind}
use Rattle.icu_table_entries.specs.declared.entry.EntryKind.TheVariants.{Prefix, Contraction, Digit, Offset, Implicit}
use Rattle.icu_table_entries.specs.Entries.{fallback_entry, kind_of, entry_index}
use Rattle.icu_table_data.specs.Data.{Mapping, Context, Data, homed, context_of, plain_of}

-- what a context leads to
abbrev pub context_entries : Context → List ℕ
context_entries context = context.default ∷ map (λ (mapping : Mapping). mapping.entry) context.mappings

-- what the context leads to that an entry refers to
abbrev pub named_entries : Data → ℕ → List ℕ
named_entries home e = context_entries (context_of (homed home e))

-- from an entry that a contraction leads to: the entry itself, and the plain entry of a digit
unfoldable pub reachable_digit : Data → ℕ → List ℕ
reachable_digit home e = elim (kind_of e) [ Digit ↦ e ∷ plain_of home e ∷ [] | _ ↦ e ∷ [] ]

-- from an entry that a prefix leads to: also what a contraction leads to
unfoldable pub reachable_contraction : Data → ℕ → List ℕ
reachable_contraction home e =
    elim (kind_of e) [ Contraction ↦ e ∷ flat_map (reachable_digit home) (named_entries home e) | _ ↦ reachable_digit home e ]

-- from the entry of a character: also what a prefix leads to
unfoldable pub reachable_from : Data → ℕ → List ℕ
reachable_from home e =
    elim (kind_of e) [ Prefix ↦ e ∷ flat_map (reachable_contraction home) (named_entries home e) | _ ↦ reachable_contraction home e ]

-- The entries that are reachable with a character of a code point table. A tailoring falls back: where its entry is
-- fallback, the root's stands for it, and it has none (UTS #35 part 5, "Collation Tailorings").
abbrev pub reachable_at : Bool → Data → ℕ → List ℕ
reachable_at falls_back home c = if falls_back && home.value c == fallback_entry then [] else reachable_from home (home.value c)

-- What the entry gives goes by its character: a weight that is counted from that of another, or an implicit one (UTS
-- #10, "Implicit Weights"). Any other entry gives the same with each character.
unfoldable pub goes_by_character : ℕ → Bool
goes_by_character e = elim (kind_of e) [ Offset ↦ true | Implicit ↦ true | _ ↦ false ]

-- what holds of each pair of a character and an entry that is reachable with it
abbrev pub EachReachable : (ℕ → ℕ → Type 0) → Bool → Data → Type 0
EachReachable P falls_back home = (c : ℕ) → IsScalar c → AllByRecursion (P c) (reachable_at falls_back home c)

-- an entry of this kind refers to a context
abbrev pub names_context : EntryKind → Bool
names_context Prefix = true
names_context Contraction = true
names_context _ = false

-- Two entries refer to one context in the same way: their kinds and indices are the same. The bits between these say
-- nothing.
pub record SameContext (e f : ℕ) : Type 0 where
  pub context : names_context (kind_of e) ≡ true
  pub kind : kind_of e ≡ kind_of f
  pub index : entry_index e ≡ entry_index f

-- the entries are one, or refer to one context
abbrev pub ReferAlike : ℕ → ℕ → Type 0
ReferAlike e f = (e ≡ f) ⊎ SameContext e f

-- an entry says the same with each character as another one
pub record AreAlike (e f : ℕ) : Type 0 where
  pub shared : goes_by_character f ≡ false
  pub same : ReferAlike e f
