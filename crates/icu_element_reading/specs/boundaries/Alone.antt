-- Characters that give the same wherever they stand, and texts that are read a character at a time.
use Rattle.std.specs.Prelude.{ℕ, Bool, true, false, not, flat_map, Some, None, ◌&&◌, ◌||◌, ◌==◌, List, [], ◌∷◌, ◌++◌, Option, is_some, nat_le}
use Rattle.icu_table_entries.specs.declared.entry.EntryKind.{EntryKind}
use Rattle.icu_table_entries.specs.declared.entry.EntryKind.TheVariants.{Prefix, Contraction, Digit}
use Rattle.icu_table_entries.specs.Elements.{Element, of_secondary}
use Rattle.icu_table_entries.specs.Entries.{kind_of}
use Rattle.icu_table_data.specs.Data.{HomedEntry, homed, plain_of}
use Rattle.icu_table_provider.specs.Tables.{Tables, entry_of, diacritic_of}
use Rattle.ucd_normal.specs.CanonicalCombiningClass.{canonical_combining_class as class_of}
use Rattle.unicode_normalization.specs.Order.{is_starter, is_reorderable}
use Rattle.icu_table_data.specs.Final.{final_elements}
use Rattle.icu_element_reading.specs.TextElements.{Reading, is_digit_kind, last_two}

-- ---- elements of one character

-- the plain entry of a digit, and each other entry itself
abbrev pub plain_entry : HomedEntry → HomedEntry
plain_entry h = elim (kind_of h.entry) as (λ _. HomedEntry) [ Digit ↦ homed h.home (plain_of h.home h.entry) | _ ↦ h ]

-- the elements of a character that stands alone
unfoldable pub elements_of_char : Tables → ℕ → List Element
elements_of_char tables c =
    elim (diacritic_of tables c) as (λ _. List Element) [ Some secondary ↦ of_secondary secondary ∷ [] | None ↦ final_elements (plain_entry (entry_of tables c)) c ]

-- those of several, each by itself
abbrev pub elements_by_char : Tables → List ℕ → List Element
elements_by_char tables cs = flat_map (elements_of_char tables) cs

-- ---- characters that stand alone

-- the kind names no context
abbrev pub names_no_context : EntryKind → Bool
names_no_context Prefix = false
names_no_context Contraction = false
names_no_context _ = true

-- the kind looks at no context, and isn't a digit's where digits are read as numbers
abbrev pub looks_at_nothing : Option ℕ → EntryKind → Bool
looks_at_nothing numeric k = names_no_context k && not (is_some numeric && is_digit_kind k)

-- a diacritic's entry isn't read
abbrev pub has_own_elements : Reading → ℕ → Bool
has_own_elements reading c =
    is_some (diacritic_of reading.tables c) || looks_at_nothing reading.numeric (kind_of (entry_of reading.tables c).entry)

-- the dot that may be silent
abbrev pub is_dot : Reading → ℕ → Bool
is_dot reading c = reading.lithuanian && c == 0x307

-- the character gives the same elements wherever it stands
abbrev pub is_alone : Reading → ℕ → Bool
is_alone reading c = has_own_elements reading c && not (is_dot reading c)

-- the context after characters that were consumed one by one
unfoldable pub context_after : List ℕ → List ℕ → List ℕ
context_after before [] = before
context_after before (c ∷ cs) = context_after (last_two before (c ∷ [])) cs

-- ---- marks that stay where they are

-- the head of a list doesn't go before m
unfoldable pub stays_before : ℕ → List ℕ → Bool
stays_before m [] = true
stays_before m (d ∷ ds) = not (is_reorderable m d)

-- no mark up to the next starter goes before m
unfoldable pub stays_first : ℕ → List ℕ → Bool
stays_first m [] = true
stays_first m (d ∷ ds) = is_starter d || (not (is_reorderable m d) && stays_first m ds)

-- the marks up to the next starter are in order
unfoldable pub run_ascends : List ℕ → Bool
run_ascends [] = true
run_ascends (d ∷ ds) = is_starter d || (stays_before d ds && run_ascends ds)

-- each of these characters stays where it is, before a text
unfoldable pub all_stay : List ℕ → List ℕ → Bool
all_stay [] text = true
all_stay (d ∷ ds) text = (is_starter d || stays_first d (ds ++ text)) && all_stay ds text

-- the classes of the marks up to the next starter rise from this one
unfoldable pub rises_from : ℕ → List ℕ → Bool
rises_from class [] = true
rises_from class (d ∷ ds) = is_starter d || (nat_le class (class_of d) && rises_from (class_of d) ds)
