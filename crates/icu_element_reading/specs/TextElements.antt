-- The elements of a decomposed text (UTS #10, "Produce Collation Element Arrays"; numbers and prefixes by UTS #35 part
-- 5).
use Rattle.std.specs.Prelude.{ℕ, Bool, true, false, not, ◌&&◌, ◌||◌, ◌==◌, List, [], ◌∷◌, ◌++◌, Option, Some, None, if◌then◌else◌, take, drop, length, map, reverse, is_some, take_while}
use Rattle.unicode_normalization.specs.Order.{is_nonstarter}
use Rattle.icu_order_levels.specs.Numbers.{run_weights}
use Rattle.icu_table_entries.specs.Elements.{Element, of_primary, of_secondary}
use Rattle.icu_table_entries.specs.declared.entry.EntryKind.{EntryKind}
use Rattle.icu_table_entries.specs.declared.entry.EntryKind.TheVariants.{Digit}
use Rattle.icu_table_entries.specs.Entries.{kind_of, digit_value}
use Rattle.icu_table_data.specs.Data.{Data, homed, plain_of}
use Rattle.icu_table_provider.specs.Tables.{Tables, entry_of, diacritic_of}
use Rattle.icu_table_data.specs.Final.{final_elements}
use Rattle.icu_element_matches.specs.Matches.{Match, match_of}

-- How a text is read: the tables, the lead byte of numbers where digits are read as numbers, and whether U+0307 before
-- a diacritic above is silent, as in Lithuanian.
pub record Reading : Type 0 where
  pub tables : Tables
  pub numeric : Option ℕ
  pub lithuanian : Bool

-- how a text is read whose digits are letters like others
abbrev pub non_numeric_reading : Tables → Reading
non_numeric_reading tables = record { tables = tables; numeric = None; lithuanian = false }

-- what reading at one character gives: elements, the characters consumed after it, and the text that is left
pub record Step : Type 0 where
  pub elements : List Element
  pub suffix : List ℕ
  pub rest : List ℕ

-- the kind of a digit's entry
abbrev pub is_digit_kind : EntryKind → Bool
is_digit_kind Digit = true
is_digit_kind _ = false

-- a text that begins with a grave, an acute or a tilde
abbrev pub is_diacritic_above : List ℕ → Bool
is_diacritic_above [] = false
is_diacritic_above (c ∷ cs) = c == 0x300 || c == 0x301 || c == 0x303

-- U+0307 directly before U+0300, U+0301 or U+0303 gives nothing under the Lithuanian rule
abbrev pub is_silent_dot : Bool → ℕ → List ℕ → Bool
is_silent_dot lithuanian c text = lithuanian && c == 0x307 && is_diacritic_above text

-- the entry that a character comes to with nothing before it and nothing after it
abbrev pub entry_alone : Tables → ℕ → ℕ
entry_alone tables c = (match_of (entry_of tables c) [] []).entry

-- a character that goes on a number: no diacritic, and alone it comes to a digit's entry
abbrev pub continues_number : Tables → ℕ → Bool
continues_number tables c = not (is_some (diacritic_of tables c)) && is_digit_kind (kind_of (entry_alone tables c))

-- a text that begins with a character of another class than 0
abbrev pub begins_with_mark : List ℕ → Bool
begins_with_mark [] = false
begins_with_mark (c ∷ cs) = is_nonstarter c

-- the digit that a character is alone
abbrev pub digit_of_char : Tables → ℕ → ℕ
digit_of_char tables c = digit_value (entry_alone tables c)

-- the elements of a run of digits
abbrev pub number_elements : ℕ → List ℕ → List Element
number_elements lead digits = map of_primary (run_weights lead digits)

-- A number: the digit with the run of digits after it, or the digit alone where its match consumed a suffix or a mark
-- follows.
unfoldable pub number_step : Tables → ℕ → Match → Step
number_step tables lead m =
    let run = take_while (continues_number tables) m.rest in
    let alone : Step = record { elements = number_elements lead (digit_value m.entry ∷ []); suffix = m.suffix; rest = m.rest } in
    let together : Step = record {
      elements = number_elements lead (digit_value m.entry ∷ map (digit_of_char tables) run);
      suffix = run;
      rest = drop (length run) m.rest;
    } in
    elim m.suffix [ [] ↦ if begins_with_mark m.rest then alone else together | _ ∷ _ ↦ alone ]

-- what a match consumes and leaves, with the elements of a final entry
abbrev pub final_step : Data → ℕ → ℕ → Match → Step
final_step home c entry m = record { elements = final_elements (homed home entry) c; suffix = m.suffix; rest = m.rest }

-- what the entry that a match came to gives: a digit is a number, or its other entry where digits aren't read as
-- numbers
unfoldable pub entry_step : Reading → Data → ℕ → Match → Step
entry_step reading home c m =
    let letter : Step = final_step home c (plain_of home m.entry) m in
    let numeric : Step = elim reading.numeric [ None ↦ letter | Some lead ↦ number_step reading.tables lead m ] in
    elim (kind_of m.entry) [ Digit ↦ numeric | _ ↦ final_step home c m.entry m ]

-- what a diacritic gives before a text, where no match consumed it
abbrev pub diacritic_step : Reading → ℕ → ℕ → List ℕ → Step
diacritic_step reading secondary c text =
    let silent : Step = record { elements = []; suffix = []; rest = text } in
    let sounding : Step = record { elements = of_secondary secondary ∷ []; suffix = []; rest = text } in
    if is_silent_dot reading.lithuanian c text then silent else sounding

-- what a character gives before a text, with its match
unfoldable pub matched_step : Reading → ℕ → List ℕ → Match → Step
matched_step reading c text m =
    elim (diacritic_of reading.tables c) [
      | Some secondary ↦ diacritic_step reading secondary c text
      | None ↦ entry_step reading (entry_of reading.tables c).home c m
    ]

-- what a character gives before a text, after the characters that were consumed, nearest first
abbrev pub step : Reading → List ℕ → ℕ → List ℕ → Step
step reading before c text = matched_step reading c text (match_of (entry_of reading.tables c) before text)

-- the characters that a step consumes, its own first
abbrev pub consumed : ℕ → Step → List ℕ
consumed c s = c ∷ s.suffix

-- the last two characters consumed, nearest first: prefixes look no further back
abbrev pub last_two : List ℕ → List ℕ → List ℕ
last_two before chars = take 2 (reverse chars ++ before)

-- The elements of what is left of a text. The first list is one at least as long as that, to go by.
unfoldable pub elements_along : List ℕ → Reading → List ℕ → List ℕ → List Element
elements_along along reading before [] = []
elements_along [] reading before (c ∷ text) = []
elements_along (_ ∷ along) reading before (c ∷ text) =
    let s = step reading before c text in
    s.elements ++ elements_along along reading (last_two before (consumed c s)) s.rest

-- the elements of a decomposed text that comes after a context
unfoldable pub elements_after : Reading → List ℕ → List ℕ → List Element
elements_after reading before text = elements_along text reading before text

-- the elements of a decomposed text
abbrev pub elements_of : Reading → List ℕ → List Element
elements_of reading text = elements_after reading [] text
