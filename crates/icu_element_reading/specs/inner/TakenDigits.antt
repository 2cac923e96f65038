-- What taking the digits of a number off a text does.
use Rattle.std.specs.Prelude.{ℕ, ◌≡◌, ◌<◌, Bool, true, List, [], ◌∷◌, ◌++◌, Some, None, if◌then◌else◌, drop, length, map, take_while}
use Rattle.icu_table_entries.specs.Entries.{digit_value}
use Rattle.icu_table_provider.specs.Tables.{Tables}
use Rattle.icu_element_matches.specs.Matches.{Match}
use Rattle.icu_element_matches.specs.declared.matched.Matched.{Matched}
use Rattle.icu_element_reading.specs.declared.reader.position.Position.{Position}
use Rattle.icu_table_data.specs.Data.{Data, plain_of}
use Rattle.icu_element_reading.specs.TextElements.{Reading, Step, continues_number, begins_with_mark, digit_of_char, last_two, number_step, final_step}
use Rattle.icu_element_reading.specs.inner.Positions.{consumed_last, unread_at}

-- the run of digits that a text begins with
abbrev pub run_of : Tables → List ℕ → List ℕ
run_of tables text = take_while (continues_number tables) text

-- what was found, with the text that it leaves
abbrev pub matched : Matched → List ℕ → Match
matched found text = record { entry = found.ce32; suffix = found.suffix.items; rest = text }

-- nothing was taken, since no digit comes next
pub record IsNoDigit (tables : Tables) (old new : Position) : Type 0 where
  pub run : run_of tables (unread_at old) ≡ []
  pub unread : unread_at new ≡ unread_at old
  pub before : consumed_last new ≡ consumed_last old

-- the digit of the next character, which was taken
pub record IsDigitTaken (tables : Tables) (d : ℕ) (old new : Position) : Type 0 where
  pub char : ℕ
  pub taken : unread_at old ≡ char ∷ unread_at new
  pub continues : continues_number tables char ≡ true
  pub digit : d ≡ digit_of_char tables char
  pub decimal : d < 10
  pub before : consumed_last new ≡ last_two (consumed_last old) (char ∷ [])

-- a run of digits was taken, and the digits were appended
pub record IsRunTaken (tables : Tables) (old : Position) (es : List ℕ) (new : Position) (ds : List ℕ) : Type 0 where
  pub digits : ds ≡ es ++ map (digit_of_char tables) (run_of tables (unread_at old))
  pub rest : unread_at new ≡ drop (length (run_of tables (unread_at old))) (unread_at old)
  pub before : consumed_last new ≡ last_two (consumed_last old) (run_of tables (unread_at old))

-- a digit is a number by itself where its match consumed a suffix or a mark follows
abbrev pub stands_alone : Match → Bool
stands_alone m = elim m.suffix as (λ _. Bool) [ [] ↦ begins_with_mark m.rest | _ ∷ _ ↦ true ]

-- the run that goes on a number after its first digit
abbrev pub number_run : Tables → Match → List ℕ
number_run tables m = if stands_alone m then [] else run_of tables m.rest

-- the characters of a number were taken, at a digit with this match
pub record IsNumberTaken (tables : Tables) (c : ℕ) (m : Match) (old new : Position) (ds : List ℕ) : Type 0 where
  pub digits : ds ≡ digit_value m.entry ∷ map (digit_of_char tables) (number_run tables m)
  pub rest : unread_at new ≡ drop (length (number_run tables m)) m.rest
  pub before : consumed_last new ≡ last_two (consumed_last old) (c ∷ (m.suffix ++ number_run tables m))

-- what a digit gives, by its match: a number, or its plain entry's elements
abbrev pub digit_step : Reading → Data → ℕ → Match → Step
digit_step reading home c m =
    elim reading.numeric as (λ _. Step) [ None ↦ final_step home c (plain_of home m.entry) m | Some lead ↦ number_step reading.tables lead m ]
