-- Reading the digits of a run number by number.
use Rattle.std.specs.Prelude.{◌≡◌, ◌<◌, ◌⊎◌, ℕ, true, List, [], ◌∷◌, ◌++◌, take, drop, length, map}
use Rattle.icu_table_entries.specs.Elements.{Element, of_primary}
use Rattle.icu_order_levels.specs.Numbers.{number_weights, value_of, without_first_zeros, longest_number, run_weights}
use Rattle.icu_table_provider.specs.Tables.{Tables}
use Rattle.icu_element_reading.specs.TextElements.{Reading, continues_number, digit_of_char, last_two, number_elements, elements_after}
use Rattle.icu_element_reading.specs.inner.TakenDigits.{run_of}
use Rattle.icu_element_matches.specs.declared.steady_numbers.steady_number.SteadyNumber.{SteadyNumber}
use Rattle.icu_element_matches.specs.steady_numbers.SteadyNumbers.{weights_left}
use Rattle.icu_element_reading.specs.declared.steady_elements.number_digits.NumberDigits.{NumberDigits}

-- the digits of a number
unfoldable pub room_digits : NumberDigits → List ℕ
room_digits d = take d.len d.digits

-- nothing was read, since no digit comes next
pub record IsRunEnd (tables : Tables) (before text before_now text_now : List ℕ) : Type 0 where
  pub run : run_of tables text ≡ []
  pub unread : text_now ≡ text
  pub recent : before_now ≡ before

-- the digit of the next character, which was read
pub record IsDigitRead (tables : Tables) (d : ℕ) (before text before_now text_now : List ℕ) : Type 0 where
  pub char : ℕ
  pub taken : text ≡ char ∷ text_now
  pub continues : continues_number tables char ≡ true
  pub digit : d ≡ digit_of_char tables char
  pub decimal : d < 10
  pub recent : before_now ≡ last_two before (char ∷ [])

-- the digits of the run that a text begins with
abbrev pub run_digits : Tables → List ℕ → List ℕ
run_digits tables text = map (digit_of_char tables) (run_of tables text)

-- the elements behind the run that a text begins with
abbrev pub elements_behind_run : Reading → List ℕ → List ℕ → List Element
elements_behind_run reading before text =
    elements_after reading (last_two before (run_of reading.tables text)) (drop (length (run_of reading.tables text)) text)

-- the elements of a run of digits, of which these were read, and of the text behind it
abbrev pub run_elements : Reading → ℕ → List ℕ → List ℕ → List ℕ → List Element
run_elements reading lead digits before text =
    number_elements lead (digits ++ run_digits reading.tables text) ++ elements_behind_run reading before text

-- the weights of the number that digits begin with, which is 0 where there are none, and then those of the others
abbrev pub started_weights : ℕ → List ℕ → List ℕ
started_weights lead digits =
    number_weights lead (value_of (take longest_number (without_first_zeros digits)))
    ++ run_weights lead (drop longest_number (without_first_zeros digits))

-- the elements of a run of digits in the midst of a number, of which these digits were read, and of the text behind it
abbrev pub started_elements : Reading → ℕ → List ℕ → List ℕ → List ℕ → List Element
started_elements reading lead digits before text =
    map of_primary (started_weights lead (digits ++ run_digits reading.tables text)) ++ elements_behind_run reading before text

-- digits are a whole number before a text: they are as many as one number has at most, or no digit comes next
abbrev pub IsWholeNumber : Tables → List ℕ → List ℕ → Type 0
IsWholeNumber tables digits text = (length digits ≡ longest_number) ⊎ (run_of tables text ≡ [])

-- the elements of a number that are still to be given
abbrev pub weights_given : SteadyNumber → List Element
weights_given n = map of_primary (weights_left n)
