-- A text of digits is read as one number.
use Rattle.std.proofs.Common.{◌≡◌, ℕ, ◌<◌, true, false, not, ◌&&◌, List, [], ◌∷◌, ◌++◌, length, drop, map, take_while, Option, Some, None, is_some, if◌then◌else◌, refl, sym, ap, ◌∙◌, IsTrue, arith, append-nil}
use Rattle.std.specs.Char.{IsScalar}
use Rattle.std.specs.List.{AllByRecursion}
use Rattle.std.proofs.Math.Seq.{drop-length}
use Rattle.std.proofs.lemmas.List.Sums.{take_while-cons}
use Rattle.icu_table_entries.specs.Elements.{Element}
use Rattle.icu_table_entries.specs.declared.entry.EntryKind.{EntryKind}
use Rattle.icu_table_entries.specs.declared.entry.EntryKind.TheVariants.{Digit}
use Rattle.icu_table_entries.specs.Entries.{kind_of, digit_value}
use Rattle.icu_table_data.specs.Data.{Data}
use Rattle.icu_table_data.specs.Reachable.{reachable_from}
use Rattle.icu_table_data.proofs.ListLemmas.{of_member}
use Rattle.icu_table_provider.specs.ReachableTables.{IsReachable}
use Rattle.icu_table_provider.specs.Tables.{Tables, entry_of, diacritic_of}
use Rattle.icu_element_matches.specs.Matches.{Match, match_of}
use Rattle.icu_element_reading.specs.TextElements.{Reading, Step, is_digit_kind, entry_alone, continues_number, begins_with_mark, digit_of_char, number_elements, number_step, entry_step, matched_step, step, consumed, last_two, elements_after, elements_of}
use Rattle.icu_element_reading.specs.TextParts.{AreDigits, IsDecomposed}
use Rattle.icu_element_reading.specs.inner.Readable.{AreReadable}
use Rattle.icu_element_reading.proofs.MatchedAloneLemmas.{alone_decimal, digit_match, digit_alone}
use Rattle.icu_element_reading.proofs.ReadableLemmas.{entry_of-is_reachable}
use Rattle.icu_element_reading.proofs.StepLemmas.{elements_after_cons, elements_after_nil}
use Rattle.icu_order_texts.specs.text_laws.NumberTexts.{IsDigitCharacter, begins_with_digit}

-- ---- choices that are known

digit_kind : (k : EntryKind) → is_digit_kind k ≡ true → k ≡ Digit
digit_kind Digit h = refl
digit_kind _ h = cc

continues : (o : Option ℕ) (k : EntryKind) → (not (is_some o) && is_digit_kind k) ≡ true → (o ≡ None) × (k ≡ Digit)
continues None k h = (refl, digit_kind k h)
continues (Some x) k h = cc

at_digit : (k : EntryKind) (x y : Step) → k ≡ Digit → (elim k as (λ _. Step) [ Digit ↦ x | _ ↦ y ]) ≡ x
at_digit Digit x y h = refl
at_digit _ x y h = cc

at_none : (o : Option ℕ) (f : ℕ → Step) (s : Step) → o ≡ None → (elim o as (λ _. Step) [ Some x ↦ f x | None ↦ s ]) ≡ s
at_none None f s h = refl
at_none (Some x) f s h = cc

at_some : (o : Option ℕ) (f : ℕ → Step) (s : Step) (x : ℕ) → o ≡ Some x → (elim o as (λ _. Step) [ None ↦ s | Some y ↦ f y ]) ≡ f x
at_some o f s x h = rw h refl

-- ---- runs

whole_run : (tables : Tables) (cs : List ℕ) → AllByRecursion (IsDigitCharacter tables) cs → take_while (continues_number tables) cs ≡ cs
whole_run tables [] all = refl
whole_run tables (c ∷ cs) all =
    take_while-cons (continues_number tables) c cs ∙ (ap (λ b. if b then c ∷ take_while (continues_number tables) cs else []) all.0.continues
    ∙ ap (λ (l : List ℕ). c ∷ l) (whole_run tables cs all.1))

no_mark : (tables : Tables) (cs : List ℕ) → AllByRecursion (IsDigitCharacter tables) cs → begins_with_mark cs ≡ false
no_mark tables [] all = refl
no_mark tables (c ∷ cs) all = ap not all.0.starter

module _ (tables : Tables) (lead entry : ℕ) (cs : List ℕ) (all : AllByRecursion (IsDigitCharacter tables) cs) where
  abbrev whole_step : Step
  whole_step = record {
    elements = number_elements lead (digit_value entry ∷ map (digit_of_char tables) cs);
    suffix = cs;
    rest = [];
  }

  whole_number : number_step tables lead (record { entry = entry; suffix = []; rest = cs }) ≡ whole_step
  unfolding number_step
  whole_number =
      let together : List ℕ → Step = λ run. record {
        elements = number_elements lead (digit_value entry ∷ map (digit_of_char tables) run);
        suffix = run;
        rest = drop (length run) cs;
      } in
      let ended : together cs ≡ whole_step = ap (λ (l : List ℕ). record whole_step { rest = l }) (drop-length cs) in
      rw (no_mark tables cs all) (ap together (whole_run tables cs all) ∙ ended)

module _ (reading : Reading) (lead : ℕ) (numeric : reading.numeric ≡ Some lead) where
  abbrev tables : Tables
  tables = reading.tables

  entry_gives : (home : Data) (c entry : ℕ) (cs : List ℕ) → kind_of entry ≡ Digit → AllByRecursion (IsDigitCharacter reading.tables) cs
      → entry_step reading home c (record { entry = entry; suffix = []; rest = cs })
      ≡ record { elements = number_elements lead (digit_value entry ∷ map (digit_of_char reading.tables) cs); suffix = cs; rest = [] }
  unfolding entry_step
  entry_gives home c entry cs is digits =
      let m : Match = record { entry = entry; suffix = []; rest = cs } in
      at_digit (kind_of entry) _ _ is
      ∙ (at_some reading.numeric (λ n. number_step reading.tables n m) _ lead numeric ∙ whole_number reading.tables lead entry cs digits)

  first_step : (c : ℕ) (cs : List ℕ) → IsTrue (begins_with_digit reading.tables (c ∷ cs)) → AllByRecursion (IsDigitCharacter reading.tables) (c ∷ cs)
      → step reading [] c cs ≡ record {
        elements = number_elements lead (map (digit_of_char reading.tables) (c ∷ cs));
        suffix = cs;
        rest = [];
      }
  unfolding matched_step
  first_step c cs first digits =
      let h = entry_of reading.tables c in
      let own = digit_kind (kind_of h.entry) first in
      let is = continues (diacritic_of reading.tables c) (kind_of (entry_alone reading.tables c)) digits.0.continues in
      let number : ℕ → Step = λ e. record { elements = number_elements lead (digit_value e ∷ map (digit_of_char reading.tables) cs); suffix = cs; rest = [] } in
      at_none (diacritic_of reading.tables c) _ (entry_step reading h.home c (match_of h [] cs)) is.0
      ∙ (ap (λ m. entry_step reading h.home c m) (digit_match h [] cs own) ∙ entry_gives h.home c h.entry cs own digits.1)
      ∙ ap number (sym (digit_alone reading.tables c own))

  -- the elements of a text of digits are those of one number
  pub digits_give : (text : List ℕ) → IsTrue (begins_with_digit reading.tables text) → AllByRecursion (IsDigitCharacter reading.tables) text
      → elements_of reading text ≡ number_elements lead (map (digit_of_char reading.tables) text)
  digits_give [] first digits = cc
  digits_give (c ∷ cs) first digits =
      let ended : Step → List Element = λ s. s.elements ++ elements_after reading (last_two [] (consumed c s)) s.rest in
      elements_after_cons reading [] c cs
      ∙ (ap ended (first_step c cs first digits)
      ∙ (ap (λ es. number_elements lead (map (digit_of_char reading.tables) (c ∷ cs)) ++ es) (elements_after_nil reading (last_two [] (c ∷ cs)))
      ∙ append-nil (number_elements lead (map (digit_of_char reading.tables) (c ∷ cs)))))

-- ---- digits are decimal, by tables that meet the conditions

module _ (tables : Tables) (readable : AreReadable tables) where
  digit_decimal : (c : ℕ) → IsScalar c → IsTrue (continues_number tables c) → digit_of_char tables c < 10
  digit_decimal c scalar on =
      let h = entry_of tables c in
      let reachable = entry_of-is_reachable tables c scalar in
      let is = continues (diacritic_of tables c) (kind_of (entry_alone tables c)) on in
      alone_decimal h.home c h.entry (entry_alone tables c)
      (λ condition e among. readable.each condition h.home c e (of_member (IsReachable tables h.home c) (reachable_from h.home h.entry) e reachable among))
      refl is.1

  pub digits_decimal : (cs : List ℕ) → AllByRecursion IsDecomposed cs → AllByRecursion (IsDigitCharacter tables) cs → AreDigits (map (digit_of_char tables) cs)
  digits_decimal [] read all = tt
  digits_decimal (c ∷ cs) read all = (digit_decimal c read.0.scalar all.0.continues, digits_decimal cs read.1 all.1)

-- a text that begins with a digit isn't empty
pub some_digit : (tables : Tables) (text : List ℕ) → IsTrue (begins_with_digit tables text) → 0 < length text
some_digit tables [] first = cc
some_digit tables (c ∷ cs) first = omega arith
