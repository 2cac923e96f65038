-- The elements of a text are put together from those of reachable entries, diacritics and numbers.
use Rattle.std.proofs.Common.{◌≡◌, ℕ, ◌<◌, Bool, true, false, List, [], ◌∷◌, ◌++◌, length, drop, Option, Some, None, if◌then◌else◌, map, refl, sym, subst, arith, IfSome, ◌&&◌, take_while, IsTrue, ◌==◌}
use Rattle.std.specs.Char.{IsScalar}
use Rattle.std.specs.List.{AllByRecursion, list_all}
use Rattle.std.specs.Prelude.{nat_le}
use Rattle.std.proofs.lemmas.List.Sums.{take_while-cons}
use Rattle.std.proofs.lemmas.Bool.{and_parts, and_from}
use Rattle.std.proofs.lemmas.Bool.Decides.{nat_tests}
use Rattle.icu_table_entries.specs.declared.entry.EntryKind.{EntryKind}
use Rattle.icu_table_entries.specs.declared.entry.EntryKind.TheVariants.{Prefix, Contraction, Digit}
use Rattle.icu_table_entries.specs.Elements.{Element, of_secondary}
use Rattle.icu_table_entries.specs.Entries.{kind_of, digit_value}
use Rattle.icu_table_entries.specs.EntryConditions.{has_digit}
use Rattle.icu_table_data.specs.Data.{Data, HomedEntry, homed, plain_of}
use Rattle.icu_table_provider.specs.Tables.{Tables, is_jamo, tailored_entry, entry_of, diacritic_of}
use Rattle.icu_table_data.specs.Final.{final_elements}
use Rattle.icu_table_data.specs.Reachable.{reachable_digit, reachable_contraction, reachable_from, EachReachable}
use Rattle.icu_table_data.proofs.ListLemmas.{weaker}
use Rattle.icu_table_data.proofs.ViolationLemmas.{weaker_some}
use Rattle.icu_element_matches.specs.Matches.{Match, match_of}
use Rattle.icu_element_reading.specs.TextElements.{Reading, Step, is_silent_dot, continues_number, begins_with_mark, digit_of_char, number_elements, number_step, entry_step, diacritic_step, matched_step, step, consumed, last_two, elements_along, elements_after, elements_of}
use Rattle.icu_table_provider.specs.ReachableTables.{jamo_entry, AllReachable, HasDigits}
use Rattle.icu_element_reading.specs.TextParts.{IsDecomposed, IsDecomposedText, AreDigits, HasParts, EachPasses, PartsPass}
use Rattle.icu_element_matches.proofs.ChoiceLemmas.{either, maybe, at_nil}
use Rattle.icu_element_matches.proofs.ReachableLemmas.{match_of-reachable, all_drop}

-- ---- an entry is among those that are reachable from it

digit_head : (P : ℕ → Type 0) (k : EntryKind) (e p : ℕ) → AllByRecursion P (elim k as (λ _. List ℕ) [ Digit ↦ e ∷ p ∷ [] | _ ↦ e ∷ [] ]) → P e
digit_head P Digit e p h = h.0
digit_head P _ e p h = h.0

pub reachable_digit-head : (P : ℕ → Type 0) (home : Data) (e : ℕ) → AllByRecursion P (reachable_digit home e) → P e
unfolding reachable_digit
reachable_digit-head P home e h = digit_head P (kind_of e) e _ h

contraction_head : (P : ℕ → Type 0) (k : EntryKind) (e : ℕ) (es fs : List ℕ) → (AllByRecursion P fs → P e) → AllByRecursion P (elim k as (λ _. List ℕ) [ Contraction ↦ e ∷ es | _ ↦ fs ]) → P e
contraction_head P Contraction e es fs f h = h.0
contraction_head P _ e es fs f h = f h

prefix_head : (P : ℕ → Type 0) (k : EntryKind) (e : ℕ) (es fs : List ℕ) → (AllByRecursion P fs → P e) → AllByRecursion P (elim k as (λ _. List ℕ) [ Prefix ↦ e ∷ es | _ ↦ fs ]) → P e
prefix_head P Prefix e es fs f h = h.0
prefix_head P _ e es fs f h = f h

pub reachable_from-head : (P : ℕ → Type 0) (home : Data) (e : ℕ) → AllByRecursion P (reachable_from home e) → P e
unfolding reachable_from reachable_contraction
reachable_from-head P home e h =
    prefix_head P (kind_of e) e _ _ (λ g. contraction_head P (kind_of e) e _ _ (reachable_digit-head P home e) g) h

-- ---- the entry of a character is reachable with it

abbrev HoldsFrom : (Data → ℕ → ℕ → Type 0) → ℕ → HomedEntry → Type 0
HoldsFrom P c h = AllByRecursion (P h.home c) (reachable_from h.home h.entry)

home_if : (P : HomedEntry → Type 0) (b : Bool) (x y : HomedEntry) → (b ≡ true → P x) → (b ≡ false → P y) → P (if b then x else y)
home_if P true x y p q = p refl
home_if P false x y p q = q refl

not_fallback : (P : ℕ → Type 0) (b : Bool) (es : List ℕ) → b ≡ false → AllByRecursion P (if b then [] else es) → AllByRecursion P es
not_fallback P true es h all = cc
not_fallback P false es h all = all

by_home : (P : Data → ℕ → ℕ → Type 0) (root : Data) (o : Option Data) (c : ℕ) → IsScalar c → HoldsFrom P c (homed root (root.value c)) → IfSome o (λ (home : Data). EachReachable (P home) true home) → HoldsFrom P c (elim o as (λ _. HomedEntry) [ None ↦ homed root (root.value c) | Some t ↦ tailored_entry root t c ])
by_home P root None c scalar r t = r
by_home P root (Some tailoring) c scalar r t =
    home_if (HoldsFrom P c) (tailoring.value c == 0xC0) (homed root (root.value c)) (homed tailoring (tailoring.value c)) (λ _. r)
    (λ h. not_fallback (P tailoring c) (tailoring.value c == 0xC0) (reachable_from tailoring (tailoring.value c)) h (t c scalar))

pub entry_of-reachable : (P : Data → ℕ → ℕ → Type 0) (tables : Tables) → AllReachable P tables → (c : ℕ) → IsScalar c → HoldsFrom P c (entry_of tables c)
unfolding entry_of
entry_of-reachable P tables reachable c scalar =
    home_if (HoldsFrom P c) (is_jamo c) (homed tables.root (jamo_entry tables c)) _ (λ j. reachable.jamo c j)
    (λ _. by_home P tables.root tables.tailoring c scalar (reachable.root c scalar) reachable.tailoring)

-- ---- digits

run_if : (f : ℕ → ℕ) (Q : ℕ → Type 0) (b : Bool) (x : ℕ) (xs : List ℕ) → (b ≡ true → Q (f x)) → AllByRecursion Q (map f xs) → AllByRecursion Q (map f (if b then x ∷ xs else []))
run_if f Q true x xs p h = (p refl, h)
run_if f Q false x xs p h = tt

all_run : (p : ℕ → Bool) (f : ℕ → ℕ) (R Q : ℕ → Type 0) → ((x : ℕ) → p x ≡ true → R x → Q (f x)) → (xs : List ℕ) → AllByRecursion R xs → AllByRecursion Q (map f (take_while p xs))
all_run p f R Q each [] h = tt
all_run p f R Q each (x ∷ xs) h =
    subst (λ l. AllByRecursion Q (map f l)) (sym (take_while-cons p x xs))
    (run_if f Q (p x) x (take_while p xs) (λ t. each x t h.0) (all_run p f R Q each xs h.1))

digit_from_run : (k : EntryKind) (a small : Bool) → (a && (elim k as (λ _. Bool) [ Digit ↦ true | _ ↦ false ])) ≡ true → IsTrue (elim k as (λ _. Bool) [ Digit ↦ small | _ ↦ true ]) → small ≡ true
digit_from_run Digit a small h s = s
digit_from_run _ true small h s = cc
digit_from_run _ false small h s = cc

decimal : (d : ℕ) → nat_le d 9 ≡ true → d < 10
decimal d h = grind (arith, nat_tests)

continues_number-decimal : (tables : Tables) → HasDigits tables → (x : ℕ) → continues_number tables x ≡ true → IsDecomposed x → digit_of_char tables x < 10
unfolding has_digit
continues_number-decimal tables reachable x on read =
    let h = entry_of tables x in
    let m = match_of h [] [] in
    let led = match_of-reachable (λ e. IsTrue (has_digit e)) (λ _. Unit {0}) h [] [] (entry_of-reachable (λ home c e. IsTrue (has_digit e)) tables reachable x read.scalar) tt in
    let head : IsTrue (has_digit m.entry) = reachable_digit-head (λ e. IsTrue (has_digit e)) h.home m.entry led.entry in
    decimal _ (digit_from_run (kind_of m.entry) _ _ on head)

-- ---- steps

-- what the step gives is well-formed, and so is each character that it leaves
record Gives (G : List Element → Type 0) (R : ℕ → Type 0) (s : Step) : Type 0 where
  pub elements : G s.elements
  pub rest : AllByRecursion R s.rest

at_digit : (P : ℕ → Type 0) (C : Step → Type 0) (k : EntryKind) (e p : ℕ) (small : Bool) (a b : Step) → (P p → small ≡ true → C a) → (P e → C b) → AllByRecursion P (elim k as (λ _. List ℕ) [ Digit ↦ e ∷ p ∷ [] | _ ↦ e ∷ [] ]) → IsTrue (elim k as (λ _. Bool) [ Digit ↦ small | _ ↦ true ]) → C (elim k as (λ _. Step) [ Digit ↦ a | _ ↦ b ])
at_digit P C Digit e p small a b f g reachable s = f reachable.1.0 s
at_digit P C _ e p small a b f g reachable s = g reachable.0

module _ (G : List Element → Type 0) (reading : Reading) (parts : HasParts G reading) where
  number_step-gives : (lead : ℕ) (m : Match) → ((ds : List ℕ) → AreDigits ds → G (number_elements lead ds)) → digit_value m.entry < 10 → IsDecomposedText m.rest → Gives G IsDecomposed (number_step reading.tables lead m)
  unfolding number_step
  number_step-gives lead m well_formed small rest =
      let tables = reading.tables in
      let run = take_while (continues_number tables) m.rest in
      let alone : Step = record { elements = number_elements lead (digit_value m.entry ∷ []); suffix = m.suffix; rest = m.rest } in
      let together : Step = record { elements = number_elements lead (digit_value m.entry ∷ map (digit_of_char tables) run); suffix = run; rest = drop (length run) m.rest } in
      let by_itself : Gives G IsDecomposed alone = record { elements = well_formed (digit_value m.entry ∷ []) (small, tt); rest = rest } in
      let digits = all_run (continues_number tables) (digit_of_char tables) IsDecomposed (λ d. d < 10) (continues_number-decimal tables parts.digits) m.rest rest in
      let with_run : Gives G IsDecomposed together = record { elements = well_formed (digit_value m.entry ∷ map (digit_of_char tables) run) (small, digits); rest = all_drop IsDecomposed (length run) m.rest rest } in
      at_nil (Gives G IsDecomposed) m.suffix _ alone (either (Gives G IsDecomposed) (begins_with_mark m.rest) alone together by_itself with_run) by_itself

  entry_step-gives : (home : Data) (c : ℕ) (m : Match) → AllByRecursion (λ e. G (final_elements (homed home e) c)) (reachable_digit home m.entry) → IsTrue (has_digit m.entry) → IsDecomposedText m.rest → Gives G IsDecomposed (entry_step reading home c m)
  unfolding entry_step reachable_digit has_digit
  entry_step-gives home c m reachable small rest =
      let P : ℕ → Type 0 = λ e. G (final_elements (homed home e) c) in
      at_digit P (Gives G IsDecomposed) (kind_of m.entry) m.entry (plain_of home m.entry) (nat_le (digit_value m.entry) 9) _ _
      (λ p s.
      maybe (λ lead. (ds : List ℕ) → AreDigits ds → G (number_elements lead ds)) (Gives G IsDecomposed) reading.numeric _ _ parts.numbers
      (λ lead well_formed. number_step-gives lead m well_formed (decimal _ s) rest) (record { elements = p; rest = rest }))
      (λ p. record { elements = p; rest = rest }) reachable small

  diacritic_step-gives : (secondary c : ℕ) (text : List ℕ) → G (of_secondary secondary ∷ []) → IsDecomposedText text → Gives G IsDecomposed (diacritic_step reading secondary c text)
  diacritic_step-gives secondary c text well_formed all =
      let silent : Step = record { elements = []; suffix = []; rest = text } in
      let sounding : Step = record { elements = of_secondary secondary ∷ []; suffix = []; rest = text } in
      either (Gives G IsDecomposed) (is_silent_dot reading.lithuanian c text) silent sounding
      (record { elements = parts.none; rest = all }) (record { elements = well_formed; rest = all })

  step-gives : (before : List ℕ) (c : ℕ) (text : List ℕ) → IsDecomposed c → IsDecomposedText text → Gives G IsDecomposed (step reading before c text)
  unfolding matched_step
  step-gives before c text read all =
      let h = entry_of reading.tables c in
      let m = match_of h before text in
      let D : ℕ → Type 0 = λ e. IsTrue (has_digit e) in
      let P : ℕ → Type 0 = λ e. G (final_elements (homed h.home e) c) in
      let finals = match_of-reachable P IsDecomposed h before text (entry_of-reachable (λ home c e. G (final_elements (homed home e) c)) reading.tables parts.entries c read.scalar) all in
      let smalls = match_of-reachable D IsDecomposed h before text (entry_of-reachable (λ home c e. IsTrue (has_digit e)) reading.tables parts.digits c read.scalar) all in
      maybe (λ s. G (of_secondary s ∷ [])) (Gives G IsDecomposed) (diacritic_of reading.tables c) _ (entry_step reading h.home c m) (parts.diacritics c read)
      (λ s well_formed. diacritic_step-gives s c text well_formed all)
      (entry_step-gives h.home c m finals.entry (reachable_digit-head D h.home m.entry smalls.entry) finals.rest)

  elements_along-gives : (along before text : List ℕ) → IsDecomposedText text → G (elements_along along reading before text)
  unfolding elements_along
  elements_along-gives along before [] all = parts.none
  elements_along-gives [] before (c ∷ text) all = parts.none
  elements_along-gives (_ ∷ along) before (c ∷ text) all =
      let s = step reading before c text in
      let gives = step-gives before c text all.0 all.1 in
      parts.append s.elements _ gives.elements (elements_along-gives along (last_two before (consumed c s)) s.rest gives.rest)

  -- the elements of each decomposed text
  pub elements_of-well_formed : (text : List ℕ) → IsDecomposedText text → G (elements_of reading text)
  unfolding elements_after
  elements_of-well_formed text all = elements_along-gives text [] text all

-- ---- a test on elements

passes_append : (test : Element → Bool) (es fs : List Element) → EachPasses test es → EachPasses test fs → EachPasses test (es ++ fs)
passes_append test [] fs h k = k
passes_append test (e ∷ es) fs h k =
    let parts = and_parts (test e) (list_all test es) h in and_from _ _ parts.0 (passes_append test es fs parts.1 k)

diacritic_passes : (test : Element → Bool) (o : Option ℕ) → IfSome o (λ s. IsTrue (test (of_secondary s))) → IfSome o (λ s. EachPasses test (of_secondary s ∷ []))
diacritic_passes test (Some s) h = and_from _ _ h refl
diacritic_passes test None h = tt

pub elements_of-pass : (test : Element → Bool) (reading : Reading) → PartsPass test reading → (text : List ℕ) → IsDecomposedText text → EachPasses test (elements_of reading text)
elements_of-pass test reading pass =
    elements_of-well_formed (EachPasses test) reading
    (record {
      none = refl;
      append = passes_append test;
      digits = pass.digits;
      entries = pass.entries;
      diacritics = λ c read. diacritic_passes test (diacritic_of reading.tables c) (pass.diacritics c read);
      numbers = pass.numbers;
    })

-- ---- a weaker fact of reachable entries

pub AllReachable-weaker : (P Q : Data → ℕ → ℕ → Type 0) (tables : Tables) → ((home : Data) (c e : ℕ) → P home c e → Q home c e) → AllReachable P tables → AllReachable Q tables
AllReachable-weaker P Q tables f reachable =
    record {
      root = λ c s. weaker (P tables.root c) (Q tables.root c) (f tables.root c) _ (reachable.root c s);
      jamo = λ c j. weaker (P tables.root c) (Q tables.root c) (f tables.root c) _ (reachable.jamo c j);
      tailoring =
          weaker_some (λ (home : Data). EachReachable (P home) true home) (λ (home : Data). EachReachable (Q home) true home)
          (λ home h c s. weaker (P home c) (Q home c) (f home c) _ (h c s)) tables.tailoring reachable.tailoring;
    }
