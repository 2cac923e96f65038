-- What a root says of the mappings that were taken in.
use Rattle.std.proofs.Common.{◌≡◌, ℕ, Bool, true, false, List, [], ◌∷◌, Option, Some, None, refl, sym, ap, subst, ◌∙◌, inl, inr, length, take, arith}
use Rattle.std.specs.Prelude.{◌==◌, ◌&&◌, MatchBool, IfOk, OnOk, Result, Ok, Err, is_ok, reverse, is_some, unwrap_or, option_and_then}
use Rattle.std.specs.BTreeMap.{get}
use Rattle.std.specs.Char.{IsScalar}
use Rattle.std.specs.Option.{option_or}
use Rattle.std.specs.Ordering.{nat_cmp}
use Rattle.std.proofs.lemmas.Bool.Decides.{nat_tests}
use Rattle.std.proofs.lemmas.List.{append-nil, length-reverse, nil_from_length}
use Rattle.ucd_perl.specs.Perl.{is_digit_char}
use Rattle.icu_table_entries.specs.EncodedEntries.{implicit_entry}
use Rattle.icu_table_data.specs.Data.{Data}
use Rattle.icu_table_data.proofs.CharLemmas.{scalar_below}
use Rattle.icu_table_provider.specs.builder.Building.{built_data}
use Rattle.icu_table_mappings.specs.DigitEntries.{IsDigitEntry, decimal_value}
use Rattle.icu_cldr_root.specs.CharacterEntries.{entry_of_char}
use Rattle.icu_cldr_root.specs.FileRoots.{GivesMapping}
use Rattle.icu_table_mappings.specs.Given.{Gives}
use Rattle.icu_cldr_root.specs.Ideographs.{primary_in}
use Rattle.icu_cldr_root.specs.WrittenMappings.{is_without_context}
use Rattle.icu_cldr_root.specs.inner.Digits.{IsDigitOrAbsent, MakesAllDigits}
use Rattle.icu_cldr_root.specs.inner.LineEntries.{Around, HasEntry, Plain, entry_around}
use Rattle.icu_cldr_root.specs.inner.Resolved.{IsResolved}
use Rattle.icu_cldr_root.specs.inner.RootValues.{HasEntries, SameLists}
use Rattle.icu_table_mappings.specs.GrownLists.{Extends, HasMoreLists}
use Rattle.icu_table_mappings.specs.Surroundings.{IsBehind, Surroundings, entry_between, nearest, nearest_of, own_entry, value_among}
use Rattle.icu_cldr_root.specs.Unmapped.{GivesUnmapped}
use Rattle.icu_cldr_root.specs.inner.Taken.{HasMapping, HasNothing}
use Rattle.icu_cldr_root.specs.inner.TakenCharacters.{HasNoEntry, HasUnmapped}
use Rattle.icu_cldr_root.specs.declared.collected.Collected.{Collected}
use Rattle.icu_cldr_root.specs.declared.mapping.Mapping.{Mapping}
use Rattle.icu_table_mappings.proofs.NearestLemmas.{nearest_at}
use Rattle.icu_table_mappings.proofs.GrownListLemmas.{lists_further, digit_further, spells_further, gives_further}
use Rattle.icu_cldr_root.proofs.DigitRangeLemmas.{by_test}
use Rattle.icu_cldr_root.proofs.IdeographValueLemmas.{unmapped_further}

-- what holds where a call didn't fail, and its error became another one where it did
pub on_ok_kept : {T E D P : Type 0} (r : Result T E) (s : Result T D) (x : T) → OnOk r P → is_ok s ≡ is_ok r → s ≡ Ok x → P
on_ok_kept (Ok y) s x h same is = h
on_ok_kept (Err e) s x h same is = let no : true ≡ false = sym (ap is_ok is) ∙ same in cc

-- what holds of a result by three facts
pub ok_by_four : {T E : Type 0} (r : Result T E) (P Q S U R : T → Type 0) → ((x : T) → P x → Q x → S x → U x → R x)
    → IfOk r P → IfOk r Q → IfOk r S → IfOk r U → IfOk r R
ok_by_four (Ok x) P Q S U R f p q s u = f x p q s u
ok_by_four (Err e) P Q S U R f p q s u = tt

-- the same lists are no fewer
pub lists_same : (d e : Data) → SameLists d e → HasMoreLists d e
lists_same d e same = record {
  more_elements = [];
  more_entries = [];
  more_contexts = [];
  elements = same.elements ∙ sym (append-nil d.elements);
  entries = same.entries ∙ sym (append-nil d.entries);
  contexts = same.contexts ∙ sym (append-nil d.contexts);
}

both_none : (p s : ℕ) → (p == 0 && s == 0) ≡ true → (p ≡ 0) × (s ≡ 0)
both_none p s h = (first p s h, second p s h) where
  first : (p s : ℕ) → (p == 0 && s == 0) ≡ true → p ≡ 0
  first p s h = grind (arith, nat_tests)

  second : (p s : ℕ) → (p == 0 && s == 0) ≡ true → s ≡ 0
  second p s h = grind (arith, nat_tests)

-- ---- entries by what stands around

-- an entry that stands between characters is the nearest
pub nearest_is : (all : Surroundings) (own : ℕ) (before after : List ℕ) (e : ℕ) → entry_between all before after ≡ Some e → nearest all own before after ≡ Some e
nearest_is all own before after e h = nearest_at all own before after (length before) e (whole before) (nil_from_length before) h where
  whole : (xs : List ℕ) → take (length xs) xs ≡ xs
  whole [] = refl
  whole (x ∷ xs) = ap (λ ys. x ∷ ys) (whole xs)

-- and stands behind characters
pub is_behind : (all : Surroundings) (before after : List ℕ) (e : ℕ) → entry_between all before after ≡ Some e → IsBehind all before
is_behind all before after e h = inr (some_found (value_among all.entries before) _ e h) where
  some_found : {X : Type 0} (o : Option X) (f : X → Option ℕ) (e : ℕ) → option_and_then f o ≡ Some e → is_some o ≡ true
  some_found None f e h = cc
  some_found (Some x) f e h = refl

-- before and behind nothing there is the character's own entry
pub nearest_own : (all : Surroundings) (own : ℕ) → entry_between all [] [] ≡ None → nearest all own [] [] ≡ Some own
unfolding nearest_of
nearest_own all own h = ap (λ o. option_or o (own_entry own [])) h

-- ---- characters

module _ (d2 d : Data) (contexts : Around) (entries2 entries3 : Plain) (c : ℕ) (scalar : IsScalar c)
    (resolved : IsResolved d2 (get nat_cmp contexts c) (entry_of_char entries2 c) (get nat_cmp entries2 c) (get nat_cmp entries3 c))
    (same : SameLists d2 d) (has : HasEntries entries3 d2 d) where
  value_is : (e : ℕ) → get nat_cmp entries3 c ≡ Some e → d.value c ≡ e
  value_is e h = has c (scalar_below c scalar) ∙ ap (λ o. unwrap_or o (d2.value c)) h

  alone_in : (o : Option Surroundings) (e : ℕ) → get nat_cmp contexts c ≡ o → option_and_then (λ all. entry_between all [] []) o ≡ None
      → IsResolved d2 o (entry_of_char entries2 c) (get nat_cmp entries2 c) (get nat_cmp entries3 c)
      → get nat_cmp entries2 c ≡ Some e → Gives d (d.value c) [] [] e
  alone_in None e is none r h =
      subst (λ v. Gives d v [] [] e) (sym (value_is e (r ∙ h))) (record { behind = e; prefix = inr (refl, refl); contraction = inr (refl, refl) })
  alone_in (Some all) e is none (v, at, gives) h =
      let own : entry_of_char entries2 c ≡ e = ap (λ o. unwrap_or o implicit_entry) h in
      let near : nearest all (entry_of_char entries2 c) [] [] ≡ Some e = nearest_own all (entry_of_char entries2 c) none ∙ ap Some own in
      subst (λ x. Gives d x [] [] e) (sym (value_is v at)) (gives_further d2 d v [] [] e (lists_same d2 d same) (gives [] [] e (inl refl) near))

  -- the entry of a character that is mapped by itself
  pub gives_alone : (e : ℕ) → entry_around contexts c [] [] ≡ None → get nat_cmp entries2 c ≡ Some e → Gives d (d.value c) [] [] e
  gives_alone e none h = alone_in (get nat_cmp contexts c) e refl none resolved h

  between_in : (o : Option Surroundings) (before after : List ℕ) (e : ℕ) → option_and_then (λ all. entry_between all before after) o ≡ Some e
      → IsResolved d2 o (entry_of_char entries2 c) (get nat_cmp entries2 c) (get nat_cmp entries3 c) → Gives d (d.value c) before after e
  between_in None before after e h r = cc
  between_in (Some all) before after e h (v, at, gives) =
      subst (λ x. Gives d x before after e) (sym (value_is v at))
      (gives_further d2 d v before after e (lists_same d2 d same)
      (gives before after e (is_behind all before after e h) (nearest_is all (entry_of_char entries2 c) before after e h)))

  -- the entry of one that is mapped between others
  pub gives_between : (before after : List ℕ) (e : ℕ) → entry_around contexts c before after ≡ Some e → Gives d (d.value c) before after e
  gives_between before after e h = between_in (get nat_cmp contexts c) before after e h resolved

-- ---- mappings

-- a digit's entry, or the letter's own
record ComesTo (d : Data) (c : ℕ) (letter : ℕ) (found : Option ℕ) : Type 0 where
  entry : ℕ
  is : found ≡ Some entry
  digit : MatchBool (is_digit_char c) (IsDigitEntry d (decimal_value c) letter entry) (entry ≡ letter)

comes_to : (d : Data) (c letter : ℕ) (old new : Option ℕ) → old ≡ Some letter
    → MatchBool (is_digit_char c) (IsDigitOrAbsent d (decimal_value c) old new) (new ≡ old) → ComesTo d c letter new
comes_to d c letter old new was h =
    by_digit (is_digit_char c) refl (subst (λ (o : Option ℕ). MatchBool (is_digit_char c) (IsDigitOrAbsent d (decimal_value c) o new) (new ≡ o)) was h) where
      by_digit : (b : Bool) → is_digit_char c ≡ b → MatchBool (is_digit_char c) (IsDigitOrAbsent d (decimal_value c) (Some letter) new) (new ≡ Some letter) → ComesTo d c letter new
      by_digit true at h =
          let (e, is, digit) : IsDigitOrAbsent d (decimal_value c) (Some letter) new = rw at at h in
          record { entry = e; is = is; digit = rw at digit }
      by_digit false at h =
          let is : new ≡ Some letter = rw at at h in
          record { entry = letter; is = is; digit = rw at refl }

-- the characters of a mapping come to an entry, or to a digit entry that names it
record GivesEntry (d : Data) (m : Mapping) (letter : ℕ) : Type 0 where
  entry : ℕ
  digit : MatchBool (is_without_context m && is_digit_char m.first) (IsDigitEntry d (decimal_value m.first) letter entry) (entry ≡ letter)
  gives : Gives d (d.value m.first) (reverse m.prefix.items) m.suffix.items entry

module _ (from : Collected) (d1 d2 d : Data) (entries2 entries3 : Plain)
    (made : MakesAllDigits d1 from.entries entries2) (first : Extends (built_data from.builder) d1) (second : Extends d1 d2)
    (resolved : (c : ℕ) → IsResolved d2 (get nat_cmp from.contexts c) (entry_of_char entries2 c) (get nat_cmp entries2 c) (get nat_cmp entries3 c))
    (same : SameLists d2 d) (has : HasEntries entries3 d2 d) (nothing : HasNothing from) where
  grows : HasMoreLists d1 d
  grows = lists_further d1 d2 d second.lists (lists_same d2 d same)

  further_digit : (c letter e : ℕ) → MatchBool (is_digit_char c) (IsDigitEntry d1 (decimal_value c) letter e) (e ≡ letter)
      → MatchBool (is_digit_char c) (IsDigitEntry d (decimal_value c) letter e) (e ≡ letter)
  further_digit c letter e h = by_test (is_digit_char c) _ _ _ _ (λ digit. digit_further d1 d (decimal_value c) letter e grows digit) (λ same. same) h

  -- a character that is mapped wherever it stands
  given_alone : (m : Mapping) (e : ℕ) → IsScalar m.first → is_without_context m ≡ true → get nat_cmp from.entries m.first ≡ Some e → GivesEntry d m e
  given_alone m e scalar plain is =
      let none = both_none (length m.prefix.items) (length m.suffix.items) plain in
      let before : reverse m.prefix.items ≡ [] = nil_from_length (reverse m.prefix.items) (length-reverse m.prefix.items ∙ none.0) in
      let after : m.suffix.items ≡ [] = nil_from_length m.suffix.items none.1 in
      let to : ComesTo d1 m.first e (get nat_cmp entries2 m.first) =
      comes_to d1 m.first e (get nat_cmp from.entries m.first) (get nat_cmp entries2 m.first) is (made m.first scalar) in
      let alone : Gives d (d.value m.first) [] [] to.entry =
      gives_alone d2 d from.contexts entries2 entries3 m.first scalar (resolved m.first) same has to.entry (nothing m.first) to.is in
      record {
        entry = to.entry;
        digit = subst (λ b. MatchBool (b && is_digit_char m.first) (IsDigitEntry d (decimal_value m.first) e to.entry) (to.entry ≡ e)) (sym plain)
            (further_digit m.first e to.entry to.digit);
        gives = subst (λ b. Gives d (d.value m.first) b m.suffix.items to.entry) (sym before)
            (subst (λ a. Gives d (d.value m.first) [] a to.entry) (sym after) alone);
      }

  -- a character that is mapped between others
  given_between : (m : Mapping) (e : ℕ) → IsScalar m.first → is_without_context m ≡ false
      → entry_around from.contexts m.first (reverse m.prefix.items) m.suffix.items ≡ Some e → GivesEntry d m e
  given_between m e scalar around is = record {
    entry = e;
    digit = subst (λ b. MatchBool (b && is_digit_char m.first) (IsDigitEntry d (decimal_value m.first) e e) (e ≡ e)) (sym around) refl;
    gives = gives_between d2 d from.contexts entries2 entries3 m.first scalar (resolved m.first) same has (reverse m.prefix.items) m.suffix.items e is;
  }

  entry_given : (m : Mapping) (e : ℕ) (b : Bool) → is_without_context m ≡ b → IsScalar m.first → HasEntry from.entries from.contexts m e → GivesEntry d m e
  entry_given m e true plain scalar h = given_alone m e scalar plain
      (subst (λ b. MatchBool b (get nat_cmp from.entries m.first ≡ Some e) (entry_around from.contexts m.first (reverse m.prefix.items) m.suffix.items ≡ Some e)) plain h)
  entry_given m e false around scalar h = given_between m e scalar around
      (subst (λ b. MatchBool b (get nat_cmp from.entries m.first ≡ Some e) (entry_around from.contexts m.first (reverse m.prefix.items) m.suffix.items ≡ Some e)) around h)

  -- what was taken in of a mapping is in the root
  pub mapping_given : (m : Mapping) → IsScalar m.first → HasMapping from m → GivesMapping (primary_in from.ideographs) d m
  mapping_given m scalar (elements, e, said, spells, is) =
      let to : GivesEntry d m e = entry_given m e (is_without_context m) refl scalar is in
      record {
        elements = elements;
        letter = e;
        entry = to.entry;
        said = said;
        spells = spells_further (built_data from.builder) d e elements (lists_further (built_data from.builder) d1 d first.lists grows) spells;
        digit = to.digit;
        gives = to.gives;
      }

-- ---- characters that no line maps

none_made : (d : Data) (value : ℕ) (b : Bool) (was is : Option ℕ) → was ≡ None → MatchBool b (IsDigitOrAbsent d value was is) (is ≡ was) → is ≡ None
none_made d value true None is none h = h
none_made d value true (Some e) is none h = cc
none_made d value false was is none h = h ∙ none

none_given : (d : Data) (found : Option Surroundings) (own : ℕ) (was is : Option ℕ) → found ≡ None → IsResolved d found own was is → is ≡ was
none_given d None own was is none h = h
none_given d (Some all) own was is none h = cc

-- what was put in for a character without an entry is in the root
pub unmapped_left : (from : Collected) (d1 d2 d : Data) (entries2 entries3 : Plain)
    → MakesAllDigits d1 from.entries entries2 → Extends (built_data from.builder) d1 → Extends d1 d2
    → ((c : ℕ) → IsResolved d2 (get nat_cmp from.contexts c) (entry_of_char entries2 c) (get nat_cmp entries2 c) (get nat_cmp entries3 c))
    → SameLists d2 d → HasEntries entries3 d2 d → HasUnmapped from
    → (x : ℕ) → IsScalar x → HasNoEntry from.entries from.contexts x → GivesUnmapped d x (primary_in from.ideographs x)
unmapped_left from d1 d2 d entries2 entries3 made first second resolved same has unmapped x scalar none =
    let alone : get nat_cmp entries2 x ≡ None =
    none_made d1 (decimal_value x) (is_digit_char x) (get nat_cmp from.entries x) (get nat_cmp entries2 x) none.alone (made x scalar) in
    let last : get nat_cmp entries3 x ≡ None =
    none_given d2 (get nat_cmp from.contexts x) (entry_of_char entries2 x) (get nat_cmp entries2 x) (get nat_cmp entries3 x) none.between (resolved x) ∙ alone in
    let value : d.value x ≡ (built_data from.builder).value x =
    has x (scalar_below x scalar) ∙ ap (λ o. unwrap_or o (d2.value x)) last ∙ ap (λ f. f x) (second.value ∙ first.value) in
    unmapped_further (built_data from.builder) d x (primary_in from.ideographs x)
    (lists_further (built_data from.builder) d2 d (lists_further (built_data from.builder) d1 d2 first.lists second.lists) (lists_same d2 d same))
    value (unmapped x scalar)
