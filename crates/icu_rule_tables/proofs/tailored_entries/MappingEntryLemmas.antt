-- Entries of mappings that are put together one by one.
use Rattle.std.proofs.Common.{◌≡◌, ℕ, Bool, true, false, List, [], ◌∷◌, Option, Some, None, refl, sym, ap, subst, ◌∙◌, if◌then◌else◌}
use Rattle.std.specs.Prelude.{◌&&◌, MatchBool, filter, bytes_eq}
use Rattle.ucd_perl.specs.Perl.{is_digit_char}
use Rattle.icu_table_entries.specs.declared.entry.EntryKind.TheVariants.{Prefix, Contraction}
use Rattle.icu_table_data.specs.Data.{Data}
use Rattle.icu_table_mappings.specs.DigitEntries.{IsDigitEntry, decimal_value}
use Rattle.icu_table_mappings.specs.Given.{Spells}
use Rattle.icu_table_mappings.specs.GrownLists.{HasMoreLists}
use Rattle.icu_table_mappings.specs.Surroundings.{PutsEntryBetween, Surroundings, entry_between}
use Rattle.icu_table_mappings.proofs.GrownListLemmas.{digit_further, just_further, spells_further}
use Rattle.icu_table_mappings.proofs.PutEntryLemmas.{nothing_between}
use Rattle.icu_rule_meaning.specs.TailoredMappings.{SymbolicMapping, beginnings, has_no_context, mapping_with, mappings_behind, stands_after_prefix}
use Rattle.icu_rule_weights.specs.declared.tailoring_numbers.tailoring_numbers.TailoringNumbers.{TailoringNumbers}
use Rattle.icu_rule_tables.specs.tailored_entries.GivenMappings.{all_fit, GivesMappings, IsMappingEntry, StandsFor, StandsForMappings, numbered_elements}
use Rattle.icu_rule_tables.specs.tailored_entries.inner.MappingEntries.{HasEntriesOf, IsEntryOfMaybe}

-- a test that decides between facts, of which others follow
pub by_test : (b : Bool) (P P' Q Q' : Type 0) → (P → P') → (Q → Q') → MatchBool b P Q → MatchBool b P' Q'
by_test true P P' Q Q' f g h = f h
by_test false P P' Q Q' f g h = g h

-- ---- tables that grow

-- the entry of a mapping stays it
pub entry_further : (t : TailoringNumbers) (d new : Data) (c : ℕ) (m : SymbolicMapping) (e : ℕ) → HasMoreLists d new → IsMappingEntry t d c m e → IsMappingEntry t new c m e
entry_further t d new c m e grows is = record {
  letter = is.letter;
  spells = spells_further d new is.letter (numbered_elements t m.elements) grows is.spells;
  fits = is.fits;
  digit = by_test (has_no_context m && is_digit_char c) _ _ _ _ (λ h. digit_further d new (decimal_value c) is.letter e grows h) (λ h. h) is.digit;
}

maybe_further : (t : TailoringNumbers) (d new : Data) (c : ℕ) (m : Option SymbolicMapping) (e : Option ℕ) → HasMoreLists d new
    → IsEntryOfMaybe t d c m e → IsEntryOfMaybe t new c m e
maybe_further t d new c None None grows h = h
maybe_further t d new c None (Some e) grows h = absurd h
maybe_further t d new c (Some m) None grows h = absurd h
maybe_further t d new c (Some m) (Some e) grows h = entry_further t d new c m e grows h

pub entries_further : (t : TailoringNumbers) (d new : Data) (c : ℕ) (mappings : List SymbolicMapping) (all : Surroundings) → HasMoreLists d new
    → HasEntriesOf t d c mappings all → HasEntriesOf t new c mappings all
entries_further t d new c mappings all grows has before after =
    maybe_further t d new c (mapping_with (filter (stands_after_prefix before) mappings) after) (entry_between all before after) grows (has before after)

-- what stands for a mapping still does
pub stands_further : (t : TailoringNumbers) (d new : Data) (c : ℕ) (after : List ℕ) (m : Option SymbolicMapping) (e : Option ℕ) → HasMoreLists d new
    → StandsFor t d c after m e → StandsFor t new c after m e
stands_further t d new c after None None grows h = h
stands_further t d new c after None (Some e) grows h = h
stands_further t d new c after (Some m) None grows h = absurd h
stands_further t d new c after (Some m) (Some e) grows h = entry_further t d new c m e grows h

suffixes_further : (t : TailoringNumbers) (d new : Data) (c : ℕ) (mappings : List SymbolicMapping) (e : ℕ) → HasMoreLists d new
    → StandsForMappings t d c mappings e → StandsForMappings t new c mappings e
suffixes_further t d new c mappings e grows s = record {
  found = s.found;
  leads = just_further Contraction d new e s.found grows s.leads;
  stands = λ after. stands_further t d new c after (mapping_with mappings after) (s.found after) grows (s.stands after);
}

-- and so do mappings that are given
pub mappings_further : (t : TailoringNumbers) (d new : Data) (c : ℕ) (mappings : List SymbolicMapping) (e : ℕ) → HasMoreLists d new
    → GivesMappings t d c mappings e → GivesMappings t new c mappings e
mappings_further t d new c mappings e grows gives = record {
  behind = gives.behind;
  prefix = just_further Prefix d new e gives.behind grows gives.prefix;
  prefixes = gives.prefixes;
  suffixes = λ before b is. suffixes_further t d new c (mappings_behind mappings (beginnings before)) b grows (gives.suffixes before b is);
  fit = gives.fit;
}

-- ---- one mapping after another

-- nothing stands anywhere
pub no_entries : (t : TailoringNumbers) (d : Data) (c : ℕ) (mappings : List SymbolicMapping) (all : Surroundings) → mappings ≡ [] → all.entries ≡ []
    → HasEntriesOf t d c mappings all
no_entries t d c mappings all none empty before after =
    subst (λ (ms : List SymbolicMapping). IsEntryOfMaybe t d c (mapping_with (filter (stands_after_prefix before) ms) after) (entry_between all before after)) (sym none)
    (subst (λ (o : Option ℕ). IsEntryOfMaybe t d c None o) (sym (nothing_between all before after empty)) tt)

-- the entry of one more mapping, before the others
pub entries_more : (t : TailoringNumbers) (d : Data) (c : ℕ) (m : SymbolicMapping) (next : List SymbolicMapping) (old new : Surroundings) (e : ℕ)
    → IsMappingEntry t d c m e → PutsEntryBetween old new m.prefix m.suffix e → HasEntriesOf t d c next old → HasEntriesOf t d c (m ∷ next) new
entries_more t d c m next old new e is puts has before after =
    subst (λ (o : Option ℕ). IsEntryOfMaybe t d c (mapping_with (filter (stands_after_prefix before) (m ∷ next)) after) o) (sym (puts before after))
    (here (bytes_eq m.prefix before) (bytes_eq m.suffix after) refl) where
      F : List SymbolicMapping
      F = filter (stands_after_prefix before) next

      of_suffix : (s : Bool) → IsEntryOfMaybe t d c (if s then Some m else mapping_with F after) (if s then Some e else entry_between old before after)
      of_suffix true = is
      of_suffix false = has before after

      here : (p s : Bool) → bytes_eq m.suffix after ≡ s
          → IsEntryOfMaybe t d c (mapping_with (if p then m ∷ F else F) after) (if p && s then Some e else entry_between old before after)
      here true s same =
          subst (λ (b : Bool). IsEntryOfMaybe t d c (if b then Some m else mapping_with F after) (if s then Some e else entry_between old before after)) (sym same) (of_suffix s)
      here false s same = has before after

-- ---- digits

-- a digit by itself
pub entry_of_digit : (t : TailoringNumbers) (d : Data) (c : ℕ) (m : SymbolicMapping) (letter value e : ℕ) (found : Option ℕ) → has_no_context m ≡ true
    → found ≡ (if is_digit_char c then Some (decimal_value c) else None) → found ≡ Some value
    → Spells d letter (numbered_elements t m.elements) → all_fit t m.elements ≡ true → IsDigitEntry d value letter e → IsMappingEntry t d c m e
entry_of_digit t d c m letter value e found alone of_c is spells fits digit =
    let both = by_digit (is_digit_char c) refl (sym of_c ∙ is) in
    record {
      letter = letter;
      spells = spells;
      fits = fits;
      digit = subst (λ b. MatchBool b (IsDigitEntry d (decimal_value c) letter e) (e ≡ letter)) (sym (ap (λ b. b && is_digit_char c) alone ∙ both.0))
          (subst (λ v. IsDigitEntry d v letter e) both.1 digit);
    } where
      by_digit : (b : Bool) → is_digit_char c ≡ b → (if b then Some (decimal_value c) else None) ≡ Some value → (is_digit_char c ≡ true) × (value ≡ decimal_value c)
      by_digit true is h = (is, let same : decimal_value c ≡ value = cc in sym same)
      by_digit false is h = cc
