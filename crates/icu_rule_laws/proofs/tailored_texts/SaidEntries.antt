-- To which entry one comes behind a context: that of the longest prefix for which it has one.
use Rattle.std.proofs.Common.{◌≡◌, ℕ, zero, suc, ◌<◌, ◌≤◌, ◌⊎◌, inl, inr, Bool, true, false, bytes_eq, nat_eq, List, [], ◌∷◌, length, take, Option, Some, None, if◌then◌else◌, refl, ap, sym, subst, ◌∙◌, arith}
use Rattle.std.specs.Prelude.{◌||◌, is_some}
use Rattle.std.specs.List.{list_any, starts_with}
use Rattle.std.specs.Option.{option_map}
use Rattle.std.proofs.lemmas.List.{length-take, length-take-le}
use Rattle.std.proofs.Math.Nat.{min-le_right}
use Rattle.icu_table_entries.specs.declared.entry.EntryKind.{EntryKind}
use Rattle.icu_table_entries.specs.declared.entry.EntryKind.TheVariants.{Prefix}
use Rattle.icu_table_entries.specs.Entries.{kind_of}
use Rattle.icu_table_data.specs.Data.{Data, Mapping, Context, homed, context_of, mapping_entry, longest_mapping}
use Rattle.icu_element_matches.specs.Matches.{after_prefix}
use Rattle.icu_table_mappings.specs.Given.{RefersJustTo, entry_in}
use Rattle.icu_table_mappings.specs.Surroundings.{own_entry}
use Rattle.icu_rule_meaning.specs.TailoredMappings.{SymbolicMapping, stands_after_prefix}
use Rattle.icu_rule_tables.specs.tailored_entries.GivenMappings.{IsPrefixOfSome}
use Rattle.icu_rule_laws.proofs.mapped_texts.DistinctLemmas.{HasDistinctMappings}
use Rattle.icu_rule_laws.proofs.mapped_texts.LongestBeginningLemmas.{first_with, IsFound, IsChosen, chosen_is}
use Rattle.icu_rule_laws.proofs.mapped_texts.LongestPrefixLemmas.{own_of}
use Rattle.icu_rule_laws.proofs.mapped_texts.MappedMatchLemmas.{chars_of, entry_first, longest_same, begins_is}
use Rattle.icu_rule_laws.proofs.mapped_texts.RootTextLemmas.{begins_taken, chosen_after, chosen_entry, none_first}

-- behind a context the entry comes to that of its longest beginning which has one, and no longer one is a prefix
pub record ComesTo (mappings : List SymbolicMapping) (behind : List ℕ → Option ℕ) (before : List ℕ) (b : ℕ) : Type 0 where
  pub count : ℕ
  pub fits : count ≤ length before
  pub is : behind (take count before) ≡ Some b
  pub further : (i : ℕ) → count < i → i ≤ length before → own_of mappings (take i before) ≡ []

none_filtered : (prefix : List ℕ) (ms : List SymbolicMapping) → list_any (stands_after_prefix prefix) ms ≡ false → own_of ms prefix ≡ []
none_filtered prefix [] h = refl
none_filtered prefix (m ∷ ms) h = here (bytes_eq m.prefix prefix) (λ k. none_filtered prefix ms k) h
  where
    here : (b : Bool) → (list_any (stands_after_prefix prefix) ms ≡ false → own_of ms prefix ≡ [])
        → (b || list_any (stands_after_prefix prefix) ms) ≡ false
        → (if b then m ∷ own_of ms prefix else own_of ms prefix) ≡ []
    here true more h = cc
    here false more h = more h

module _ (mappings : List SymbolicMapping) (behind : List ℕ → Option ℕ)
    (prefixes : (before : List ℕ) → IsPrefixOfSome mappings before → is_some (behind before) ≡ true) where
  -- where there is no entry, no mapping has the prefix
  none_own : (before : List ℕ) → behind before ≡ None → own_of mappings before ≡ []
  none_own before none = by_any (list_any (stands_after_prefix before) mappings) refl
    where
      by_any : (b : Bool) → list_any (stands_after_prefix before) mappings ≡ b → own_of mappings before ≡ []
      by_any true e =
          let some : is_some (behind before) ≡ true = prefixes before (inr e) in
          let no : false ≡ true = sym (ap is_some none) ∙ some in
          cc
      by_any false e = none_filtered before mappings e

  -- an entry that stands for itself
  own_taken : (e i : ℕ) (text : List ℕ) → 0 < i → i ≤ length text → own_entry e (take i text) ≡ None
  own_taken e zero text h k = absurd (omega (arith, h))
  own_taken e (suc i) [] h k = absurd (omega (arith, k))
  own_taken e (suc i) (c ∷ text) h k = refl

  stays_itself : (d : Data) (e : ℕ) (before : List ℕ) → ((x y : ℕ) → (elim (kind_of e) as (λ _. ℕ) [ Prefix ↦ x | _ ↦ y ]) ≡ y)
      → after_prefix (homed d e) before ≡ e
  stays_itself d e before other =
      chosen_after (homed d e) before
      ∙ other (chosen_entry (context_of (homed d e)) (longest_mapping (context_of (homed d e)).mappings before)) e

  pub comes_to_itself : (d : Data) (e : ℕ) (before : List ℕ) → ((x y : ℕ) → (elim (kind_of e) as (λ _. ℕ) [ Prefix ↦ x | _ ↦ y ]) ≡ y)
      → ((chars : List ℕ) → own_entry e chars ≡ behind chars) → ComesTo mappings behind before (after_prefix (homed d e) before)
  comes_to_itself d e before other own = record {
    count = 0;
    fits = omega arith;
    is = sym (own []) ∙ ap Some (sym (stays_itself d e before other));
    further = λ i h k. none_own (take i before) (sym (own (take i before)) ∙ own_taken e i before h k);
  }

  -- an entry that names prefixes
  in_mappings : (context : Context) (chars : List ℕ) → 0 < length chars → entry_in context chars ≡ mapping_entry context.mappings chars
  in_mappings context [] h = absurd (omega (arith, h))
  in_mappings context (c ∷ cs) h = refl

  some_length : (i : ℕ) (text : List ℕ) → 0 < i → i ≤ length text → 0 < length (take i text)
  some_length i text h k = omega (arith, h, length-take-le i text k)

  not_empty : (chars : List ℕ) → (chars ≡ [] → ⊥) → 0 < length chars
  not_empty [] n = absurd (n refl)
  not_empty (x ∷ xs) n = omega arith

  absurd_some : (m : Mapping) → Some m ≡ None → ⊥
  absurd_some m e = cc

  abbrev value_or : Mapping → Option Mapping → Mapping
  value_or x None = x
  value_or x (Some y) = y

  begins_fits : (text chars : List ℕ) → chars ≡ take (length chars) text → length chars ≤ length text
  begins_fits text chars e = omega (arith, ap length e, length-take (length chars) text, min-le_right (length chars) (length text))

  module _ (context : Context) (none : mapping_entry context.mappings [] ≡ None)
      (entries : (chars : List ℕ) → entry_in context chars ≡ behind chars) (before : List ℕ) where
    found_of : (m : Mapping) → (Some m ≡ None) ⊎ IsFound chars_of context.mappings before 0 (Some m)
        → (first_with chars_of context.mappings m.chars ≡ Some m) × (starts_with nat_eq before m.chars ≡ true)
    found_of m (inl e) = cc
    found_of m (inr f) =
        let is : f.item ≡ m = sym (ap (value_or m) f.is) in (
          subst (λ (x : Mapping). first_with chars_of context.mappings x.chars ≡ Some x) is f.first,
          subst (λ (x : Mapping). starts_with nat_eq before x.chars ≡ true) is f.begins,
        )

    -- a beginning that none of the prefixes is
    passed : (i : ℕ) → 0 < i → i ≤ length before → first_with chars_of context.mappings (take i before) ≡ None
        → own_of mappings (take i before) ≡ []
    passed i h k missed =
        none_own (take i before)
        (sym (entries (take i before)) ∙ in_mappings context (take i before) (some_length i before h k)
        ∙ entry_first context.mappings (take i before) ∙ ap (option_map (λ (m : Mapping). m.entry)) missed)

    comes_to_chosen : (o : Option Mapping) → IsChosen chars_of context.mappings before None o
        → ComesTo mappings behind before (chosen_entry context o)
    comes_to_chosen None h = record {
      count = 0;
      fits = omega arith;
      is = sym (entries []);
      further = λ i j k. passed i j k (h.over (take i before) (begins_taken i before k) (omega arith));
    }
    comes_to_chosen (Some m) h =
        let f = found_of m h.found in
        let is : m.chars ≡ take (length m.chars) before = begins_is before m.chars f.1 in
        let there : 0 < length m.chars = not_empty m.chars (λ e.
        absurd_some m (sym f.0 ∙ ap (first_with chars_of context.mappings) e ∙ none_first context.mappings [] none)) in
        record {
          count = length m.chars;
          fits = begins_fits before m.chars is;
          is = ap behind (sym is) ∙ sym (entries m.chars) ∙ in_mappings context m.chars there
              ∙ entry_first context.mappings m.chars ∙ ap (option_map (λ (x : Mapping). x.entry)) f.0;
          further = λ i j k. passed i (omega (arith, there, j)) k
              (h.over (take i before) (begins_taken i before k) (omega (arith, j, length-take-le i before k)));
        }

  pub comes_to_prefix : (d : Data) (e : ℕ) (before : List ℕ) → HasDistinctMappings d → RefersJustTo Prefix d e behind
      → ComesTo mappings behind before (after_prefix (homed d e) before)
  comes_to_prefix d e before distinct refers =
      let context = context_of (homed d e) in
      let o = longest_mapping context.mappings before in
      let chosen : IsChosen chars_of context.mappings before None o =
      subst (IsChosen chars_of context.mappings before None) (sym (longest_same None context.mappings before))
      (chosen_is chars_of None context.mappings before) in
      let is : after_prefix (homed d e) before ≡ chosen_entry context o =
      chosen_after (homed d e) before
      ∙ ap (λ (k : EntryKind). elim k as (λ _. ℕ) [ Prefix ↦ chosen_entry context o | _ ↦ e ]) refers.kind_is in
      subst (ComesTo mappings behind before) (sym is)
      (comes_to_chosen context (distinct.some _) refers.entries before o chosen)
