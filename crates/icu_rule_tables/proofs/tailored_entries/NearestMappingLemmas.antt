-- The entries of mappings behind a prefix are those of the mappings that count there.
use Rattle.std.proofs.Common.{◌≡◌, ℕ, zero, suc, ◌+◌, ◌≤◌, Bool, true, false, List, [], ◌∷◌, ◌++◌, length, take, Option, Some, None, refl, sym, ap, subst, ◌∙◌, if◌then◌else◌, arith, inl, inr}
use Rattle.std.specs.Prelude.{◌||◌, ◌&&◌, is_some, not, filter, bytes_eq, option_and_then}
use Rattle.std.specs.List.{list_any}
use Rattle.std.specs.Option.{option_or}
use Rattle.std.proofs.lemmas.List.{take_all}
use Rattle.std.proofs.lemmas.Bool.{and_parts}
use Rattle.icu_table_data.specs.Data.{Data}
use Rattle.icu_table_mappings.specs.Given.{GivesJust}
use Rattle.icu_table_mappings.specs.GrownLists.{HasMoreLists}
use Rattle.icu_table_mappings.specs.Surroundings.{IsBehind, Suffixes, Surroundings, begins_after, behind_longer, entry_at, entry_between, nearest, nearest_of, own_entry, value_among}
use Rattle.icu_table_mappings.proofs.NearestLemmas.{begun_at, begun_by}
use Rattle.icu_table_mappings.proofs.SurroundingLemmas.{same_from_true}
use Rattle.icu_rule_steps.specs.symbolic_mappings.inner.Tiers.{joined_tiers, with_tier}
use Rattle.icu_rule_steps.proofs.symbolic_mappings.TierLemmas.{first_tier, tier_more}
use Rattle.icu_rule_meaning.specs.TailoredMappings.{SymbolicMapping, beginnings, begin_suffix, has_no_context, mapping_with, mappings_behind, stands_after_prefix}
use Rattle.icu_rule_weights.specs.declared.tailoring_numbers.tailoring_numbers.TailoringNumbers.{TailoringNumbers}
use Rattle.icu_rule_tables.specs.tailored_entries.GivenMappings.{GivesMappings, IsMappingEntry, IsPrefixOfSome, StandsFor, StandsForMappings, mappings_fit}
use Rattle.icu_rule_tables.specs.tailored_entries.inner.MappingEntries.{HasEntriesOf, IsEntryOfMaybe}
use Rattle.icu_rule_tables.proofs.tailored_entries.MappingEntryLemmas.{stands_further}
use Rattle.icu_rule_tables.proofs.tailored_entries.BegunSuffixLemmas.{all_unbegun, begin_chars, begun_with, first_of_both, none_unbegun, plain_begins, second_of_both, still_unbegun, with_begins, without_suffixes}

module _ (t : TailoringNumbers) (d : Data) (c : ℕ) where
  -- ---- a mapping and its entry

  has_entry : (m : SymbolicMapping) (om : Option SymbolicMapping) (e : Option ℕ) → om ≡ Some m → IsEntryOfMaybe t d c om e → is_some e ≡ true
  has_entry m None e is h = cc
  has_entry m (Some n) None is h = absurd h
  has_entry m (Some n) (Some f) is h = refl

  has_mapping : (om : Option SymbolicMapping) (e : Option ℕ) → is_some e ≡ true → IsEntryOfMaybe t d c om e → (m : SymbolicMapping) × (om ≡ Some m)
  has_mapping om None some h = cc
  has_mapping None (Some f) some h = absurd h
  has_mapping (Some m) (Some f) some h = (m, refl)

  none_from : (om : Option SymbolicMapping) → IsEntryOfMaybe t d c om None → om ≡ None
  none_from None h = refl
  none_from (Some m) h = absurd h

  maybe : (after : List ℕ) (om : Option SymbolicMapping) (e : Option ℕ) → IsEntryOfMaybe t d c om e → StandsFor t d c after om e
  maybe after None None h = tt
  maybe after None (Some e) h = absurd h
  maybe after (Some m) None h = absurd h
  maybe after (Some m) (Some e) h = h

  -- ---- a prefix before shorter ones

  module _ (own shorter : List SymbolicMapping) (after : List ℕ) (nearer : Option ℕ) (near : StandsFor t d c after (mapping_with shorter after) nearer) where
    without_longer : own ≡ [] → StandsFor t d c after (mapping_with (joined_tiers own shorter) after) nearer
    without_longer none =
        subst (λ (xs : List SymbolicMapping). StandsFor t d c after (mapping_with (joined_tiers xs shorter) after) nearer) (sym none)
        (subst (λ (xs : List SymbolicMapping). StandsFor t d c after (mapping_with xs after) nearer) (sym (all_unbegun shorter)) near)

    module _ (longer : Suffixes) (has : (a : List ℕ) → IsEntryOfMaybe t d c (mapping_with own a) (entry_at longer a)) where
      -- the suffixes of the longer prefix are before the same characters as its entries
      begin_alike : begins_after longer.entries after ≡ begin_chars own after
      begin_alike = both (begins_after longer.entries after) (begin_chars own after) refl refl where
        both : (a b : Bool) → begins_after longer.entries after ≡ a → begin_chars own after ≡ b → a ≡ b
        both true true x y = refl
        both false false x y = refl
        both true false x y =
            let at = begun_at longer.entries after x in
            let m = has_mapping (mapping_with own (take at.0 after)) (entry_at longer (take at.0 after)) at.2 (has (take at.0 after)) in
            sym (with_begins own after at.0 m.0 m.1) ∙ y
        both false true x y =
            let at = begun_with own after y in
            let e = has_entry at.1 (mapping_with own (take at.0 after)) (entry_at longer (take at.0 after)) at.2 (has (take at.0 after)) in
            sym x ∙ begun_by longer.entries after at.0 e

      -- where one of its own suffixes begins the characters, no other counts
      when_begun : begin_chars own after ≡ true → StandsFor t d c after (mapping_with (joined_tiers own shorter) after) (entry_at longer after)
      when_begun begun = by_own (mapping_with own after) refl where
        by_plain : (b : Bool) (r : Option SymbolicMapping) → mapping_with own after ≡ r → mapping_with (own ++ filter (λ m. not (begin_suffix own m)) shorter) after ≡ r
            → mapping_with (if b then own else own ++ filter (λ m. not (begin_suffix own m)) shorter) after ≡ r
        by_plain true r x y = x
        by_plain false r x y = y

        by_own : (r : Option SymbolicMapping) → mapping_with own after ≡ r → StandsFor t d c after (mapping_with (joined_tiers own shorter) after) (entry_at longer after)
        by_own None is =
            let all : mapping_with (joined_tiers own shorter) after ≡ None =
            by_plain (list_any (λ (m : SymbolicMapping). bytes_eq m.suffix []) own) None is
            (second_of_both own (filter (λ m. not (begin_suffix own m)) shorter) after is ∙ none_unbegun own shorter after begun) in
            subst (λ (o : Option SymbolicMapping). StandsFor t d c after o (entry_at longer after)) (is ∙ sym all)
            (maybe after (mapping_with own after) (entry_at longer after) (has after))
        by_own (Some m) is =
            let all : mapping_with (joined_tiers own shorter) after ≡ Some m =
            by_plain (list_any (λ (m : SymbolicMapping). bytes_eq m.suffix []) own) (Some m) is
            (first_of_both own (filter (λ m. not (begin_suffix own m)) shorter) after m is) in
            subst (λ (o : Option SymbolicMapping). StandsFor t d c after o (entry_at longer after)) (is ∙ sym all)
            (maybe after (mapping_with own after) (entry_at longer after) (has after))

      -- where none does, those of the shorter ones count
      when_unbegun : begin_chars own after ≡ false → StandsFor t d c after (mapping_with (joined_tiers own shorter) after) nearer
      when_unbegun unbegun = by_plain (list_any (λ (m : SymbolicMapping). bytes_eq m.suffix []) own) refl where
        none_exact : (r : Option SymbolicMapping) → mapping_with own after ≡ r → r ≡ None
        none_exact None is = refl
        none_exact (Some m) is =
            let whole : mapping_with own (take (length after) after) ≡ Some m = ap (mapping_with own) (take_all (length after) after (omega arith)) ∙ is in
            let begun : begin_chars own after ≡ true = with_begins own after (length after) m whole in
            cc

        by_plain : (b : Bool) → list_any (λ (m : SymbolicMapping). bytes_eq m.suffix []) own ≡ b
            → StandsFor t d c after (mapping_with (if b then own else own ++ filter (λ m. not (begin_suffix own m)) shorter) after) nearer
        by_plain true is = let begun : begin_chars own after ≡ true = plain_begins own after is in cc
        by_plain false is =
            let none : mapping_with own after ≡ None = none_exact (mapping_with own after) refl in
            let all : mapping_with (own ++ filter (λ m. not (begin_suffix own m)) shorter) after ≡ mapping_with shorter after =
            second_of_both own (filter (λ m. not (begin_suffix own m)) shorter) after none ∙ still_unbegun own shorter after unbegun in
            subst (λ (o : Option SymbolicMapping). StandsFor t d c after o nearer) (sym all) near

      with_longer : StandsFor t d c after (mapping_with (joined_tiers own shorter) after) (behind_longer (Some longer) after nearer)
      with_longer = by_test (begins_after longer.entries after) refl where
        by_test : (b : Bool) → begins_after longer.entries after ≡ b
            → StandsFor t d c after (mapping_with (joined_tiers own shorter) after) (if b then entry_at longer after else nearer)
        by_test true is = when_begun (sym begin_alike ∙ is)
        by_test false is = when_unbegun (sym begin_alike ∙ is)

    tier_has : (o : Option Suffixes) → ((a : List ℕ) → IsEntryOfMaybe t d c (mapping_with own a) (option_and_then (λ s. entry_at s a) o))
        → StandsFor t d c after (mapping_with (joined_tiers own shorter) after) (behind_longer o after nearer)
    tier_has None has = without_longer (without_suffixes own (λ a. none_from (mapping_with own a) (has a)))
    tier_has (Some longer) has = with_longer longer has

  -- ---- all prefixes

  module _ (mappings : List SymbolicMapping) (all : Surroundings) (own : ℕ) (has : HasEntriesOf t d c mappings all) where
    or_own : (after : List ℕ) (e : Option ℕ) (m : Option SymbolicMapping) → IsEntryOfMaybe t d c m e → StandsFor t d c after m (option_or e (own_entry own after))
    or_own [] None None h = refl
    or_own (x ∷ xs) None None h = tt
    or_own after (Some f) None h = absurd h
    or_own after None (Some m) h = absurd h
    or_own after (Some f) (Some m) h = h

    first_has : (after : List ℕ) → StandsFor t d c after (mapping_with (mappings_behind mappings (beginnings [])) after) (option_or (entry_between all [] after) (own_entry own after))
    first_has after =
        or_own after (entry_between all [] after) (mapping_with (mappings_behind mappings (beginnings [])) after)
        (subst (λ (ms : List SymbolicMapping). IsEntryOfMaybe t d c (mapping_with ms after) (entry_between all [] after)) (sym (first_tier mappings))
        (subst (λ (ms : List SymbolicMapping). IsEntryOfMaybe t d c (mapping_with ms after) (entry_between all [] after))
        (sym (either (list_any (λ (m : SymbolicMapping). bytes_eq m.suffix []) (filter (stands_after_prefix []) mappings)) (filter (stands_after_prefix []) mappings)))
        (has [] after))) where
          either : (b : Bool) (xs : List SymbolicMapping) → (if b then xs else xs ++ []) ≡ xs
          either true xs = refl
          either false xs = append_none xs where
            append_none : (ys : List SymbolicMapping) → ys ++ [] ≡ ys
            append_none [] = refl
            append_none (y ∷ ys) = ap (λ (zs : List SymbolicMapping). y ∷ zs) (append_none ys)

    -- the nearest entry is that of the mapping that counts
    nearest_has : (n : ℕ) (before after : List ℕ) → n ≤ length before
        → StandsFor t d c after (mapping_with (mappings_behind mappings (beginnings (take n before))) after) (nearest_of all own n before after)
    unfolding nearest_of
    nearest_has zero before after inside = first_has after
    nearest_has (suc n) before after inside =
        let next : n + 1 ≡ suc n = omega arith in
        let tiers : mappings_behind mappings (beginnings (take (suc n) before)) ≡ with_tier mappings (take (suc n) before) (mappings_behind mappings (beginnings (take n before))) =
        subst (λ k. mappings_behind mappings (beginnings (take k before)) ≡ with_tier mappings (take k before) (mappings_behind mappings (beginnings (take n before)))) next
        (tier_more mappings before n (omega arith)) in
        subst (λ (ms : List SymbolicMapping). StandsFor t d c after (mapping_with ms after) (behind_longer (value_among all.entries (take (suc n) before)) after (nearest_of all own n before after))) (sym tiers)
        (tier_has (filter (stands_after_prefix (take (suc n) before)) mappings) (mappings_behind mappings (beginnings (take n before))) after (nearest_of all own n before after)
        (nearest_has n before after (omega arith)) (value_among all.entries (take (suc n) before)) (λ a. has (take (suc n) before) a))

    -- a prefix of a mapping has entries
    prefix_behind : (before : List ℕ) → IsPrefixOfSome mappings before → IsBehind all before
    prefix_behind before (inl none) = inl none
    prefix_behind before (inr some) = inr (by_entries (value_among all.entries before) refl) where
      kept : (ms : List SymbolicMapping) → list_any (stands_after_prefix before) ms ≡ true → filter (stands_after_prefix before) ms ≡ [] → ⊥
      kept [] some none = cc
      kept (m ∷ ms) some none = here (bytes_eq m.prefix before) (λ g h. kept ms g h) some none where
        here : (b : Bool) → (list_any (stands_after_prefix before) ms ≡ true → filter (stands_after_prefix before) ms ≡ [] → ⊥)
            → (b || list_any (stands_after_prefix before) ms) ≡ true → (if b then m ∷ filter (stands_after_prefix before) ms else filter (stands_after_prefix before) ms) ≡ [] → ⊥
        here true more some none = cc
        here false more some none = more some none

      by_entries : (o : Option Suffixes) → value_among all.entries before ≡ o → is_some o ≡ true
      by_entries (Some s) is = refl
      by_entries None is =
          absurd (kept mappings some (without_suffixes (filter (stands_after_prefix before) mappings)
          (λ a. none_from (mapping_with (filter (stands_after_prefix before) mappings) a)
          (subst (λ (o : Option Suffixes). IsEntryOfMaybe t d c (mapping_with (filter (stands_after_prefix before) mappings) a) (option_and_then (λ s. entry_at s a) o)) is (has before a)))))

    -- what stands for the mappings that count behind a context
    near : (before after : List ℕ) → StandsFor t d c after (mapping_with (mappings_behind mappings (beginnings before)) after) (nearest all own before after)
    near before after =
        subst (λ (b : List ℕ). StandsFor t d c after (mapping_with (mappings_behind mappings (beginnings b)) after) (nearest all own before after))
        (take_all (length before) before (omega arith)) (nearest_has (length before) before after (omega arith))

    -- the entry that comes to just these gives the mappings
    pub mappings_given : (new : Data) (e : ℕ) → HasMoreLists d new → GivesJust new e all own → mappings_fit t mappings ≡ true
        → GivesMappings t new c mappings e
    mappings_given new e grows gives fit = record {
      behind = gives.behind;
      prefix = gives.prefix;
      prefixes = λ before is. gives.prefixes before (prefix_behind before is);
      suffixes = λ before b is. record {
        found = nearest all own before;
        leads = gives.contraction before b is;
        stands = λ after. stands_further t d new c after (mapping_with (mappings_behind mappings (beginnings before)) after) (nearest all own before after)
            grows (near before after);
      };
      fit = fit;
    }

-- ---- a character without contexts

lone_tier : (m : SymbolicMapping) → bytes_eq m.prefix [] ≡ true → bytes_eq m.suffix [] ≡ true → mappings_behind (m ∷ []) (beginnings []) ≡ m ∷ []
lone_tier m prefix suffix =
    first_tier (m ∷ [])
    ∙ ap (λ b. joined_tiers (if b then m ∷ [] else []) []) prefix
    ∙ ap (λ b. if b || false then m ∷ [] else (m ∷ []) ++ []) suffix

no_prefix : (m : SymbolicMapping) (before : List ℕ) → m.prefix ≡ [] → IsPrefixOfSome (m ∷ []) before → before ≡ []
no_prefix m before none (inl empty) = empty
no_prefix m before none (inr some) = sym (same_from_true m.prefix before (first_true (bytes_eq m.prefix before) some)) ∙ none where
  first_true : (b : Bool) → (b || false) ≡ true → b ≡ true
  first_true true h = refl
  first_true false h = h

-- behind whatever stands before it, it counts
lone_behind : (m : SymbolicMapping) → m.prefix ≡ [] → m.suffix ≡ [] → (before : List ℕ) → before ≡ [] → mappings_behind (m ∷ []) (beginnings before) ≡ m ∷ []
lone_behind m prefix suffix before none =
    ap (λ (b : List ℕ). mappings_behind (m ∷ []) (beginnings b)) none
    ∙ lone_tier m (ap (λ xs. bytes_eq xs []) prefix) (ap (λ xs. bytes_eq xs []) suffix)

own_nothing : (e b : ℕ) (before : List ℕ) → own_entry e before ≡ Some b → (before ≡ []) × (e ≡ b)
own_nothing e b [] h = (refl, cc)
own_nothing e b (x ∷ xs) h = cc

-- the entry of its mapping gives it
pub lone_given : (t : TailoringNumbers) (d : Data) (c : ℕ) (m : SymbolicMapping) (e : ℕ) (mappings : List SymbolicMapping) → mappings ≡ m ∷ []
    → has_no_context m ≡ true → IsMappingEntry t d c m e → GivesMappings t d c mappings e
lone_given t d c m e mappings lone alone is =
    subst (λ (ms : List SymbolicMapping). GivesMappings t d c ms e) (sym lone) given where
      sides : (bytes_eq m.prefix [] ≡ true) × (bytes_eq m.suffix [] ≡ true)
      sides = and_parts (bytes_eq m.prefix []) (bytes_eq m.suffix []) alone

      no_prefix_is : m.prefix ≡ []
      no_prefix_is = same_from_true m.prefix [] sides.0

      no_suffix_is : m.suffix ≡ []
      no_suffix_is = same_from_true m.suffix [] sides.1

      alone_stands : (after : List ℕ) → StandsFor t d c after (if bytes_eq [] after then Some m else None) (own_entry e after)
      alone_stands [] = is
      alone_stands (x ∷ xs) = tt

      stand : (before : List ℕ) → before ≡ [] → StandsForMappings t d c (mappings_behind (m ∷ []) (beginnings before)) e
      stand before none = record {
        found = own_entry e;
        leads = inr (λ chars. refl);
        stands = λ after.
            subst (λ (ms : List SymbolicMapping). StandsFor t d c after (mapping_with ms after) (own_entry e after))
            (sym (lone_behind m no_prefix_is no_suffix_is before none))
            (subst (λ ks. StandsFor t d c after (if bytes_eq ks after then Some m else None) (own_entry e after)) (sym no_suffix_is) (alone_stands after));
      }

      own_there : (before : List ℕ) → before ≡ [] → is_some (own_entry e before) ≡ true
      own_there before none = ap (λ b. is_some (own_entry e b)) none

      given : GivesMappings t d c (m ∷ []) e
      given = record {
        behind = own_entry e;
        prefix = inr (λ chars. refl);
        prefixes = λ before some. own_there before (no_prefix m before no_prefix_is some);
        suffixes = λ before b h.
            let own = own_nothing e b before h in
            subst (λ x. StandsForMappings t d c (mappings_behind (m ∷ []) (beginnings before)) x) own.1 (stand before own.0);
        fit = ap (λ b. b && true) is.fits;
      }
