-- Texts are read by tables as by mappings which these say.
use Rattle.std.proofs.Common.{◌≡◌, ℕ, Bool, true, false, List, [], ◌∷◌, ◌++◌, map, take, reverse, Option, Some, None, if◌then◌else◌, refl, ap, ap₂, sym, subst, ◌∙◌, append_assoc, append-nil}
use Rattle.std.specs.List.{AllByRecursion}
use Rattle.std.proofs.lemmas.List.{map-append}
use Rattle.std.proofs.lemmas.List.Elements.{filter-append}
use Rattle.icu_rule_meaning.proofs.KeptRootLemmas.{match_leaves}
use Rattle.unicode_normalization.specs.Order.{is_starter}
use Rattle.icu_table_entries.specs.Elements.{Element, of_secondary}
use Rattle.icu_table_entries.specs.Entries.{kind_of}
use Rattle.icu_table_entries.specs.declared.entry.EntryKind.{EntryKind}
use Rattle.icu_table_entries.specs.declared.entry.EntryKind.TheVariants.{Digit}
use Rattle.icu_table_data.specs.Data.{Data, homed, plain_of}
use Rattle.icu_table_data.specs.Final.{final_elements}
use Rattle.icu_table_provider.specs.Tables.{Tables, entry_of, diacritic_of}
use Rattle.icu_element_matches.specs.Matches.{Match, after_prefix, match_of}
use Rattle.icu_element_reading.specs.TextElements.{Step, non_numeric_reading, final_step, entry_step, matched_step, step, consumed, last_two, elements_along, elements_after}
use Rattle.icu_rule_root.specs.RootEntries.{entry_elements}
use Rattle.icu_rule_meaning.specs.declared.symbolic.SymbolicElement.{SymbolicElement}
use Rattle.icu_rule_meaning.specs.TailoredMappings.{SymbolicMapping, SymbolicMappings, SymbolicMatch, beginnings, mappings_behind, longest_suffix, is_blocked_by, joined_marks, match_by, symbolic_match, context_behind, symbolic_along}
use Rattle.icu_rule_laws.specs.mapped_texts.MappedTexts.{is_weighted, weighted, context_behind_prefix, SaysMappings, IsMappedAlone, SayMappingsOf, TextsAreReadByMappings, TextsOfSomeAreReadByMappings}
use Rattle.icu_rule_laws.proofs.mapped_texts.MappedMatchLemmas.{AreSameMatch, match_same, matches_by_context}

-- a step and a symbolic match consume and leave the same, and have the same elements with weights
record AreSameStep (number : SymbolicElement → Element) (a : Step) (b : SymbolicMatch) : Type 0 where
  elements : weighted a.elements ≡ weighted (map number b.elements)
  suffix : a.suffix ≡ b.suffix
  rest : a.rest ≡ b.rest

-- ---- a character with an entry

at_digit : (k : EntryKind) (home : Data) (c e : ℕ) (m : Match)
    → (elim k as (λ _. Step) [ Digit ↦ final_step home c (plain_of home e) m | _ ↦ final_step home c e m ])
    ≡ record {
      elements = elim k as (λ _. List Element) [
        | Digit ↦ final_elements (homed home (plain_of home e)) c
        | _ ↦ final_elements (homed home e) c
      ];
      suffix = m.suffix;
      rest = m.rest;
    }
at_digit Digit home c e m = refl
at_digit _ home c e m = refl

entry_step_is : (tables : Tables) (home : Data) (c : ℕ) (m : Match)
    → entry_step (non_numeric_reading tables) home c m
    ≡ record { elements = entry_elements home c m.entry; suffix = m.suffix; rest = m.rest }
unfolding entry_step entry_elements
entry_step_is tables home c m = at_digit (kind_of m.entry) home c m.entry m

no_diacritic : (tables : Tables) (c : ℕ) (text : List ℕ) (m : Match) → diacritic_of tables c ≡ None
    → matched_step (non_numeric_reading tables) c text m
    ≡ entry_step (non_numeric_reading tables) (entry_of tables c).home c m
unfolding matched_step
no_diacritic tables c text m e = rw (e, matched_step) refl

entry_same : (number : SymbolicElement → Element) (tables : Tables) (mappings : List SymbolicMapping)
    (before : List ℕ) (c : ℕ) (text : List ℕ) → diacritic_of tables c ≡ None
    → SaysMappings number (entry_of tables c).home c (entry_of tables c).entry mappings
    → AreSameStep number (step (non_numeric_reading tables) before c text)
    (match_by (mappings_behind mappings (beginnings before)) text)
entry_same number tables mappings before c text e says =
    let h = entry_of tables c in
    let m = match_of h before text in
    let behind = mappings_behind mappings (beginnings before) in
    let same : AreSameMatch number h.home c m (match_by behind text) =
    subst (λ a. AreSameMatch number h.home c a (match_by behind text))
    (sym (matches_by_context h.home (after_prefix h before) text))
    (match_same number h.home c (context_behind_prefix h.home (after_prefix h before)) behind text (says before)) in
    let is : step (non_numeric_reading tables) before c text
    ≡ record { elements = entry_elements h.home c m.entry; suffix = m.suffix; rest = m.rest } =
    no_diacritic tables c text m e ∙ entry_step_is tables h.home c m in
    let plain : AreSameStep number (record { elements = entry_elements h.home c m.entry; suffix = m.suffix; rest = m.rest })
    (match_by behind text) = record { elements = same.elements; suffix = same.suffix; rest = same.rest } in
    subst (λ a. AreSameStep number a (match_by behind text)) (sym is) plain

-- ---- a diacritic

abbrev alone_mapping : List ℕ → List SymbolicElement → SymbolicMapping
alone_mapping prefix elements = record { prefix = prefix; suffix = []; elements = elements }

none_join_alone : (prefix : List ℕ) (elements : List SymbolicElement) (passed text : List ℕ)
    → joined_marks (alone_mapping prefix elements ∷ []) (alone_mapping prefix elements) passed text
    ≡ record { elements = elements; suffix = []; rest = passed ++ text }
unfolding joined_marks
none_join_alone prefix elements passed [] =
    ap (λ rest. record { elements = elements; suffix = []; rest = rest }) (sym (append-nil passed))
none_join_alone prefix elements passed (m ∷ text) =
    let over : joined_marks (alone_mapping prefix elements ∷ []) (alone_mapping prefix elements) (passed ++ m ∷ []) text
    ≡ record { elements = elements; suffix = []; rest = passed ++ m ∷ text } =
    none_join_alone prefix elements (passed ++ m ∷ []) text
    ∙ ap (λ rest. record { elements = elements; suffix = []; rest = rest }) (append_assoc passed (m ∷ []) text) in
    either_is (is_starter m) _ _ _ refl (either_is (is_blocked_by passed m) _ _ _ over over)
  where
    either_is : (b : Bool) (x y z : SymbolicMatch) → x ≡ z → y ≡ z → (if b then x else y) ≡ z
    either_is true x y z p q = p
    either_is false x y z p q = q

alone_match_is : (prefix : List ℕ) (elements : List SymbolicElement) (text : List ℕ)
    → match_by (alone_mapping prefix elements ∷ []) text ≡ record { elements = elements; suffix = []; rest = text }
unfolding longest_suffix
alone_match_is prefix elements text = none_join_alone prefix elements [] text

diacritic_is : (tables : Tables) (c secondary : ℕ) (text : List ℕ) (m : Match) → diacritic_of tables c ≡ Some secondary
    → matched_step (non_numeric_reading tables) c text m
    ≡ record { elements = of_secondary secondary ∷ []; suffix = []; rest = text }
unfolding matched_step
diacritic_is tables c secondary text m e = rw (e, matched_step) refl

diacritic_same : (number : SymbolicElement → Element) (tables : Tables) (mappings : List SymbolicMapping)
    (before : List ℕ) (c secondary : ℕ) (text : List ℕ) → diacritic_of tables c ≡ Some secondary
    → IsMappedAlone number secondary mappings
    → AreSameStep number (step (non_numeric_reading tables) before c text)
    (match_by (mappings_behind mappings (beginnings before)) text)
diacritic_same number tables mappings before c secondary text e h =
    let is = diacritic_is tables c secondary text (match_of (entry_of tables c) before text) e in
    let by : match_by (mappings_behind mappings (beginnings before)) text
    ≡ record { elements = h.elements; suffix = []; rest = text } =
    ap (λ ms. match_by ms text) (h.alone before) ∙ alone_match_is h.prefix h.elements text in
    let plain : AreSameStep number (record { elements = of_secondary secondary ∷ []; suffix = []; rest = text })
    (record { elements = h.elements; suffix = []; rest = text }) =
    record { elements = sym h.weights; suffix = refl; rest = refl } in
    subst (λ b. AreSameStep number (step (non_numeric_reading tables) before c text) b) (sym by)
    (subst (λ a. AreSameStep number a (record { elements = h.elements; suffix = []; rest = text })) (sym is) plain)

-- ---- what a match leaves is of the text

-- ---- each step, and the text

at_diacritic : (number : SymbolicElement → Element) (tables : Tables) (mappings : SymbolicMappings)
    (test : ℕ → Bool) → SayMappingsOf test number tables mappings → (before : List ℕ) (c : ℕ) → test c ≡ true → (text : List ℕ)
    (o : Option ℕ) → diacritic_of tables c ≡ o
    → AreSameStep number (step (non_numeric_reading tables) before c text) (symbolic_match mappings before c text)
at_diacritic number tables mappings test says before c p text None e =
    entry_same number tables (mappings c) before c text e (says.entries c p e)
at_diacritic number tables mappings test says before c p text (Some secondary) e =
    diacritic_same number tables (mappings c) before c secondary text e (says.diacritics c secondary p e)

along_same : (number : SymbolicElement → Element) (tables : Tables) (mappings : SymbolicMappings)
    (test : ℕ → Bool) → SayMappingsOf test number tables mappings → (along before text : List ℕ)
    → AllByRecursion (λ c. test c ≡ true) text
    → weighted (elements_along along (non_numeric_reading tables) before text)
    ≡ weighted (map number (symbolic_along along mappings before text))
unfolding elements_along symbolic_along
along_same number tables mappings test says along before [] all = refl
along_same number tables mappings test says [] before (c ∷ text) all = refl
along_same number tables mappings test says (x ∷ along) before (c ∷ text) (p, ps) =
    let reading = non_numeric_reading tables in
    let s = step reading before c text in
    let m = symbolic_match mappings before c text in
    let same = at_diacritic number tables mappings test says before c p text (diacritic_of tables c) refl in
    let behind = context_behind before c m in
    let further : elements_along along reading (last_two before (consumed c s)) s.rest
    ≡ elements_along along reading behind m.rest =
    ap₂ (λ (suffix rest : List ℕ). elements_along along reading (take 2 (reverse (c ∷ suffix) ++ before)) rest)
    same.suffix same.rest in
    let rest = along_same number tables mappings test says along behind m.rest
    (match_leaves (λ d. test d ≡ true) (mappings_behind (mappings c) (beginnings before)) text ps) in
    filter-append is_weighted s.elements (elements_along along reading (last_two before (consumed c s)) s.rest)
    ∙ ap₂ (λ (es fs : List Element). es ++ fs) same.elements (ap weighted further ∙ rest)
    ∙ sym (filter-append is_weighted (map number m.elements) (map number (symbolic_along along mappings behind m.rest)))
    ∙ sym (ap weighted (map-append number m.elements (symbolic_along along mappings behind m.rest)))

pub some_read_by_mappings : TextsOfSomeAreReadByMappings
unfolding elements_after
some_read_by_mappings test number tables mappings says text all = along_same number tables mappings test says text [] text all

any_text : (text : List ℕ) → AllByRecursion (λ (c : ℕ). true ≡ true) text
any_text [] = tt
any_text (c ∷ text) = (refl, any_text text)

pub read_by_mappings : TextsAreReadByMappings
read_by_mappings number tables mappings says text =
    some_read_by_mappings (λ c. true) number tables mappings
    (record { entries = λ c p e. says.entries c e; diacritics = λ c secondary p e. says.diacritics c secondary e })
    text (any_text text)
