-- A relation of a letter with one mark is read: of the last mapping of both the elements.
use Rattle.std.proofs.Common.{◌≡◌, ℕ, Bool, true, false, not, ◌&&◌, ◌==◌, nat_eq, nat_lt, bytes_eq, List, [], ◌∷◌, ◌++◌, length, filter, drop, Option, Some, None, if◌then◌else◌, refl, ap, sym, ◌∙◌}
use Rattle.std.specs.List.{list_any, starts_with}
use Rattle.std.proofs.lemmas.Bool.{and_parts}
use Rattle.std.proofs.lemmas.List.{append-nil}
use Rattle.unicode_normalization.specs.Forms.{nfd}
use Rattle.unicode_normalization.proofs.Computing.{unicode_normalization}
use Rattle.icu_options.specs.declared.settings.Strength.{Strength}
use Rattle.icu_element_matches.proofs.CharacterOrderLemmas.{same_lists}
use Rattle.icu_rule_meaning.specs.Steps.{TailoringState, case_step, mapping_step, relation_step, strength_step}
use Rattle.icu_rule_meaning.specs.TailoredMappings.{SymbolicMapping, SymbolicMappings, SymbolicMatch, begin_suffix, beginnings, context_behind, is_mapping_of, joined_marks, longer_mapping, longest_suffix, mappings_behind, match_by, stands_after_prefix, symbolic_along, symbolic_elements, with_mapping}
use Rattle.icu_rule_meaning.specs.TailoredRoots.{Root}
use Rattle.icu_rule_meaning.specs.declared.symbolic.SymbolicElement.{SymbolicElement}
use Rattle.icu_rule_meaning.proofs.KeptRootLemmas.{strength_keeps}

-- ---- what is found before a mark

-- of these mappings the one with the longest suffix before a mark alone
abbrev pub found_before : List SymbolicMapping → ℕ → Option SymbolicMapping
found_before mappings m = longest_suffix None (filter (stands_after_prefix []) mappings) (m ∷ [])

-- a mapping with the mark as its suffix
abbrev pub marked : ℕ → List SymbolicElement → SymbolicMapping
marked m elements = record { prefix = []; suffix = m ∷ []; elements = elements }

and_false : (b : Bool) → (b && false) ≡ false
and_false true = refl
and_false false = refl

and_false_and : (a b : Bool) → ((a && false) && b) ≡ false
and_false_and true b = refl
and_false_and false b = refl

-- no suffix is longer
not_longer : (m : ℕ) (suffix : List ℕ) → (starts_with nat_eq (m ∷ []) suffix && nat_lt 1 (length suffix)) ≡ false
not_longer m [] = refl
not_longer m (x ∷ []) = and_false (starts_with nat_eq (m ∷ []) (x ∷ []))
not_longer m (x ∷ y ∷ suffix) = and_false_and (nat_eq x m) (nat_lt 1 (length (x ∷ y ∷ suffix)))

stays_found : (m : ℕ) (es : List SymbolicElement) (ms : List SymbolicMapping) → longest_suffix (Some (marked m es)) ms (m ∷ []) ≡ Some (marked m es)
unfolding longest_suffix
stays_found m es [] = refl
stays_found m es (x ∷ ms) =
    ap (λ b. longest_suffix (if b then Some x else Some (marked m es)) ms (m ∷ [])) (not_longer m x.suffix) ∙ stays_found m es ms

-- the last mapping of a mark is found
pub put_is_found : (m : ℕ) (es : List SymbolicElement) (ms : List SymbolicMapping) → starts_with nat_eq (m ∷ []) (m ∷ []) ≡ true
    → found_before (with_mapping (marked m es) ms) m ≡ Some (marked m es)
unfolding longest_suffix
put_is_found m es ms e =
    ap (λ b. longest_suffix (if b then Some (marked m es) else None) (filter (stands_after_prefix []) (filter (λ x. not (is_mapping_of [] (m ∷ []) x)) ms)) (m ∷ [])) e
    ∙ stays_found m es (filter (stands_after_prefix []) (filter (λ x. not (is_mapping_of [] (m ∷ []) x)) ms))

-- ---- mappings of another mark

module _ (m other : ℕ) (apart : starts_with nat_eq (m ∷ []) (other ∷ []) ≡ false) where
  abbrev goes : SymbolicMapping → Bool
  goes x = not (is_mapping_of [] (other ∷ []) x)

  abbrev left : List SymbolicMapping → List SymbolicMapping
  left ms = filter (stands_after_prefix []) (filter goes ms)

  -- a mapping of the other mark isn't taken
  not_taken : (best : Option SymbolicMapping) (x : SymbolicMapping) → x.suffix ≡ other ∷ [] → longer_mapping (m ∷ []) best x ≡ best
  not_taken None x e = ap (λ s. if starts_with nat_eq (m ∷ []) s then Some x else None) e ∙ ap (λ b. if b then Some x else None) apart
  not_taken (Some best) x e =
      ap (λ s. if starts_with nat_eq (m ∷ []) s && nat_lt (length best.suffix) (length s) then Some x else Some best) e
      ∙ ap (λ b. if b && nat_lt (length best.suffix) 1 then Some x else Some best) apart

  mutual_rest : (p g : Bool) (best : Option SymbolicMapping) (x : SymbolicMapping) (us vs : List SymbolicMapping)
      → stands_after_prefix [] x ≡ p → not (is_mapping_of [] (other ∷ []) x) ≡ g
      → ((b : Option SymbolicMapping) → longest_suffix b us (m ∷ []) ≡ longest_suffix b vs (m ∷ []))
      → longest_suffix best (if g then (if p then x ∷ us else us) else us) (m ∷ []) ≡ longest_suffix best (if p then x ∷ vs else vs) (m ∷ [])
  unfolding longest_suffix
  mutual_rest true true best x us vs e f h = h (longer_mapping (m ∷ []) best x)
  mutual_rest false true best x us vs e f h = h best
  mutual_rest true false best x us vs e f h =
      h best ∙ ap (λ b. longest_suffix b vs (m ∷ [])) (sym (not_taken best x (same_lists x.suffix (other ∷ []) (is_other f))))
    where
      turned : (b : Bool) → not b ≡ false → b ≡ true
      turned true e = refl
      turned false e = cc

      is_other : not (is_mapping_of [] (other ∷ []) x) ≡ false → bytes_eq x.suffix (other ∷ []) ≡ true
      is_other e = let (first, second) = and_parts (bytes_eq x.prefix []) (bytes_eq x.suffix (other ∷ [])) (turned _ e) in second
  mutual_rest false false best x us vs e f h = h best

  nested : (p g : Bool) (x : SymbolicMapping) (ms : List SymbolicMapping) → stands_after_prefix [] x ≡ p
      → filter (stands_after_prefix []) (if g then x ∷ filter goes ms else filter goes ms) ≡ (if g then (if p then x ∷ left ms else left ms) else left ms)
  nested p true x ms e = ap (λ b. if b then x ∷ left ms else left ms) e
  nested p false x ms e = refl

  without_others : (ms : List SymbolicMapping) (best : Option SymbolicMapping)
      → longest_suffix best (left ms) (m ∷ []) ≡ longest_suffix best (filter (stands_after_prefix []) ms) (m ∷ [])
  without_others [] best = refl
  without_others (x ∷ ms) best =
      ap (λ us. longest_suffix best us (m ∷ [])) (nested (stands_after_prefix [] x) (goes x) x ms refl)
      ∙ mutual_rest (stands_after_prefix [] x) (goes x) best x (left ms) (filter (stands_after_prefix []) ms) refl refl (without_others ms)

  -- what is found before a mark stays so, if the letter gets a mapping of another one
  pub found_stays : (es : List SymbolicElement) (ms : List SymbolicMapping) → found_before (with_mapping (marked other es) ms) m ≡ found_before ms m
  unfolding longest_suffix
  found_stays es ms =
      ap (λ b. longest_suffix (if b then Some (marked other es) else None) (left ms) (m ∷ [])) apart ∙ without_others ms None

-- ---- the elements of a letter with a mark

own_alone : (ms : List SymbolicMapping) → mappings_behind ms (beginnings []) ≡ filter (stands_after_prefix []) ms
unfolding mappings_behind
own_alone ms = by_test (list_any (λ (m : SymbolicMapping). bytes_eq m.suffix []) (filter (stands_after_prefix []) ms))
  where
    by_test : (b : Bool) → (if b then filter (stands_after_prefix []) ms else filter (stands_after_prefix []) ms ++ filter (λ m. not (begin_suffix (filter (stands_after_prefix []) ms) m)) [])
        ≡ filter (stands_after_prefix []) ms
    by_test true = refl
    by_test false = append-nil (filter (stands_after_prefix []) ms)

abbrev match_or : List SymbolicMapping → ℕ → Option SymbolicMapping → SymbolicMatch
match_or own m found =
    let none : SymbolicMatch = record { elements = []; suffix = []; rest = m ∷ [] } in
    elim found [
      | Some best ↦ joined_marks own best [] (drop (length best.suffix) (m ∷ []))
      | None ↦ none
    ]

found_match : (own : List SymbolicMapping) (m : ℕ) (es : List SymbolicElement)
    → match_or own m (Some (marked m es)) ≡ record { elements = es; suffix = m ∷ []; rest = [] }
unfolding joined_marks
found_match own m es = refl

matched : (ms : List SymbolicMapping) (m : ℕ) (es : List SymbolicElement) → found_before ms m ≡ Some (marked m es)
    → match_by (mappings_behind ms (beginnings [])) (m ∷ []) ≡ record { elements = es; suffix = m ∷ []; rest = [] }
matched ms m es found =
    ap (λ own. match_by own (m ∷ [])) (own_alone ms)
    ∙ ap (match_or (filter (stands_after_prefix []) ms) m) found
    ∙ found_match (filter (stands_after_prefix []) ms) m es

pub marked_letter : (mappings : SymbolicMappings) (c m : ℕ) (es : List SymbolicElement) → found_before (mappings c) m ≡ Some (marked m es)
    → symbolic_elements mappings (c ∷ m ∷ []) ≡ es
unfolding symbolic_along
marked_letter mappings c m es found =
    ap (λ (s : SymbolicMatch). s.elements ++ symbolic_along (m ∷ []) mappings (context_behind [] c s) s.rest) (matched (mappings c) m es found)
    ∙ append-nil es

-- ---- a relation of a letter with a mark

module _ (root : Root) (state : TailoringState) (strength : Strength) (string : List ℕ) (c m : ℕ) where
  abbrev stepped : TailoringState
  stepped = relation_step root strength [] string [] state

  abbrev differing : List ℕ → TailoringState
  differing decomposed = case_step root decomposed (strength_step strength state)

  -- the mappings that it leaves
  put_mapping : (decomposed : List ℕ) → decomposed ≡ c ∷ m ∷ [] → (es : List SymbolicElement) (prefix : List ℕ) → prefix ≡ [] → (d : ℕ)
      → (mapping_step prefix decomposed es (differing decomposed)).mappings d
      ≡ (if d == c then with_mapping (marked m es) (state.mappings c) else state.mappings d)
  put_mapping decomposed e es prefix f d =
      ap (λ (x : List ℕ). (mapping_step prefix x es (differing x)).mappings d) e
      ∙ ap (λ (p : List ℕ). (mapping_step p (c ∷ m ∷ []) es (differing (c ∷ m ∷ []))).mappings d) f
      ∙ ap (λ (ms : SymbolicMappings). if d == c then with_mapping (marked m es) (ms c) else ms d) (strength_keeps strength state)

  step_elements : (decomposed : List ℕ) → decomposed ≡ c ∷ m ∷ [] → (es : List SymbolicElement) (prefix : List ℕ)
      → (mapping_step prefix decomposed es (differing decomposed)).elements ≡ (differing decomposed).elements
  step_elements decomposed e es prefix = ap (λ (x : List ℕ). (mapping_step prefix x es (differing decomposed)).elements) e

  nothing_behind : (es : List SymbolicElement) → es ++ symbolic_elements state.mappings (nfd []) ≡ es
  unfolding unicode_normalization symbolic_along
  nothing_behind es = append-nil es

  no_prefix : nfd [] ≡ []
  unfolding unicode_normalization
  no_prefix = refl

  pub relation_puts : nfd string ≡ c ∷ m ∷ [] → (d : ℕ)
      → stepped.mappings d ≡ (if d == c then with_mapping (marked m stepped.elements) (state.mappings c) else state.mappings d)
  unfolding relation_step
  relation_puts e d =
      let all = (differing (nfd string)).elements ++ symbolic_elements state.mappings (nfd []) in
      put_mapping (nfd string) e all (nfd []) no_prefix d
      ∙ ap (λ es. if d == c then with_mapping (marked m es) (state.mappings c) else state.mappings d)
      (nothing_behind (differing (nfd string)).elements ∙ sym (step_elements (nfd string) e all (nfd [])))
