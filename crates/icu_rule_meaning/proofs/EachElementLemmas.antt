-- What holds of each element of mappings holds of each element of a text.
use Rattle.std.proofs.Common.{ℕ, Bool, not, nat_eq, nat_lt, ◌&&◌, List, [], ◌∷◌, ◌++◌, length, filter, drop, Option, Some, None, if◌then◌else◌, bytes_eq}
use Rattle.std.specs.List.{AllByRecursion, list_any, starts_with}
use Rattle.unicode_normalization.specs.Order.{is_starter}
use Rattle.icu_rule_meaning.specs.declared.symbolic.SymbolicElement.{SymbolicElement}
use Rattle.icu_rule_meaning.specs.TailoredMappings.{SymbolicMapping, SymbolicMappings, SymbolicMatch, stands_after_prefix, begin_suffix, beginnings, mappings_behind, longer_mapping, longest_suffix, mapping_with, is_blocked_by, joined_marks, match_by, symbolic_match, context_behind, symbolic_along, symbolic_elements}
use Rattle.icu_rule_meaning.proofs.TreeLemmas.{either}
use Rattle.icu_rule_meaning.proofs.KeptRootLemmas.{match_leaves}

-- each element of each mapping is so
abbrev pub HaveEach : (SymbolicElement → Type 0) → List SymbolicMapping → Type 0
HaveEach P = AllByRecursion (λ (m : SymbolicMapping). AllByRecursion P m.elements)

module _ (P : SymbolicElement → Type 0) where
  abbrev Each : List SymbolicElement → Type 0
  Each = AllByRecursion P

  abbrev Have : List SymbolicMapping → Type 0
  Have = HaveEach P

  abbrev HasEach : Option SymbolicMapping → Type 0
  HasEach None = Unit {0}
  HasEach (Some m) = Each m.elements

  pub each_append : (es fs : List SymbolicElement) → Each es → Each fs → Each (es ++ fs)
  each_append [] fs p q = q
  each_append (e ∷ es) fs (p, ps) q = (p, each_append es fs ps q)

  pub have_append : (ms ns : List SymbolicMapping) → Have ms → Have ns → Have (ms ++ ns)
  have_append [] ns p q = q
  have_append (m ∷ ms) ns (p, ps) q = (p, have_append ms ns ps q)

  pub have_filter : (test : SymbolicMapping → Bool) (ms : List SymbolicMapping) → Have ms → Have (filter test ms)
  have_filter test [] p = tt
  have_filter test (m ∷ ms) (p, ps) =
      either Have (test m) (m ∷ filter test ms) (filter test ms) (λ _. (p, have_filter test ms ps)) (λ _. have_filter test ms ps)

  pub behind_each : (ms : List SymbolicMapping) (prefixes : List (List ℕ)) → Have ms → Have (mappings_behind ms prefixes)
  unfolding mappings_behind
  behind_each ms [] p = tt
  behind_each ms (prefix ∷ shorter) p =
      let own = filter (stands_after_prefix prefix) ms in
      let own_each = have_filter (stands_after_prefix prefix) ms p in
      let further = mappings_behind ms shorter in
      let not_begun : SymbolicMapping → Bool = λ m. not (begin_suffix own m) in
      either Have (list_any (λ (m : SymbolicMapping). bytes_eq m.suffix []) own) own (own ++ filter not_begun further)
      (λ _. own_each)
      (λ _. have_append own (filter not_begun further) own_each (have_filter not_begun further (behind_each ms shorter p)))

  longer_each : (text : List ℕ) (best : Option SymbolicMapping) (m : SymbolicMapping) → HasEach best → Each m.elements
      → HasEach (longer_mapping text best m)
  longer_each text None m p q = either HasEach (starts_with nat_eq text m.suffix) (Some m) None (λ _. q) (λ _. tt)
  longer_each text (Some best) m p q =
      either HasEach (starts_with nat_eq text m.suffix && nat_lt (length best.suffix) (length m.suffix)) (Some m) (Some best)
      (λ _. q) (λ _. p)

  longest_each : (best : Option SymbolicMapping) (ms : List SymbolicMapping) (text : List ℕ) → HasEach best → Have ms
      → HasEach (longest_suffix best ms text)
  unfolding longest_suffix
  longest_each best [] text p q = p
  longest_each best (m ∷ ms) text p (q, qs) =
      longest_each (longer_mapping text best m) ms text (longer_each text best m p q) qs

  with_each : (ms : List SymbolicMapping) (suffix : List ℕ) → Have ms → HasEach (mapping_with ms suffix)
  with_each [] suffix p = tt
  with_each (m ∷ ms) suffix (p, ps) =
      either HasEach (bytes_eq m.suffix suffix) (Some m) (mapping_with ms suffix) (λ _. p) (λ _. with_each ms suffix ps)

  abbrev GivesEach : SymbolicMatch → Type 0
  GivesEach m = Each m.elements

  found_or : (o : Option SymbolicMapping) (some : SymbolicMapping → SymbolicMatch) (none : SymbolicMatch) → HasEach o
      → ((m : SymbolicMapping) → Each m.elements → GivesEach (some m)) → GivesEach none
      → GivesEach (elim o as (λ _. SymbolicMatch) [ Some m ↦ some m | None ↦ none ])
  found_or (Some m) some none w p q = p m w
  found_or None some none w p q = q

  marks_each : (ms : List SymbolicMapping) (found : SymbolicMapping) (passed text : List ℕ) → Have ms
      → Each found.elements → GivesEach (joined_marks ms found passed text)
  unfolding joined_marks
  marks_each ms found passed [] p q = q
  marks_each ms found passed (m ∷ text) p q =
      let over = marks_each ms found (passed ++ m ∷ []) text p q in
      let ended : SymbolicMatch =
      record { elements = found.elements; suffix = found.suffix; rest = passed ++ m ∷ text } in
      let passed_over = joined_marks ms found (passed ++ m ∷ []) text in
      let tried : SymbolicMatch = elim (mapping_with ms (found.suffix ++ m ∷ [])) [
        | Some longer ↦ joined_marks ms longer passed text
        | None ↦ passed_over
      ] in
      let unblocked : SymbolicMatch = if is_blocked_by passed m then passed_over else tried in
      either GivesEach (is_starter m) ended unblocked (λ _. q)
      (λ _. either GivesEach (is_blocked_by passed m) passed_over tried (λ _. over)
      (λ _. found_or (mapping_with ms (found.suffix ++ m ∷ [])) (λ longer. joined_marks ms longer passed text) passed_over
      (with_each ms (found.suffix ++ m ∷ []) p) (λ longer w. marks_each ms longer passed text p w) over))

  pub match_each : (ms : List SymbolicMapping) (text : List ℕ) → Have ms → GivesEach (match_by ms text)
  match_each ms text p =
      let none : SymbolicMatch = record { elements = []; suffix = []; rest = text } in
      found_or (longest_suffix None ms text) (λ found. joined_marks ms found [] (drop (length found.suffix) text)) none
      (longest_each None ms text tt p) (λ found w. marks_each ms found [] (drop (length found.suffix) text) p w) tt

  pub along_each : (Known : ℕ → Type 0) (along : List ℕ) (mappings : SymbolicMappings) (before text : List ℕ)
      → ((c : ℕ) → Known c → Have (mappings c)) → AllByRecursion Known text → Each (symbolic_along along mappings before text)
  unfolding symbolic_along
  along_each Known along mappings before [] p known = tt
  along_each Known [] mappings before (c ∷ text) p known = tt
  along_each Known (a ∷ along) mappings before (c ∷ text) p (k, ks) =
      let m = symbolic_match mappings before c text in
      let here = mappings_behind (mappings c) (beginnings before) in
      each_append m.elements (symbolic_along along mappings (context_behind before c m) m.rest)
      (match_each here text (behind_each (mappings c) (beginnings before) (p c k)))
      (along_each Known along mappings (context_behind before c m) m.rest p (match_leaves Known here text ks))

  pub symbolic_each : (Known : ℕ → Type 0) (mappings : SymbolicMappings) (text : List ℕ)
      → ((c : ℕ) → Known c → Have (mappings c)) → AllByRecursion Known text → Each (symbolic_elements mappings text)
  symbolic_each Known mappings text p known = along_each Known text mappings [] text p known
