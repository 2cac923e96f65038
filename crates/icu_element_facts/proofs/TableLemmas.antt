-- Characters in order, one by one.
use Rattle.std.proofs.Common.{◌≡◌, ℕ, ◌+◌, ◌<◌, List, [], ◌∷◌, ◌++◌, length, slice_index_or, subst, sym, arith, inl, inr, length-append}
use Rattle.std.proofs.lemmas.Bool.{cases_eq}
use Rattle.std.proofs.lemmas.List.{get_or_push, get_or_append_left}
use Rattle.icu_element_reading.specs.TextElements.{Reading}
use Rattle.icu_element_facts.specs.KeptChars.{KeptChar, AreFactsFrom}
use Rattle.icu_element_facts.specs.declared.char_facts.CharFacts.{CharFacts}

-- one more comes after those there are
pub facts_more : (reading : Reading) (first code : ℕ) (kept_facts : List CharFacts) (facts : CharFacts) → first + length kept_facts ≡ code → AreFactsFrom reading first kept_facts → KeptChar reading code facts → AreFactsFrom reading first (kept_facts ++ facts ∷ [])
facts_more reading first code kept_facts facts at are is = λ k other below.
    elim (cases_eq k (length kept_facts)) [
      | inl last ↦
          let here : slice_index_or (kept_facts ++ facts ∷ []) k other ≡ facts = get_or_push kept_facts facts other k (sym last) in
          let place : code ≡ first + k = omega arith in
          subst (λ (l : CharFacts). KeptChar reading (first + k) l) (sym here) (subst (λ (c : ℕ). KeptChar reading c facts) place is)
      | inr before ↦
          let inside : k < length kept_facts = omega (arith, length-append kept_facts (facts ∷ [])) in
          let here : slice_index_or (kept_facts ++ facts ∷ []) k other ≡ slice_index_or kept_facts k other = get_or_append_left kept_facts (facts ∷ []) other k inside in
          subst (λ (l : CharFacts). KeptChar reading (first + k) l) (sym here) (are k other inside)
    ]
