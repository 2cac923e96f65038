use Rattle.std.proofs.Common.{◌≡◌, ◌≤◌, ◌+◌, ◌∷◌, ◌++◌, Some, None, ℕ, List, length, drop, ap, ap₂, sym, ◌∙◌, rules}
use Rattle.std.specs.Prelude.{slice_get}
use Rattle.std.proofs.lemmas.List.{take-append-drop, take_all}
use Rattle.icu_table_data.specs.Data.{Mapping, longest_mapping}
use Rattle.icu_table_data.specs.StoredData.{found_context}
use Rattle.icu_element_matches.proofs.MarkLemmas.{here, nothing_there}
use Rattle.icu_element_matches.proofs.steady_matches.LongestLemmas.{longest_of_met}
use Rattle.icu_element_matches.proofs.steady_matches.longest_met.longest_met.Goals as goal

pub returns-in-None-clause-longest : goal.returns-in-None-clause-longest
returns-in-None-clause-longest g c =
    let mappings : List Mapping = (found_context c.args.context).mappings in
    let l = c.passing in
    let text : List ℕ = g.X.TextForMatches.unread l.text in
    let passed : ℕ = g.X.TextForMatches.passed l.text in
    let char : ℕ = c.in-Some.c in
    let is : slice_get text passed ≡ Some char = search rules in
    let whole : text ≡ l.met.now ++ char ∷ drop (passed + 1) text =
    sym (take-append-drop passed text) ∙ ap₂ (λ (a b : List ℕ). a ++ b) (sym l.invariant.met) (here text passed char is) in
    ap (longest_mapping mappings) (sym l.invariant.unread ∙ whole) ∙ longest_of_met mappings l.met.now char (drop (passed + 1) text) (c.find_begun.ensures.no_longer c.in-None.is) (c.find_begun.ensures.none c.in-None.is)

pub returns-clause-longest : goal.returns-clause-longest
returns-clause-longest g c =
    let mappings : List Mapping = (found_context c.args.context).mappings in
    let l = c.passing in
    let text : List ℕ = g.X.TextForMatches.unread l.text in
    let passed : ℕ = g.X.TextForMatches.passed l.text in
    let none : slice_get text passed ≡ None = search rules in
    let past : length text ≤ passed = nothing_there text passed none in
    ap (longest_mapping mappings) (sym l.invariant.unread ∙ (sym (take_all passed text past) ∙ sym l.invariant.met))
