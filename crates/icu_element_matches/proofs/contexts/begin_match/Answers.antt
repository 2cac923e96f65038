use Rattle.std.proofs.Common.{◌≡◌, [], ℕ, List, None, Some, drop, length, sym, ap₂, ◌∙◌, rules}
use Rattle.icu_table_data.specs.Data.{Mapping, longest_mapping}
use Rattle.icu_table_data.specs.StoredData.{found_context, found_mapping}
use Rattle.icu_element_matches.specs.Matches.{with_marks}
use Rattle.icu_element_matches.specs.Texts.{still_unread}
use Rattle.icu_element_matches.proofs.DecidedFrontLemmas.{longest_by_front}
use Rattle.icu_element_matches.proofs.ReadAheadLemmas.{contracted_by}
use Rattle.icu_element_matches.proofs.contexts.begin_match.Goals as goal

pub returns-in-Some : goal.returns-in-Some
returns-in-Some c =
    let context = found_context c.args.context in
    let mappings : List Mapping = context.mappings in
    let text : List ℕ = still_unread c.args.text.now in
    let front : List ℕ = c.in_ok-front.front.items in
    let mapping : Mapping = found_mapping c.mapping-mapping.result in
    let here : longest_mapping mappings front ≡ Some mapping = search rules in
    let suffix : c.in_ok-suffix-in-Some.suffix.items ≡ mapping.chars = search rules in
    let left : still_unread c.skip.new.self ≡ drop (length mapping.chars) text = search rules in
    ap₂ (λ (s t : List ℕ). with_marks mappings mapping.entry s [] t) suffix left
    ∙ sym (contracted_by context text (Some mapping) (longest_by_front mappings text front c.in_ok-front.ensures ∙ here))

pub returns : goal.returns
returns c =
    let context = found_context c.args.context in
    let mappings : List Mapping = context.mappings in
    let text : List ℕ = still_unread c.args.text.now in
    let front : List ℕ = c.in_ok-front.front.items in
    let here : longest_mapping mappings front ≡ None = search rules in
    ap₂ (λ (e : ℕ) (s : List ℕ). with_marks mappings e s [] text) c.default.ensures c.new.ensures.items
    ∙ sym (contracted_by context text None (longest_by_front mappings text front c.in_ok-front.ensures ∙ here))
