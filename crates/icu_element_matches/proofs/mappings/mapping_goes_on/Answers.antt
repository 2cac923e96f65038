use Rattle.std.proofs.Common.{◌≡◌, ◌≤◌, not, ℕ, List, length, sym, ap, ◌∙◌, rules, inl, inr}
use Rattle.std.specs.Prelude.{nat_eq}
use Rattle.std.specs.List.{starts_with}
use Rattle.std.proofs.lemmas.Bool.{cases_Bool}
use Rattle.icu_table_data.specs.StoredData.{found_context, found_mapping}
use Rattle.icu_table_data.specs.Data.{Mapping}
use Rattle.icu_element_matches.proofs.DecidedLemmas.{none_after, next_goes_on, next_decides}
use Rattle.icu_element_matches.proofs.mappings.mapping_goes_on.Goals as goal

pub returns-then-next-len : goal.returns-then-next-len
returns-then-next-len c =
    let mappings : List Mapping = (found_context c.args.context).mappings in
    let all : length mappings ≤ c.mappings_up_to-next.result = search rules in
    sym (ap not (none_after mappings c.args.text.now c.requires c.mappings_up_to-next.result c.mappings_up_to-next.ensures all))

pub returns : goal.returns
returns c =
    let mappings : List Mapping = (found_context c.args.context).mappings in
    let text : List ℕ = c.args.text.now in
    let count : ℕ = c.mappings_up_to-next.result in
    let next : Mapping = found_mapping c.mapping.result in
    let is : c.starts_with.result ≡ starts_with nat_eq next.chars text = search rules in
    elim (cases_Bool (starts_with nat_eq next.chars text)) [
      | inl begins ↦ is ∙ begins ∙ sym (ap not (next_goes_on mappings text c.requires count c.mappings_up_to-next.ensures next c.mapping.ensures begins))
      | inr differs ↦ is ∙ differs ∙ sym (ap not (next_decides mappings text c.requires count c.mappings_up_to-next.ensures next c.mapping.ensures differs))
    ]
