use Rattle.std.proofs.Common.{◌≡◌, ◌≤◌, ◌∷◌, ◌++◌, [], true, false, ℕ, List, length, rules}
use Rattle.std.specs.Prelude.{nat_eq}
use Rattle.std.specs.List.{starts_with}
use Rattle.icu_table_data.specs.StoredData.{found_context, found_mapping}
use Rattle.icu_table_data.specs.Data.{Mapping}
use Rattle.icu_element_matches.proofs.DecidedLemmas.{none_after, next_decides}
use Rattle.icu_element_matches.proofs.steady_matches.BegunLemmas.{begun_take}
use Rattle.icu_element_matches.proofs.steady_matches.begun.find_longer.Goals as goal

pub returns-then-next-len-clause-none : goal.returns-then-next-len-clause-none
returns-then-next-len-clause-none c =
    let mappings : List Mapping = (found_context c.args.context).mappings in
    let all : length mappings ≤ c.mappings_up_to-next.result = search rules in
    λ _. none_after mappings (c.args.front.now ++ c.args.last ∷ []) c.requires c.mappings_up_to-next.result c.mappings_up_to-next.ensures all

pub returns-then-begins_with-clause-some : goal.returns-then-begins_with-clause-some
returns-then-begins_with-clause-some c =
    let begins : starts_with nat_eq (found_mapping c.mapping.result).chars (c.args.front.now ++ c.args.last ∷ []) ≡ true = search rules in
    begun_take (found_mapping c.mapping.result).chars c.args.front.now c.args.last begins

pub returns-else-begins_with-clause-none : goal.returns-else-begins_with-clause-none
returns-else-begins_with-clause-none c =
    let mappings : List Mapping = (found_context c.args.context).mappings in
    let wanted : List ℕ = c.args.front.now ++ c.args.last ∷ [] in
    let next : Mapping = found_mapping c.mapping.result in
    let differs : starts_with nat_eq next.chars wanted ≡ false = search rules in
    λ _. next_decides mappings wanted c.requires c.mappings_up_to-next.result c.mappings_up_to-next.ensures next c.mapping.ensures differs
