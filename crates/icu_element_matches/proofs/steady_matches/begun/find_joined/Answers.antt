use Rattle.std.proofs.Common.{◌≡◌, ◌+◌, ◌-◌, ◌∷◌, ◌++◌, [], true, false, ℕ, List, subst, bytes_eq, rules, arith}
use Rattle.icu_table_data.specs.StoredData.{found_context, found_mapping}
use Rattle.icu_table_data.specs.Data.{Mapping}
use Rattle.icu_element_matches.specs.inner.Mappings.{SplitsMappings}
use Rattle.icu_element_matches.proofs.CharacterOrderLemmas.{same_lists}
use Rattle.icu_element_matches.proofs.MappingLemmas.{entry_none, entry_found, entry_none_there}
use Rattle.icu_element_matches.proofs.steady_matches.begun.find_joined.Goals as goal

pub returns-then-count-eq0-clause-entry : goal.returns-then-count-eq0-clause-entry
returns-then-count-eq0-clause-entry c =
    let mappings : List Mapping = (found_context c.args.context).mappings in
    let wanted : List ℕ = c.args.front.now ++ c.args.last ∷ [] in
    let split : SplitsMappings mappings wanted 0 = subst (λ n. SplitsMappings mappings wanted n) c.if-count-eq0.true c.mappings_up_to-count.ensures in
    entry_none mappings wanted split

pub returns-then-is_joined-clause-entry : goal.returns-then-is_joined-clause-entry
returns-then-is_joined-clause-entry c =
    let mappings : List Mapping = (found_context c.args.context).mappings in
    let wanted : List ℕ = c.args.front.now ++ c.args.last ∷ [] in
    let count : ℕ = c.mappings_up_to-count.result in
    let next : count - 1 + 1 ≡ count = omega (arith, c.if-count-eq0.false) in
    let same : bytes_eq (found_mapping c.mapping-mapping.result).chars wanted ≡ true = search rules in
    entry_found mappings wanted c.requires count c.mappings_up_to-count.ensures (count - 1) next (found_mapping c.mapping-mapping.result) c.mapping-mapping.ensures same

pub returns-then-is_joined-clause-chars : goal.returns-then-is_joined-clause-chars
returns-then-is_joined-clause-chars c =
    let wanted : List ℕ = c.args.front.now ++ c.args.last ∷ [] in
    let same : bytes_eq (found_mapping c.mapping-mapping.result).chars wanted ≡ true = search rules in
    same_lists (found_mapping c.mapping-mapping.result).chars wanted same

pub returns-else-is_joined-clause-entry : goal.returns-else-is_joined-clause-entry
returns-else-is_joined-clause-entry c =
    let mappings : List Mapping = (found_context c.args.context).mappings in
    let wanted : List ℕ = c.args.front.now ++ c.args.last ∷ [] in
    let count : ℕ = c.mappings_up_to-count.result in
    let next : count - 1 + 1 ≡ count = omega (arith, c.if-count-eq0.false) in
    let differs : bytes_eq (found_mapping c.mapping-mapping.result).chars wanted ≡ false = search rules in
    entry_none_there mappings wanted c.requires count c.mappings_up_to-count.ensures (count - 1) next (found_mapping c.mapping-mapping.result) c.mapping-mapping.ensures differs
