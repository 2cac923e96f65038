use Rattle.std.proofs.Common.{◌≡◌, ◌+◌, ◌-◌, true, false, ℕ, List, subst, sym, bytes_eq, rules, arith}
use Rattle.icu_table_data.specs.StoredData.{found_context, found_mapping}
use Rattle.icu_table_data.specs.Data.{Mapping}
use Rattle.icu_element_matches.specs.inner.Mappings.{SplitsMappings}
use Rattle.icu_element_matches.proofs.MappingLemmas.{entry_none, entry_found, entry_none_there}
use Rattle.icu_element_matches.proofs.mappings.find_mapping.Goals as goal

pub returns-then-count-eq0 : goal.returns-then-count-eq0
returns-then-count-eq0 c =
    let mappings : List Mapping = (found_context c.args.context).mappings in
    let split : SplitsMappings mappings c.args.wanted.now 0 = subst (λ n. SplitsMappings mappings c.args.wanted.now n) c.if-count-eq0.true c.mappings_up_to-count.ensures in
    sym (entry_none mappings c.args.wanted.now split)

pub returns-then-eq : goal.returns-then-eq
returns-then-eq c =
    let mappings : List Mapping = (found_context c.args.context).mappings in
    let wanted : List ℕ = c.args.wanted.now in
    let count : ℕ = c.mappings_up_to-count.result in
    let next : count - 1 + 1 ≡ count = omega (arith, c.if-count-eq0.false) in
    let same : bytes_eq (found_mapping c.mapping-mapping.result).chars wanted ≡ true = search rules in
    sym (entry_found mappings wanted c.requires count c.mappings_up_to-count.ensures (count - 1) next (found_mapping c.mapping-mapping.result) c.mapping-mapping.ensures same)

pub returns-else-eq : goal.returns-else-eq
returns-else-eq c =
    let mappings : List Mapping = (found_context c.args.context).mappings in
    let wanted : List ℕ = c.args.wanted.now in
    let count : ℕ = c.mappings_up_to-count.result in
    let next : count - 1 + 1 ≡ count = omega (arith, c.if-count-eq0.false) in
    let differs : bytes_eq (found_mapping c.mapping-mapping.result).chars wanted ≡ false = search rules in
    sym (entry_none_there mappings wanted c.requires count c.mappings_up_to-count.ensures (count - 1) next (found_mapping c.mapping-mapping.result) c.mapping-mapping.ensures differs)
