use Rattle.std.proofs.Common.{◌≡◌, ◌+◌, ◌-◌, ◌<◌, true, false, ℕ, List, length, ap, subst, sym, ◌∙◌, rules, arith}
use Rattle.std.specs.Prelude.{nat_eq}
use Rattle.std.specs.List.{starts_with}
use Rattle.icu_table_data.specs.StoredData.{found_context, found_mapping}
use Rattle.icu_table_data.specs.Contexts.{is_before}
use Rattle.icu_table_data.specs.Data.{Mapping, longest_mapping}
use Rattle.icu_element_matches.specs.inner.Mappings.{SplitsMappings}
use Rattle.icu_element_matches.proofs.CharacterOrderLemmas.{common_shorter}
use Rattle.icu_element_matches.proofs.MappingLemmas.{longest_none, longest_found, longest_cut}
use Rattle.icu_element_matches.proofs.mappings.find_longest.Goals as goal

pub returns-then-count-eq0-clause-value : goal.returns-then-count-eq0-clause-value
returns-then-count-eq0-clause-value c =
    let mappings : List Mapping = (found_context c.args.context).mappings in
    let split : SplitsMappings mappings c.cutting.cut.now 0 = subst (λ n. SplitsMappings mappings c.cutting.cut.now n) c.if-count-eq0.true c.mappings_up_to-count.ensures in
    c.cutting.invariant ∙ longest_none mappings c.cutting.cut.now split

pub returns-then-starts_with-clause-value : goal.returns-then-starts_with-clause-value
returns-then-starts_with-clause-value c =
    let mappings : List Mapping = (found_context c.args.context).mappings in
    let text : List ℕ = c.cutting.cut.now in
    let count : ℕ = c.mappings_up_to-count.result in
    let next : count - 1 + 1 ≡ count = omega (arith, c.if-count-eq0.false) in
    let begins : starts_with nat_eq text (found_mapping c.mapping-mapping.result).chars ≡ true = search rules in
    c.cutting.invariant
    ∙ longest_found mappings text c.requires count c.mappings_up_to-count.ensures (count - 1) next (found_mapping c.mapping-mapping.result) c.mapping-mapping.ensures begins
    ∙ sym c.mapping-mapping.ensures

pub cutting-smaller : goal.cutting-smaller
cutting-smaller c =
    let mappings : List Mapping = (found_context c.args.context).mappings in
    let text : List ℕ = c.cutting.cut.now in
    let count : ℕ = c.mappings_up_to-count.result in
    let next : count - 1 + 1 ≡ count = omega (arith, c.if-count-eq0.false) in
    let mapping : Mapping = found_mapping c.mapping-mapping.result in
    let not_after : is_before text mapping.chars ≡ false = c.mappings_up_to-count.ensures.last (count - 1) mapping next c.mapping-mapping.ensures in
    let begins_not : starts_with nat_eq text mapping.chars ≡ false = search rules in
    subst (λ (l : List ℕ). length l < length text) (sym c.common_len.ensures.common) (common_shorter mapping.chars text not_after begins_not)

pub cutting-preserved : goal.cutting-preserved
cutting-preserved c =
    let mappings : List Mapping = (found_context c.args.context).mappings in
    let text : List ℕ = c.cutting.cut.now in
    let count : ℕ = c.mappings_up_to-count.result in
    let next : count - 1 + 1 ≡ count = omega (arith, c.if-count-eq0.false) in
    c.cutting.invariant
    ∙ longest_cut mappings text c.requires count c.mappings_up_to-count.ensures (count - 1) next (found_mapping c.mapping-mapping.result) c.mapping-mapping.ensures
    ∙ ap (longest_mapping mappings) (sym c.common_len.ensures.common)
