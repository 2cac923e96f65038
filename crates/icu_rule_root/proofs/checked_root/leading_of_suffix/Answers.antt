-- What is left of the mappings decides.
use Rattle.std.proofs.Common.{map, sym, ap, ◌∙◌}
use Rattle.std.proofs.lemmas.List.{drop_all}
use Rattle.icu_table_entries.specs.Elements.{Element}
use Rattle.icu_rule_steps.specs.declared.symbolic_mappings.character_mapping.CharacterMapping.{CharacterMapping}
use Rattle.icu_rule_steps.specs.symbolic_mappings.StoredMappings.{root_mapping}
use Rattle.icu_rule_root.specs.CheckedRoots.{elements_of_suffix, has_suffix_alone, leading_or, leading_primary}
use Rattle.icu_rule_root.proofs.WindowLemmas.{suffix_found, suffix_missed, suffix_none}
use Rattle.icu_rule_root.proofs.checked_root.leading_of_suffix.Goals as goal

pub returns-then-has_suffix_alone : goal.returns-then-has_suffix_alone
returns-then-has_suffix_alone c =
    let suffix = c.args.suffix.now in
    let item = c.mapping-item.result in
    let passes = ap (λ (m : CharacterMapping Element). has_suffix_alone suffix (root_mapping m)) (sym c.mapping-item.is) ∙ sym c.has_suffix_alone.ensures ∙ c.if-has_suffix_alone.true in
    c.leading_primary.ensures ∙ ap leading_primary c.as_slice.ensures.value ∙ ap (λ (m : CharacterMapping Element). leading_primary m.elements.items) c.mapping-item.is
    ∙ ap (leading_or c.args.other) (sym (suffix_found suffix c.args.mappings.now c.loop-mapping.mapping-index item c.loop-mapping-test.true passes) ∙ c.loop-mapping.invariant)

pub loop-mapping-preserved : goal.loop-mapping-preserved
loop-mapping-preserved c =
    let suffix = c.args.suffix.now in
    let item = c.mapping-item.result in
    let fails = ap (λ (m : CharacterMapping Element). has_suffix_alone suffix (root_mapping m)) (sym c.mapping-item.is) ∙ sym c.has_suffix_alone.ensures ∙ c.if-has_suffix_alone.false in
    suffix_missed suffix c.args.mappings.now c.loop-mapping.mapping-index item c.loop-mapping-test.true fails ∙ c.loop-mapping.invariant

pub returns : goal.returns
returns c =
    let suffix = c.args.suffix.now in
    ap (leading_or c.args.other)
    (sym (suffix_none suffix) ∙ ap (λ xs. elements_of_suffix suffix (map root_mapping xs)) (sym (drop_all c.loop-mapping.mapping-index c.args.mappings.now c.loop-mapping-test.false)) ∙ c.loop-mapping.invariant)
