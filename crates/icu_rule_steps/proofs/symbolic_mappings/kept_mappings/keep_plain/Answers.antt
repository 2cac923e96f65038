use Rattle.std.proofs.Common.{◌≡◌, rules, sym, ap, ◌∙◌}
use Rattle.std.specs.Prelude.{filter}
use Rattle.std.proofs.lemmas.Fn.{filter_same}
use Rattle.icu_rule_meaning.specs.TailoredMappings.{has_no_context}
use Rattle.icu_rule_steps.specs.symbolic_mappings.StoredMappings.{symbolic_mapping, symbolic_mappings}
use Rattle.icu_rule_steps.proofs.symbolic_mappings.KeptMappingLemmas.{filter_of_map}
use Rattle.icu_rule_steps.proofs.symbolic_mappings.kept_mappings.keep_plain.Goals as goal

pub returns : goal.returns
returns c =
    let kept : c.retain.new.self.items ≡ filter (λ m. has_no_context (symbolic_mapping m)) c.args.mappings.now.items =
    filter_same _ (λ m. has_no_context (symbolic_mapping m)) _ (λ x b f' k. search rules) _ _ c.retain.ensures.filtered in
    ap symbolic_mappings kept ∙ sym (filter_of_map has_no_context symbolic_mapping c.args.mappings.now.items)
