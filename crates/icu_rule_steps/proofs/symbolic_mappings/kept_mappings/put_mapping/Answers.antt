use Rattle.std.proofs.Common.{◌≡◌, ◌∷◌, List, Bool, not, length, rules, sym, ap, ◌∙◌}
use Rattle.std.proofs.lemmas.List.{length-map}
use Rattle.std.specs.Prelude.{filter}
use Rattle.std.proofs.lemmas.Fn.{filter_same}
use Rattle.icu_rule_meaning.specs.TailoredMappings.{SymbolicMapping, is_mapping_of}
use Rattle.icu_rule_steps.specs.symbolic_mappings.StoredMappings.{symbolic_mapping, symbolic_mappings}
use Rattle.icu_rule_steps.proofs.symbolic_mappings.KeptMappingLemmas.{filter_of_map}
use Rattle.icu_rule_steps.proofs.symbolic_mappings.kept_mappings.put_mapping.Goals as goal

pub returns-clause-mappings : goal.returns-clause-mappings
returns-clause-mappings c =
    let stays : SymbolicMapping → Bool = λ m. not (is_mapping_of c.args.new.prefix.items c.args.new.suffix.items m) in
    let kept : c.retain.new.self.items ≡ filter (λ m. stays (symbolic_mapping m)) c.args.mappings.now.items =
    filter_same _ (λ m. stays (symbolic_mapping m)) _ (λ x b f' k. search rules) _ _ c.retain.ensures.filtered in
    let put : c.insert.new.self.items ≡ c.args.new ∷ c.retain.new.self.items = c.in_ok-insert.ensures.items in
    ap symbolic_mappings (put ∙ ap (λ ms. c.args.new ∷ ms) kept)
    ∙ ap (λ (ms : List SymbolicMapping). symbolic_mapping c.args.new ∷ ms) (sym (filter_of_map stays symbolic_mapping c.args.mappings.now.items))

pub returns-clause-count : goal.returns-clause-count
returns-clause-count c =
    c.len.ensures ∙ c.insert.new.self.ok.0 ∙ sym (length-map c.insert.new.self.items symbolic_mapping) ∙ ap length (returns-clause-mappings c)
