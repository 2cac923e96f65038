use Rattle.std.proofs.Common.{◌≡◌}
use Rattle.std.specs.List.{All}
use Rattle.icu_rule_steps.specs.declared.symbolic_mappings.character_mapping.TouchedCharacter.{TouchedCharacter}
use Rattle.icu_rule_steps.specs.symbolic_mappings.KeptMappings.{mappings_in}
use Rattle.icu_rule_steps.specs.symbolic_mappings.StoredMappings.{symbolic_mappings}
use Rattle.icu_rule_steps.proofs.symbolic_mappings.TouchedLemmas.{IsListedTo}
use Rattle.icu_rule_steps.proofs.symbolic_mappings.kept_mappings.Mappings.touched_characters.Given as goal

-- all found so far have their mappings, and with those to come they are all that were touched
abbrev pub invariant-loop-c : goal.invariant-loop-c
invariant-loop-c g l = record {
  mappings : All (λ (t : TouchedCharacter). mappings_in g.R.RootMappings.mappings_of l.self t.character ≡ symbolic_mappings t.mappings.now) l.found.items;
  listed : IsListedTo l.self l.found.items l.c-iterator;
}
