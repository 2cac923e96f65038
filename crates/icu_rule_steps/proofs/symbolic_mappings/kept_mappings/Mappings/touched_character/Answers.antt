-- What is kept of the character are its mappings.
use Rattle.std.proofs.Common.{◌≡◌, Some, rules, sym, ap, ◌∙◌}
use Rattle.std.specs.Ordering.{nat_cmp}
use Rattle.std.specs.BTreeMap.{get}
use Rattle.icu_rule_steps.specs.symbolic_mappings.StoredMappings.{symbolic_mappings}
use Rattle.icu_rule_steps.proofs.symbolic_mappings.KeptMappingLemmas.{own_there}
use Rattle.icu_rule_steps.proofs.symbolic_mappings.kept_mappings.Mappings.touched_character.Goals as goal

pub returns-in-Some-clause-mappings : goal.returns-in-Some-clause-mappings
returns-in-Some-clause-mappings g c =
    let held = c.args.self.now in
    let root = g.R.RootMappings.mappings_of in
    let there : get nat_cmp held.touched c.args.c ≡ Some c.in-Some.own.now = search rules in
    own_there root held c.args.c c.in-Some.own.now there ∙ ap symbolic_mappings (sym c.as_slice.ensures.value)
