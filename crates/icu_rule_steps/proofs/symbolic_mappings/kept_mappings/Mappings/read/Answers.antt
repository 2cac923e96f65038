use Rattle.std.proofs.Common.{◌≡◌, Some, None, rules, sym, ap, ◌∙◌}
use Rattle.std.specs.Ordering.{nat_cmp}
use Rattle.std.specs.BTreeMap.{get}
use Rattle.icu_rule_steps.specs.symbolic_mappings.StoredMappings.{symbolic_mappings}
use Rattle.icu_rule_steps.specs.symbolic_mappings.KeptMappings.{mappings_in, untouched_mappings}
use Rattle.icu_rule_steps.proofs.symbolic_mappings.KeptMappingLemmas.{own_there, own_absent}
use Rattle.icu_rule_steps.proofs.symbolic_mappings.kept_mappings.Mappings.read.Goals as goal

pub returns-in-Some : goal.returns-in-Some
returns-in-Some g c =
    let held = c.args.self.now in
    let root = g.R.RootMappings.mappings_of in
    let there : get nat_cmp held.touched c.args.c ≡ Some c.in-Some.own.now = search rules in
    let is : mappings_in root held c.args.c ≡ symbolic_mappings c.as_slice.result.now =
    own_there root held c.args.c c.in-Some.own.now there ∙ ap symbolic_mappings (sym c.as_slice.ensures.value) in
    record { read = rw is c.read_character.ensures.read; run = c.read_character.ensures.run }

pub returns-in_ok-own-in-None : goal.returns-in_ok-own-in-None
returns-in_ok-own-in-None g c =
    let held = c.args.self.now in
    let root = g.R.RootMappings.mappings_of in
    let absent : get nat_cmp held.touched c.args.c ≡ None = search rules in
    let made : symbolic_mappings c.in_ok-own-in-None.own.items ≡ untouched_mappings root held c.args.c = c.in_ok-own-in-None.ensures in
    let is : mappings_in root held c.args.c ≡ symbolic_mappings c.as_slice-in-None.result.now =
    own_absent root held c.args.c absent ∙ sym made ∙ ap symbolic_mappings (sym c.as_slice-in-None.ensures.value) in
    record { read = rw is c.read_character-in-None.ensures.read; run = c.read_character-in-None.ensures.run }
