-- Each key is listed.
use Rattle.std.proofs.Common.{◌≡◌, ◌∷◌, ◌++◌, [], true, false, rules, sym, ap, ◌∙◌, arith}
use Rattle.std.proofs.lemmas.Grind.{common_steps}
use Rattle.std.specs.Option.{is_some}
use Rattle.icu_rule_steps.specs.symbolic_mappings.TouchedCharacters.{touched_in}
use Rattle.icu_rule_steps.proofs.symbolic_mappings.TouchedLemmas.{listed_all, listed_one, listed_none, listed_whole}
use Rattle.icu_rule_steps.proofs.symbolic_mappings.kept_mappings.Mappings.touched_characters.Goals as goal

pub loop-c-init : goal.loop-c-init
loop-c-init g c = record {
  mappings = first_of (search rules, grind (arith, common_steps));
  listed = listed_all c.args.self.now c.new-found.result.items c.into_iter-c-iterator.result c.new-found.ensures.items (search rules);
}

pub loop-c-preserved-in-Continue-1 : goal.loop-c-preserved-in-Continue-1
loop-c-preserved-in-Continue-1 g c =
    let begins : c.loop-c.c-iterator ≡ c.in-Some.c.now ∷ c.next.new.self = search rules in
    let there : touched_in c.args.self.now c.in-Some.c.now ≡ true = sym c.touched_character.ensures.found ∙ ap is_some c.in-Some-touched_character.is in
    let pushed : c.push.new.self.items ≡ c.loop-c.found.items ++ c.in-Some-touched_character.touched ∷ [] = search rules in
    record {
      mappings = first_of (search rules, grind (arith, common_steps));
      listed = listed_one c.args.self.now c.loop-c.found.items c.push.new.self.items c.in-Some-touched_character.touched c.in-Some.c.now c.loop-c.c-iterator c.next.new.self pushed
          c.in-Some-touched_character.ensures.character begins there c.loop-c.invariant.listed;
    }

pub loop-c-preserved : goal.loop-c-preserved
loop-c-preserved g c =
    let begins : c.loop-c.c-iterator ≡ c.in-Some.c.now ∷ c.next.new.self = search rules in
    let absent : touched_in c.args.self.now c.in-Some.c.now ≡ false = sym c.touched_character.ensures.found ∙ ap is_some c.in_default.is in
    record {
      mappings = c.loop-c.invariant.mappings;
      listed = listed_none c.args.self.now c.loop-c.found.items c.in-Some.c.now c.loop-c.c-iterator c.next.new.self begins absent c.loop-c.invariant.listed;
    }

pub returns-clause-all : goal.returns-clause-all
returns-clause-all g c =
    let over : c.loop-c.c-iterator ≡ [] = search rules in
    listed_whole c.args.self.now c.loop-c.found.items c.loop-c.c-iterator over c.loop-c.invariant.listed
