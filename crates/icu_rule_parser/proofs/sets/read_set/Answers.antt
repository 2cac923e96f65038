use Rattle.std.proofs.Common.{rules, subst, sym}
use Rattle.icu_rule_parser.specs.declared.open_sets.OpenSet.{OpenSet}
use Rattle.std.proofs.Common.{List}
use Rattle.icu_rule_parser.specs.declared.open_sets.TakenPart.{TakenPart}
use Rattle.icu_rule_parser.specs.TakenText.{TakesParts, LeadsTo}
use Rattle.icu_rule_parser.proofs.BracketLemmas.{parts_none, parts_step, parts_end}
use Rattle.icu_rule_parser.proofs.sets.read_set.Goals as goal

pub loop-rest-init : goal.loop-rest-init
loop-rest-init c = record {
  taken = subst (λ (sets : List OpenSet). TakesParts c.args.text.now sets c.args.text.now) (sym c.new-sets.ensures.items) (parts_none c.args.text.now);
  len = search rules;
}

pub loop-rest-preserved : goal.loop-rest-preserved
loop-rest-preserved c = record {
  taken = parts_step c.loop-rest.sets.items c.take_part.new.sets.items c.in_ok-part.part c.loop-rest.invariant.taken
      c.in_ok-part.ensures.taken c.skip_white-rest.ensures.skips
      (subst (λ (t : TakenPart). LeadsTo c.in_ok-part.part c.loop-rest.sets.items c.take_part.new.sets.items t) c.in-GoesOn.is c.in_ok-take_part.ensures);
  len = search rules;
}

pub returns-in-Ends-clause-taken : goal.returns-in-Ends-clause-taken
returns-in-Ends-clause-taken c =
    parts_end c.loop-rest.sets.items c.take_part.new.sets.items c.in_ok-part.part c.in-Ends.ranges c.loop-rest.invariant.taken
    c.in_ok-part.ensures.taken c.skip_white-rest.ensures.skips
    (subst (λ (t : TakenPart). LeadsTo c.in_ok-part.part c.loop-rest.sets.items c.take_part.new.sets.items t) c.in-Ends.is c.in_ok-take_part.ensures)
