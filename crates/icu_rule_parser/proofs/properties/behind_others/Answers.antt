use Rattle.std.proofs.Common.{rules}
use Rattle.icu_rule_parser.proofs.BracketLemmas.{others_more}
use Rattle.icu_rule_parser.proofs.properties.behind_others.Goals as goal

pub loop-c-preserved : goal.loop-c-preserved
loop-c-preserved c = record {
  others = λ r s. c.loop-c.invariant.others r (others_more c.args.sign c.in-Some.ensures (search rules) s);
  len = search rules;
}
