use Rattle.std.proofs.Common.{rules}
use Rattle.icu_rule_parser.proofs.SkipLemmas.{white_more}
use Rattle.icu_rule_parser.proofs.blanks.skip_white.Goals as goal

pub loop-c-preserved : goal.loop-c-preserved
loop-c-preserved c = record {
  skips = λ r s. c.loop-c.invariant.skips r (white_more c.in-Some.ensures (search rules) s);
  len = search rules;
}
