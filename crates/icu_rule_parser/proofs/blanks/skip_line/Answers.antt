use Rattle.std.proofs.Common.{rules}
use Rattle.icu_rule_parser.proofs.SkipLemmas.{line_more, line_ends, line_none}
use Rattle.icu_rule_parser.proofs.blanks.skip_line.Goals as goal

pub loop-c-preserved : goal.loop-c-preserved
loop-c-preserved c = record {
  skips = λ r s. c.loop-c.invariant.skips r (line_more c.in-Some.ensures (search rules) s);
  len = search rules;
}

pub returns-then-is_line_end-clause-skips : goal.returns-then-is_line_end-clause-skips
returns-then-is_line_end-clause-skips c =
    c.loop-c.invariant.skips _ (line_ends c.in-Some.ensures (search rules))

pub returns-clause-skips : goal.returns-clause-skips
returns-clause-skips c = c.loop-c.invariant.skips _ (line_none c.in_default.ensures c.in_default.ensures)
