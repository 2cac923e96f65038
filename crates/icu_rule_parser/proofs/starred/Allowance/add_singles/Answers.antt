use Rattle.std.proofs.Common.{ap, ◌∙◌}
use Rattle.icu_rule_parser.specs.Statements.{single}
use Rattle.icu_rule_parser.proofs.StarredLemmas.{singles_step, singles_done, inert_push}
use Rattle.icu_rule_parser.proofs.starred.Allowance.add_singles.Goals as goal

pub loop-c-preserved : goal.loop-c-preserved
loop-c-preserved c = record {
  ranges = singles_step _ _ _ c.args.characters.now c.loop-c.c-index c.c-item.result c.in_ok-range.range c.loop-c-test.true
      (c.in_ok-range.ensures.range ∙ ap single c.c-item.is)
      c.in_ok-push.ensures.items c.loop-c.invariant.ranges;
  inert = λ all. inert_push _ _ c.in_ok-range.range c.in_ok-push.ensures.items c.in_ok-range.ensures.inert
      (c.loop-c.invariant.inert all);
}

pub returns-clause-ranges : goal.returns-clause-ranges
returns-clause-ranges c =
    singles_done _ _ c.args.characters.now c.loop-c.c-index c.loop-c-test.false c.loop-c.auto.c-index-end
    c.loop-c.invariant.ranges
