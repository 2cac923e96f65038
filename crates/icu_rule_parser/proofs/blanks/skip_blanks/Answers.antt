use Rattle.std.proofs.Common.{rules, arith, nat_eq, ◌≡◌, false, []}
use Rattle.std.proofs.lemmas.Bool.Decides.{nat_tests}
use Rattle.icu_rule_parser.proofs.SkipLemmas.{takes_nothing, takes_then, takes_white, takes_comment}
use Rattle.icu_rule_parser.proofs.blanks.skip_blanks.Goals as goal

pub loop-c-init : goal.loop-c-init
loop-c-init c = record {
  takes = takes_nothing;
  len = omega arith;
}

pub loop-c-preserved : goal.loop-c-preserved
loop-c-preserved c =
    let other : nat_eq c.in-Some.c 35 ≡ false = grind (arith, nat_tests, c.if-c-eq35.false) in record {
      takes = takes_then [] [] c.loop-c.invariant.takes (takes_white c.in-Some.ensures other (search rules));
      len = search rules;
    }

pub loop-c-preserved-then-c-eq35 : goal.loop-c-preserved-then-c-eq35
loop-c-preserved-then-c-eq35 c = record {
  takes = takes_then [] [] c.loop-c.invariant.takes
      (takes_comment c.in-Some.ensures c.if-c-eq35.true c.skip_line-rest.ensures.skips);
  len = search rules;
}
