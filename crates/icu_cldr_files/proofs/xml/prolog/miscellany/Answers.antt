use Rattle.std.proofs.Common.{rules}
use Rattle.icu_cldr_files.proofs.xml.ContentLemmas.{space_first, comment_more}
use Rattle.icu_cldr_files.proofs.xml.prolog.miscellany.Goals as goal

pub reading-init : goal.reading-init
reading-init c = record {
  spelled = (c.run.result.0.now, c.run.ensures.whole, space_first c.run.result.0.now c.run.ensures.each);
  utf8 = search rules;
}

pub reading-preserved : goal.reading-preserved
reading-preserved c = record {
  spelled = comment_more c.args.text.now c.reading.rest.now c.in-Some.body.now c.in_ok-next.next.now c.run-in-Some.result.0.now c.run-in-Some.result.1.now
      c.reading.invariant.spelled c.in-Some.ensures c.in_ok-next.ensures.comment c.run-in-Some.ensures.whole c.run-in-Some.ensures.each;
  utf8 = search rules;
}
