-- The next line is appended, if it is wanted, and one less is left then.
use Rattle.std.proofs.Common.{map, rules}
use Rattle.icu_search.specs.Searchers.{search_of}
use Rattle.line_searches.proofs.WantedLineLemmas.{next_appended, next_counted}
use Rattle.line_searches.proofs.wanted_lines.wanted_text.Goals as goal

pub loop-line-preserved : goal.loop-line-preserved
loop-line-preserved c =
    let s = map search_of c.args.searchers.now in
    let lines = c.as_slice-line-items.result.now in
    record {
      few = search rules;
      whole =
          next_appended c.args.request s lines c.loop-line.line-index _ c.loop-line-test.true c.loop-line.text.items c.push_if_left.new.text.items _
          c.loop-line.left c.in_ok-left.left c.loop-line.spot c.spot_after-spot.result c.in_ok-left.ensures.text c.in_ok-left.ensures.left c.spot_after-spot.ensures
          c.loop-line.invariant.whole;
      counted =
          next_counted c.args.request s lines c.loop-line.line-index _ c.loop-line-test.true c.loop-line.left c.in_ok-left.left _
          c.in_ok-left.ensures.left c.loop-line.invariant.counted;
    }
