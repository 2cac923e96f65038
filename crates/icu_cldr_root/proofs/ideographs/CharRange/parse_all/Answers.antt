use Rattle.std.specs.Str.Iter.{split_whitespace_rest}
use Rattle.icu_cldr_root.specs.Ranges.{WritesRange}
use Rattle.icu_cldr_root.specs.declared.ideographs.CharRange.{CharRange}
use Rattle.icu_cldr_root.proofs.LineWordLemmas.{write_more, write_end}
use Rattle.icu_cldr_root.proofs.ideographs.CharRange.parse_all.Goals as goal

pub loop-word-preserved : goal.loop-word-preserved
loop-word-preserved c =
    write_more (λ word (r : CharRange). WritesRange word r.first r.last) c.args.text.now
    (split_whitespace_rest c.loop-word.word-iterator) c.in-Some.word.now (split_whitespace_rest c.next.new.self)
    c.loop-word.ranges.items c.push.new.self.items c.in_ok-parse.field-0
    c.in_ok-push.ensures.items c.in-Some.ensures.steps c.in_ok-parse.ensures
    c.loop-word.invariant

pub returns : goal.returns
returns c =
    write_end (λ word (r : CharRange). WritesRange word r.first r.last) c.args.text.now
    (split_whitespace_rest c.loop-word.word-iterator) c.loop-word.ranges.items c.in-None.ensures.steps.1 c.loop-word.invariant
