use Rattle.std.proofs.Common.{◌≡◌, true, None, not, rules, arith}
use Rattle.std.proofs.lemmas.Bool.{or_right}
use Rattle.icu_element_reading.specs.Reading.{element_tables}
use Rattle.icu_element_reading.specs.TextElements.{begins_with_mark, continues_number, digit_of_char}
use Rattle.icu_element_reading.specs.inner.ReadsAhead.{stops_run, has_run_end}
use Rattle.icu_element_reading.proofs.ReadsAheadLemmas.{ReadsTo-none, ReadsTo-weaker, so_far_found, so_far_all, so_far_more, no_digit_there}
use Rattle.icu_element_reading.proofs.reader.ahead.read_run.Goals as goal

pub loop-c-init : goal.loop-c-init
loop-c-init g c = record {
  can = c.requires;
  reads = ReadsTo-none g.I.Iterator.next_gives _ _ _ tt;
  size = omega arith;
}

pub returns-then-is_none-clause-text : goal.returns-then-is_none-clause-text
returns-then-is_none-clause-text g c =
    let tables = element_tables c.args.tables in
    let none : c.digit.result ≡ None = search rules in
    ReadsTo-weaker g.I.Iterator.next_gives (λ l. stops_run tables l ≡ true) (λ l. has_run_end tables l ≡ true) _ _ _ _ (λ h. or_right (begins_with_mark _) (has_run_end tables _) h)
    (so_far_found g.I.Iterator.next_gives _ _ _ _ _ _ c.loop-c.invariant.reads (λ d. not (continues_number tables d)) 0 _ c.in-Some.c c.in-Some.is c.in_ok-c.ensures.text (omega arith)
    (no_digit_there (continues_number tables c.in-Some.c) c.digit.result (digit_of_char tables c.in-Some.c) c.digit.ensures.value none))

pub loop-c-preserved : goal.loop-c-preserved
loop-c-preserved g c = record {
  can = c.in_ok-c.ensures.ready;
  reads = so_far_more g.I.Iterator.next_gives _ _ _ _ _ _ c.loop-c.invariant.reads _ c.in_ok-c.ensures.text;
  size = omega (arith, c.loop-c.invariant.size, c.in_ok-c.ensures.size);
}

pub returns-clause-text : goal.returns-clause-text
returns-clause-text g c =
    so_far_all g.I.Iterator.next_gives _ _ _ _ _ _ c.loop-c.invariant.reads _ _ c.in_default.is c.in_ok-c.ensures.text
