use Rattle.std.proofs.Common.{◌≡◌, true, rules, arith}
use Rattle.unicode_normalization.specs.Order.{is_starter}
use Rattle.icu_element_reading.proofs.ReadsAheadLemmas.{ReadsTo-none, ReadsTo-longer, so_far_found, so_far_all, so_far_more}
use Rattle.icu_element_reading.proofs.reader.ahead.read_starter.Goals as goal

pub loop-c-init : goal.loop-c-init
loop-c-init g c = record {
  can = c.requires.can;
  inside = c.requires.inside;
  reads = ReadsTo-none g.I.Iterator.next_gives _ _ _ tt;
  size = omega arith;
}

pub returns-then-canonical_combining_class-eq0-clause-text : goal.returns-then-canonical_combining_class-eq0-clause-text
returns-then-canonical_combining_class-eq0-clause-text g c =
    let starter : is_starter c.in-Some.c ≡ true = search rules in
    so_far_found g.I.Iterator.next_gives _ _ _ _ _ _ c.loop-c.invariant.reads is_starter c.args.from _ c.in-Some.c c.in-Some.is c.in_ok-c.ensures.text c.loop-c.invariant.inside starter

pub loop-c-preserved : goal.loop-c-preserved
loop-c-preserved g c = record {
  can = c.in_ok-c.ensures.ready;
  inside = omega (arith, c.loop-c.invariant.inside, ReadsTo-longer g.I.Iterator.next_gives _ _ _ _ _ c.in_ok-c.ensures.text.0);
  reads = so_far_more g.I.Iterator.next_gives _ _ _ _ _ _ c.loop-c.invariant.reads _ c.in_ok-c.ensures.text;
  size = omega (arith, c.loop-c.invariant.size, c.in_ok-c.ensures.size);
}

pub returns-clause-text : goal.returns-clause-text
returns-clause-text g c =
    so_far_all g.I.Iterator.next_gives _ _ _ _ _ _ c.loop-c.invariant.reads _ _ c.in_default.is c.in_ok-c.ensures.text
