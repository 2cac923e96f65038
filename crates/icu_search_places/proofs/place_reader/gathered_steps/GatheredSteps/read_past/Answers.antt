use Rattle.std.proofs.Common.{◌≡◌, ◌-◌, ◌∙◌, arith}
use Rattle.icu_search_places.proofs.place_reader.GatheredLemmas.{paid, owes_less}
use Rattle.icu_search_places.proofs.place_reader.gathered_steps.GatheredSteps.read_past.Goals as goal

pub returns-then-still-count-clause-past : goal.returns-then-still-count-clause-past
returns-then-still-count-clause-past g c = λ text n h fits.
    let o = c.steps.invariant.owes text n h fits in
    let stepped = rw c.in-Some.is at (c.in_ok-count.ensures.step text o.unread o.read) in
    paid g.I.Iterator.next_gives c.take_step.new.self text n c.args.owed c.steps.still c.in-Some.count o.unread (c.in-Some.count - (c.steps.still - 1)) o.still_is stepped
    (omega (arith, c.if-still-count.true, c.steps.invariant.some)) c.steps.invariant.some

pub steps-preserved : goal.steps-preserved
steps-preserved g c = record {
  can = c.in_ok-count.ensures.again;
  some = omega (arith, c.if-still-count.false);
  reading = c.take_step.ensures.reading ∙ c.steps.invariant.reading;
  owes = λ text n h fits.
      let o = c.steps.invariant.owes text n h fits in
      let stepped = rw c.in-Some.is at (c.in_ok-count.ensures.step text o.unread o.read) in
      owes_less g.I.Iterator.next_gives c.take_step.new.self text n c.args.owed c.steps.still c.in-Some.count o.unread o.still_is o.fits stepped (omega (arith, c.if-still-count.false));
}

pub returns-clause-past : goal.returns-clause-past
returns-clause-past g c = λ text n h fits.
    let o = c.steps.invariant.owes text n h fits in
    let none : o.unread ≡ 0 = rw c.in_default.is at (c.in_ok-count.ensures.step text o.unread o.read) in
    absurd (omega (arith, none, o.fits, c.steps.invariant.some))
