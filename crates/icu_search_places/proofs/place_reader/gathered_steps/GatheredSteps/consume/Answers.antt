use Rattle.std.proofs.Common.{◌-◌, refl, arith}
use Rattle.icu_search_places.proofs.place_reader.GatheredLemmas.{consumed_ahead, consumed_more}
use Rattle.icu_search_places.proofs.place_reader.gathered_steps.GatheredSteps.consume.Goals as goal

pub returns-then-count-self-clause-read : goal.returns-then-count-self-clause-read
returns-then-count-self-clause-read g c = λ text n h fits.
    let now = c.args.self.now in
    consumed_ahead g.I.Iterator.next_gives now (record now { ahead = now.ahead - c.args.count }) text n c.args.count h c.if-count-self.true refl refl (omega (arith, c.if-count-self.true))

pub returns-clause-read : goal.returns-clause-read
returns-clause-read g c = λ text n h fits.
    let now = c.args.self.now in
    let mid = c.read_past.new.self in
    let past = c.in_ok-more.ensures.past text h.unread h.read (omega (arith, fits, h.ahead_is, c.if-count-self.false)) in
    consumed_more g.I.Iterator.next_gives now (record mid { ahead = c.in_ok-more.more }) text n c.args.count mid (c.args.count - now.ahead) h
    (omega (arith, c.if-count-self.false)) fits past refl refl
