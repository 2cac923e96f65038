use Rattle.std.proofs.Common.{◌≡◌, [], true, ap, refl, ◌∙◌, rules, arith}
use Rattle.icu_element_reading.specs.inner.HeldChars.{held_before}
use Rattle.icu_element_reading.proofs.DecomposedSourceLemmas.{GivesChar-last, GivesChar-ready, GivesChar-then}
use Rattle.icu_element_reading.proofs.decomposed_source.DecomposedSource.next_held.Goals as goal

pub reading-init : goal.reading-init
reading-init g c = record {
  same = λ cs h. h;
  can = c.requires;
  size = omega arith;
}

pub returns-in_default-clause-gives : goal.returns-in_default-clause-gives
returns-in_default-clause-gives g c =
    GivesChar-then g.I.Iterator.next_gives c.args.self.now c.reading.self
    (record { iter = c.read_char.new.self.iter; is_done = c.read_char.new.self.is_done; held = c.take_ready.new.self })
    c.take_ready.result c.reading.invariant.same
    (GivesChar-last g.I.Iterator.next_gives c.reading.self c.read_char.new.self _ c.settle_marks.new.self c.take_ready.result c.in_default.ensures.reads refl refl
    (c.in_ok-settle_marks.ensures.same ∙ ap (λ h. held_before h []) c.in_default.ensures.held)
    c.in_ok-settle_marks.ensures.ready c.take_ready.ensures.some c.take_ready.ensures.none)

pub returns-clause-gives : goal.returns-clause-gives
returns-clause-gives g c =
    let ready : c.has_ready.result ≡ true = search rules in
    GivesChar-then g.I.Iterator.next_gives c.args.self.now c.reading.self
    (record { iter = c.reading.self.iter; is_done = c.reading.self.is_done; held = c.take_ready-2.new.self })
    c.take_ready-2.result c.reading.invariant.same
    (GivesChar-ready g.I.Iterator.next_gives c.reading.self _ c.take_ready-2.result refl refl (c.has_ready.ensures ready) c.take_ready-2.ensures.some c.take_ready-2.ensures.none)
