use Rattle.std.proofs.Common.{rules}
use Rattle.icu_element_reading.proofs.StreamLemmas.{lone_given, only_looked, listed_given, listed}
use Rattle.icu_element_reading.proofs.collation_elements.CollationElements.step_at.Goals as goal

pub returns-then-is_some-clause-gives : goal.returns-then-is_some-clause-gives
returns-then-is_some-clause-gives g c = λ es h.
    lone_given g.I.Iterator.next_gives c.args.self.now.reader.reading c.args.self.now.source c.lone_step.new.source c.args.self.now.reader.position c.lone_step.new.at c.args.c es
    c.in_ok-lone.lone _ (search rules) c.requires.none_ready c.in_ok-lone.ensures.step h

pub returns-clause-gives : goal.returns-clause-gives
returns-clause-gives g c = λ es h.
    let steps = g.I.Iterator.next_gives in
    let reading = c.args.self.now.reader.reading in
    let looked = only_looked steps reading c.args.self.now.source c.lone_step.new.source c.args.self.now.reader.position c.lone_step.new.at c.args.c es c.in_ok-lone.lone (search rules) c.in_ok-lone.ensures.step h in
    let given = listed_given steps reading c.lone_step.new.source c.stream_step.new.source c.lone_step.new.at c.stream_step.new.at c.args.c es c.clear.new.self.items c.stream_step.new.list.elements.items c.clear.ensures.items c.in_ok-stream_step.ensures.step looked in
    listed steps es c.stream_step.new.source (record c.args.self.now.reader { position = c.stream_step.new.at; ready = c.stream_step.new.list; next = 0 }) c.take_ready.new.self c.take_ready.result given c.take_ready.ensures.next c.take_ready.ensures.position c.take_ready.ensures.reading
