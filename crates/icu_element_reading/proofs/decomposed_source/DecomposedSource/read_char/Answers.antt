use Rattle.icu_element_reading.proofs.DecomposedSourceLemmas.{ReadsNext-done, ReadsNext-read}
use Rattle.icu_element_reading.proofs.decomposed_source.DecomposedSource.read_char.Goals as goal

pub returns-then-self-clause-reads : goal.returns-then-self-clause-reads
returns-then-self-clause-reads g c = ReadsNext-done g.I.Iterator.next_gives c.args.self.now c.if-self.true

pub returns-clause-reads : goal.returns-clause-reads
returns-clause-reads g c =
    ReadsNext-read g.I.Iterator.next_gives c.args.self.now
    (record { iter = c.next-next.new.self; is_done = c.is_none-self.result; held = c.args.self.now.held })
    c.next-next.result c.if-self.false c.next-next.ensures.steps c.is_none-self.ensures
