use Rattle.std.proofs.Common.{arith}
use Rattle.std.proofs.Math.ListN.{drop_of_length-le}
use Rattle.icu_element_reading.proofs.CollationElementsLemmas.{first_ready}
use Rattle.icu_element_reading.proofs.element_reader.ElementReader.take_ready.Goals as goal

pub returns-then-self-len-clause-end : goal.returns-then-self-len-clause-end
returns-then-self-len-clause-end c = λ e. drop_of_length-le c.args.self.now.ready.elements.items (omega (arith, c.if-self-len.true, c.len.ensures))

pub returns-clause-next : goal.returns-clause-next
returns-clause-next c =
    first_ready c.args.self.now c.index-element.result.now (omega (arith, c.if-self-len.false, c.len.ensures)) c.index-element.ensures
