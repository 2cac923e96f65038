use Rattle.std.proofs.Common.{rules}
use Rattle.icu_element_cursor.specs.inner.Ready.{elements_ready}
use Rattle.icu_element_cursor.proofs.ReadyLemmas.{next_taken, none_taken}
use Rattle.icu_element_cursor.proofs.char_elements.CharElementsReadyPlace.take_first.Goals as goal

pub returns-then-self-clause-end : goal.returns-then-self-clause-end
unfolding elements_ready
returns-then-self-clause-end c = λ _.
    let l = c.args.self.now in none_taken l.elements l.next l.count c.if-self.true

pub returns-clause-next : goal.returns-clause-next
unfolding elements_ready
returns-clause-next c =
    let l = c.args.self.now in
    next_taken l.elements l.next l.count _ c.if-self.false (search rules) c.index-elements-self.is
