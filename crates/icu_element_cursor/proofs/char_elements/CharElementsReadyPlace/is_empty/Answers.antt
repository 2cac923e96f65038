use Rattle.std.proofs.Common.{rules}
use Rattle.icu_element_cursor.specs.inner.Ready.{elements_ready}
use Rattle.icu_element_cursor.proofs.ReadyLemmas.{none_taken}
use Rattle.icu_element_cursor.proofs.char_elements.CharElementsReadyPlace.is_empty.Goals as goal

pub returns : goal.returns
unfolding elements_ready
returns c = λ past.
    let l = c.args.self.now in none_taken l.elements l.next l.count (search (rules, past))
