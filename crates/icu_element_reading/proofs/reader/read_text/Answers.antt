use Rattle.std.proofs.Common.{◌≡◌, [], ◌++◌, List, sym, ap, ◌∙◌, append-nil}
use Rattle.icu_table_entries.specs.Elements.{Element}
use Rattle.icu_element_reading.specs.inner.Positions.{unread_at}
use Rattle.icu_element_reading.proofs.ReaderLemmas.{none_unread}
use Rattle.icu_element_reading.proofs.reader.read_text.Goals as goal

pub returns : goal.returns
returns c =
    let items : List Element = c.read_step.new.list.elements.items in
    let ended : unread_at c.read_step.new.at ≡ [] = rw c.if-branch.false at c.in_ok-read_step.ensures.shorter in
    sym (append-nil items)
    ∙ ap (λ (l : List Element). items ++ l) (sym (none_unread c.args.reading c.read_step.new.at ended))
    ∙ c.in_ok-read_step.ensures.elements
    ∙ c.steps.invariant
