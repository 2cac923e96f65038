use Rattle.std.proofs.Common.{List, ◌++◌, ap, ◌∙◌, append-nil}
use Rattle.icu_table_entries.specs.Elements.{Element}
use Rattle.icu_element_cursor.specs.inner.Ready.{elements_ready}
use Rattle.icu_element_cursor.proofs.ReadyLemmas.{both_empty}
use Rattle.icu_element_cursor.proofs.ready_elements.ReadyElements.of_char.Goals as goal

pub returns : goal.returns
returns c =
    ap (λ (es : List Element). elements_ready c.args.few ++ es) (both_empty _ _ c.none-all.ensures).1 ∙ append-nil (elements_ready c.args.few)
