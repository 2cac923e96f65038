use Rattle.std.proofs.Common.{option_to_list}
use Rattle.icu_element_cursor.specs.Cursors.{gives_with}
use Rattle.icu_element_cursor.proofs.CursorLemmas.{ready_taken}
use Rattle.icu_element_cursor.proofs.cursor.ElementCursor.take_ready.Goals as goal

pub returns-clause-next : goal.returns-clause-next
unfolding gives_with
returns-clause-next g c = ready_taken (option_to_list c.take_first.result) _ _ _ c.take_first.ensures.next
