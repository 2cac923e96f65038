use Rattle.std.proofs.Common.{◌≡◌, Some, rules}
use Rattle.std.specs.Prelude.{slice_get}
use Rattle.icu_element_matches.specs.inner.MarkQueues.{queued_marks}
use Rattle.icu_element_matches.specs.Texts.{still_unread, unread}
use Rattle.icu_element_matches.proofs.MarkQueueLemmas.{queued_begins}
use Rattle.icu_element_matches.proofs.classed_text.ClassedText.as_slice.Goals as goal

pub returns-in-Ok : goal.returns-in-Ok
unfolding still_unread
returns-in-Ok c =
    let at : slice_get (queued_marks c.args.self.now.queues.items) 0 ≡ Some c.in-Ok.field-0 = search rules in
    queued_begins c.args.self.now.queues.items (unread c.args.self.now.rest) c.in-Ok.field-0 at
