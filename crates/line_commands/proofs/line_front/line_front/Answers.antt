-- What was taken is the first eight bytes of the key.
use Rattle.line_commands.proofs.KeyFrontLemmas.{refused_taken, whole_taken}
use Rattle.line_commands.proofs.line_front.line_front.Goals as goal

pub returns-in-Ok : goal.returns-in-Ok
returns-in-Ok c =
    let n = c.number.ensures in
    let h = c.in-Ok.ensures.key in
    whole_taken _ _ _ _ c.new-front.ensures n.number n.bytes h.1 n.few h.4 h.5.1

pub returns-in-Err-Sink : goal.returns-in-Err-Sink
returns-in-Err-Sink c =
    let n = c.number-in-Err-Sink.ensures in
    let h = rw c.in-Err-Sink.field-0-is at c.in-Err-Sink.ensures.key in
    refused_taken _ _ _ _ c.new-front.ensures n.number n.bytes h.0 _ h.2
