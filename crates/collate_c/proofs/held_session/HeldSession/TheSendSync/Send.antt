-- A held session may go to another thread, as a box of a session may.
use mir.Raw.{raw}
use base.Shift.{Keyless}
use denote.Memory.{lone}
use denote.RawPtr.{Ptr}
use denote.Struct.Struct.{exits_of}
use denote.Struct.Owning.{shape, fields, to}
use denote.Param.Send.{IsSend, AllSend, owning_send, struct_send, sendable}
use Rattle.std.specs.Prelude.{Option, Some, None}
use Rattle.std.specs.Global.{Global}
use Rattle.std.proofs.Crossing as heap
use Rattle.std_alloc.proofs.SendSync.{quiet, lies}
use Rattle.std_heap.proofs.Global.TheSendSync as handle
use Rattle.collate_c.specs.HeldSessions.{held_owns}
use Rattle.collate_c.specs.contracts.session.Session as Session
use Rattle.collate_c.proofs.session.Session.TheSendSync.{the_send as session}
use Rattle.collate_c.specs.contracts.held_session.HeldSession.{the_row, the_type}

owns_keyless : (a : Global) (p : Ptr) (o : Option Session.the_row.Denot) → Keyless (held_owns a p o)
owns_keyless a p None = tt
owns_keyless a p (Some x) = (lies Session.the_row session p x, heap.frees.frees a (raw (lone Session.the_row.mir)) p)

pub send : IsSend the_row
send =
    let all : AllSend (fields the_type) = (search sendable, (handle.the_field_send, tt)) in
    owning_send the_type all (λ d. owns_keyless d.alloc d.at d.value)
    (λ k. quiet (to the_type) (exits_of k (fields the_type)) ((struct_send (shape the_type) all).leaving k))
