-- What a held session owns: what a box of a session owns, or nothing.
use base.Fml.{Fml, ftrue}
use base.Stored.{Coded}
use denote.RawPtr.{Ptr}
use Rattle.std.specs.Prelude.{Option, Some, None}
use Rattle.std.specs.Coded.{coded_option}
use Rattle.std.specs.Box.Ownership.{box_owns}
use Rattle.std.specs.Global.{Global}
use Rattle.std_heap.specs.contracts.GlobalAllocator.TheImpl.{ghosts}
use Rattle.collate_c.specs.contracts.session.Session.{the_row}

-- the memory of a session at a pointer, or of none
abbrev pub held_owns : Global → Ptr → Option the_row.Denot → Fml
held_owns alloc p o = elim o [ None ↦ ftrue | Some x ↦ box_owns (ghosts.dealloc_token alloc) the_row p x ]

-- a session or none, as a ghost field has it
abbrev pub held_coded : Coded (Option the_row.Denot)
held_coded = coded_option the_row.coded
