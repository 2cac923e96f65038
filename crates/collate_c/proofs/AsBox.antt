-- A held session and its parts own what a box at the same types owns.
use Rattle.std.proofs.Common.{◌≡◌, refl, subst}
use Rattle.std.proofs.lemmas.Bool.{false≢true}
use Rattle.std.specs.Prelude.{Option, Some, None, IsSome, IfSome}
use mir.Syntax.{impl, tnil, dnil}
use mathlib.Core.List.{[]}
use denote.Signature.{Slot, plain}
use Rattle.std_alloc.proofs.BoxSteps.Form.{Bx}
use Rattle.std_heap.specs.contracts.Global as Heap
use Rattle.std_heap.specs.contracts.GlobalAllocator.TheImpl.{ghosts, dict}
use Rattle.std_heap.proofs.Global.TheLaws as heap
use Rattle.collate_c.specs.contracts.session.Session as Session
use Rattle.collate_c.proofs.session.Session.TheLaws as session
use Rattle.collate_c.specs.contracts.box_parts.BoxParts as Parts
use Rattle.collate_c.specs.contracts.held_session.HeldSession as Held

abbrev pub E : Bx
E = record { row = Session.the_row; laws = session.the_row_laws; al = record { row = Heap.the_row; laws = heap.the_row_laws; g = ghosts; d = dict; drops = impl [] tnil dnil } }

abbrev pub FromParts : Slot 0
FromParts = plain (λ _. Parts.the_row Session.the_row Heap.the_row ghosts)

abbrev pub FromHeld : Slot 0
FromHeld = plain (λ _. Held.the_row)

abbrev pub FromHeap : Slot 0
FromHeap = plain (λ _. Heap.the_row)

pub open_of : {T : Type 0} (o : Option T) → IsSome o → (x : T) × (o ≡ Some x)
open_of (Some x) is = (x, refl)
open_of None is = absurd (false≢true is)

pub if_held : {T : Type 0} (P : T → Type 0) (o : Option T) (x : T) → Some x ≡ o → P x → IfSome o P
if_held P o x e p = subst (λ o. IfSome o P) e p
