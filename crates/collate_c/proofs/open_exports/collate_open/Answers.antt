-- An opened session has the status of a call that did what it was asked for.
use Rattle.std.proofs.Common.{refl, ap, to_z, of_z, w32}
use Rattle.collate_c.proofs.open_exports.collate_open.Goals as goal

pub returns-in-Ok-clause-fails : goal.returns-in-Ok-clause-fails
returns-in-Ok-clause-fails c fails = absurd (fails (ap (λ r. to_z w32 (of_z w32 r)) (c.status.ensures.succeeds refl)))
