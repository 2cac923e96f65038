use Rattle.std.proofs.Common.{take}
use Rattle.std.proofs.lemmas.Result.{err_from_is_err_and}
use Rattle.icu_key_writers.specs.HeldByteLists.{held_bytes}
use Rattle.icu_key_writers.proofs.Writing.{fails_front, writes_last}
use Rattle.icu_key_writers.proofs.held_bytes.HeldBytes.write_to.Goals as goal

pub returns-in_err-write_first-clause-bytes : goal.returns-in_err-write_first-clause-bytes
unfolding held_bytes
returns-in_err-write_first-clause-bytes g c =
    let p = err_from_is_err_and c.from_residual.result c.from_residual.ensures.1 in
    let bytes = c.args.self.now in
    rw (p.1, p.2) (fails_front g.S.CollationKeySink.effects _ _ _ _ (take bytes.count bytes.first) bytes.more.items _
    c.in_err-write_first.ensures.bytes)

pub returns-clause-bytes : goal.returns-clause-bytes
unfolding held_bytes
returns-clause-bytes g c =
    let bytes = c.args.self.now in
    let outcome = rw c.as_slice.ensures.value at c.write.ensures.outcome in
    writes_last g.S.CollationKeySink.effects _ _ _ _ _ _ (take bytes.count bytes.first) bytes.more.items _
    (λ y z t u b d. g.met.S.CollationKeySink.took_both _ y z _ t u b d c.requires)
    c.in_ok-write_first.ensures.bytes outcome
