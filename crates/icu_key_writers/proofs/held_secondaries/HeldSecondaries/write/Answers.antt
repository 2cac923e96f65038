use Rattle.std.proofs.Common.{ℕ, List, [], ◌++◌, replicate, sym}
use Rattle.std.proofs.lemmas.Result.{err_from_is_err_and}
use Rattle.icu_order_levels.specs.Secondaries.{secondary_level}
use Rattle.icu_order_levels.specs.declared.run_bytes.TheConstants.{SECONDARY_RUNS}
use Rattle.icu_key_writers.specs.WriterRests.{secondary_rest}
use Rattle.icu_key_writers.proofs.Writing.{fails_front, writes_after, writes_same}
use Rattle.icu_key_writers.proofs.held_secondaries.HeldSecondaries.write.Goals as goal

pub returns-in_err-write_to-clause-bytes : goal.returns-in_err-write_to-clause-bytes
returns-in_err-write_to-clause-bytes g c =
    let p = err_from_is_err_and c.from_residual.result c.from_residual.ensures.1 in
    rw (p.1, p.2) (fails_front g.S.CollationKeySink.effects _ _ _ _ _ _ _ c.in_err-write_to.ensures.bytes)

pub returns-clause-bytes : goal.returns-clause-bytes
returns-clause-bytes g c =
    let ws : List ℕ = replicate c.args.self.now.commons SECONDARY_RUNS.common ++ [] in
    writes_after g.S.CollationKeySink.effects _ _ _ _ _ _ _ _ _
    (λ y z t u b d. g.met.S.CollationKeySink.took_both _ y z _ t u b d c.requires)
    c.in_ok-write_to.ensures.bytes
    (writes_same g.S.CollationKeySink.effects _ _ _ _ (secondary_level ws) (secondary_rest c.new.result ws) _ (sym (c.new.ensures ws)) c.close_after.ensures.bytes)
