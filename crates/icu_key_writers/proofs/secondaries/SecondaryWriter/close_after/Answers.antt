use Rattle.std.proofs.Common.{[], ◌++◌, replicate}
use Rattle.std.proofs.lemmas.Result.{err_from_is_err_and}
use Rattle.icu_order_levels.specs.declared.run_bytes.TheConstants.{SECONDARY_RUNS}
use Rattle.icu_key_writers.specs.WriterRests.{secondary_rest}
use Rattle.icu_key_writers.proofs.Writing.{brings_written}
use Rattle.icu_key_writers.proofs.secondaries.SecondaryWriter.close_after.Goals as goal

pub returns-in_err-push_commons-clause-bytes : goal.returns-in_err-push_commons-clause-bytes
returns-in_err-push_commons-clause-bytes g c =
    let p = err_from_is_err_and c.from_residual.result c.from_residual.ensures.1 in
    rw (p.1, p.2) (c.in_err-push_commons.ensures.bytes [])

pub returns-clause-bytes : goal.returns-clause-bytes
returns-clause-bytes g c =
    brings_written g.S.CollationKeySink.effects _ _ _ _ _ _ (λ ws. secondary_rest c.args.self (replicate c.args.more SECONDARY_RUNS.common ++ ws)) (secondary_rest c.push_commons.new.self) [] _
    (λ y z t u b d. g.met.S.CollationKeySink.took_both _ y z _ t u b d c.requires)
    c.in_ok-push_commons.ensures.bytes c.close.ensures.bytes
