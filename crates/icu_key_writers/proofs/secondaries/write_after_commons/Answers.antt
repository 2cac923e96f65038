use Rattle.std.proofs.Common.{ap, refl, sym}
use Rattle.std.proofs.lemmas.Result.{err_from_is_err_and}
use Rattle.icu_order_levels.specs.declared.run_bytes.TheConstants.{SECONDARY_RUNS}
use Rattle.icu_order_levels.specs.WeightBytes.{weight_bytes}
use Rattle.icu_key_writers.proofs.LevelWriting.{feeds_after_commons, commons_fail}
use Rattle.icu_key_writers.proofs.secondaries.write_after_commons.Goals as goal

pub returns-in_err-write_commons-clause-bytes : goal.returns-in_err-write_commons-clause-bytes
returns-in_err-write_commons-clause-bytes g c =
    let p = err_from_is_err_and c.from_residual.result c.from_residual.ensures.1 in
    rw (p.1, p.2) (commons_fail g.S.CollationKeySink.effects _ _ _ _ SECONDARY_RUNS SECONDARY_RUNS (weight_bytes 2) c.args.commons _ c.args.weight _ refl c.new-run.ensures (c.in_err-write_commons.ensures.bytes (weight_bytes 2)))

pub returns-clause-bytes : goal.returns-clause-bytes
returns-clause-bytes g c =
    feeds_after_commons g.S.CollationKeySink.effects _ _ _ _ _ _ SECONDARY_RUNS SECONDARY_RUNS (weight_bytes 2) c.args.commons _ _ _ c.args.weight c.from.result _ refl c.new-run.ensures (sym c.from.ensures)
    (λ y z t u b d. g.met.S.CollationKeySink.took_both _ y z _ t u b d c.requires.sound)
    (c.in_ok-write_commons.ensures.bytes (weight_bytes 2)) (c.write_short.ensures.bytes (weight_bytes 2) (ap (weight_bytes 2) c.from.ensures)) c.write_short.ensures.empty
