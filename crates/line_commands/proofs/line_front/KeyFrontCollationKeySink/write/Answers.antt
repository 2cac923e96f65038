-- A byte that is refused stands behind those that were taken.
use Rattle.std.proofs.Common.{take, drop, ap, sym, ◌∙◌}
use Rattle.std.proofs.lemmas.List.{take-append-drop}
use Rattle.std.proofs.lemmas.Result.{err_from_is_err_and}
use Rattle.line_commands.specs.inner.KeyFronts.{front_bytes}
use Rattle.line_commands.proofs.line_front.KeyFrontCollationKeySink.write.Goals as goal

pub returns-in_err-push-clause-outcome : goal.returns-in_err-push-clause-outcome
returns-in_err-push-clause-outcome c =
    let p = err_from_is_err_and c.from_residual.result c.from_residual.ensures.1 in
    let index = c.loop-byte.byte-index in
    let full = c.in_err-push.ensures.full in
    rw p.1 (
      record {
        front = take index c.args.buf.now;
        rest = drop index c.args.buf.now;
        splits = sym (take-append-drop index c.args.buf.now);
        taken = ap front_bytes full.0 ∙ c.loop-byte.invariant.taken;
      },
      full.1,
    )
