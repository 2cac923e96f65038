use Rattle.std.proofs.Common.{take, drop, sym, ◌∙◌}
use Rattle.std.proofs.lemmas.List.{take-append-drop}
use Rattle.std.proofs.lemmas.Result.{err_from_is_err_and}
use Rattle.icu_key_writers.proofs.held_bytes.HeldBytesCollationKeySink.write.Goals as goal

pub returns-in_err-push-clause-outcome : goal.returns-in_err-push-clause-outcome
returns-in_err-push-clause-outcome c =
    let p = err_from_is_err_and c.from_residual.result c.from_residual.ensures.1 in
    let index = c.loop-byte.byte-index in
    rw p.1 (record {
      front = take index c.args.buf.now;
      rest = drop index c.args.buf.now;
      splits = sym (take-append-drop index c.args.buf.now);
      taken = c.in_err-push.ensures.err ∙ c.loop-byte.invariant;
    })
