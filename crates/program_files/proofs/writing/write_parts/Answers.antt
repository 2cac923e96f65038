-- What the writes before left, and then a beginning of what the last one had to write.
use Rattle.std.proofs.Common.{◌++◌, ◌∷◌, []}
use Rattle.std.proofs.lemmas.Result.{err_from_is_err_and, on_err_weaker}
use Rattle.program_files.proofs.WritingLemmas.{AppendsBeginning_behind, AppendsBeginning_front}
use Rattle.program_files.proofs.writing.write_parts.Goals as goal

pub returns-in_err-write_text-clause-err : goal.returns-in_err-write_text-clause-err
returns-in_err-write_text-clause-err g c =
    let p = err_from_is_err_and c.from_residual.result c.from_residual.ensures.1 in
    rw p.1 (AppendsBeginning_front _ _ c.args.prefix.now (c.args.text.now ++ 10 ∷ []) c.in_err-write_text.ensures.err)

pub returns-in_err-write_text-2-clause-err : goal.returns-in_err-write_text-2-clause-err
returns-in_err-write_text-2-clause-err g c =
    let p = err_from_is_err_and c.from_residual-in_err-write_text-2.result c.from_residual-in_err-write_text-2.ensures.1 in
    rw p.1
    (AppendsBeginning_behind _ _ _ c.args.prefix.now (c.args.text.now ++ 10 ∷ []) c.in_ok-write_text.ensures.ok
    (AppendsBeginning_front _ _ c.args.text.now (10 ∷ []) c.in_err-write_text-2.ensures.err))

pub returns-clause-err : goal.returns-clause-err
returns-clause-err g c =
    on_err_weaker c.write_text-3.result (λ last.
    AppendsBeginning_behind _ _ _ c.args.prefix.now (c.args.text.now ++ 10 ∷ []) c.in_ok-write_text.ensures.ok
    (AppendsBeginning_behind _ _ _ c.args.text.now (10 ∷ []) c.in_ok-write_text-2.ensures.ok last))
    c.write_text-3.ensures.err
