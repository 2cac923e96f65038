use Rattle.std.proofs.Common.{◌≡◌, ℕ, List, [], ◌++◌, replicate, ap, sym, ◌∙◌}
use Rattle.std.proofs.lemmas.Result.{err_from_is_err_and}
use Rattle.icu_order_levels.specs.Tertiaries.{tertiary_level, tertiary_runs}
use Rattle.icu_order_levels.specs.declared.forms.TertiaryForm.{TertiaryForm}
use Rattle.icu_key_writers.specs.HeldRests.{held_tertiary_form}
use Rattle.icu_key_writers.specs.WriterRests.{tertiary_rest, tertiary_form_of}
use Rattle.icu_key_writers.proofs.Writing.{fails_front, writes_after, writes_same}
use Rattle.icu_key_writers.proofs.held_tertiaries.HeldTertiaries.write.Goals as goal

pub returns-in_err-write_to-clause-bytes : goal.returns-in_err-write_to-clause-bytes
returns-in_err-write_to-clause-bytes g c =
    let p = err_from_is_err_and c.from_residual.result c.from_residual.ensures.1 in
    rw (p.1, p.2) (fails_front g.S.CollationKeySink.effects _ _ _ _ _ _ _ c.in_err-write_to.ensures.bytes)

pub returns-clause-bytes : goal.returns-clause-bytes
returns-clause-bytes g c =
    let form : TertiaryForm = held_tertiary_form c.args.self.now in
    let ws : TertiaryForm → List ℕ = λ k. replicate c.args.self.now.commons (tertiary_runs k).common ++ [] in
    let same : tertiary_rest c.new.result (ws (tertiary_form_of c.new.result)) ≡ tertiary_level form (ws form) =
    ap (λ (k : TertiaryForm). tertiary_rest c.new.result (ws k)) c.new.ensures.form ∙ c.new.ensures.begins (ws form) in
    writes_after g.S.CollationKeySink.effects _ _ _ _ _ _ _ _ _
    (λ y z t u b d. g.met.S.CollationKeySink.took_both _ y z _ t u b d c.requires)
    c.in_ok-write_to.ensures.bytes
    (writes_same g.S.CollationKeySink.effects _ _ _ _ (tertiary_level form (ws form)) (tertiary_rest c.new.result (ws (tertiary_form_of c.new.result))) _ (sym same) c.close_after.ensures.bytes)
