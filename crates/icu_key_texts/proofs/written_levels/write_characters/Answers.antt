use Rattle.std.proofs.Common.{◌≡◌, ℕ, ◌+◌, List, ◌∷◌, drop, sym, ap, ◌∙◌, subst}
use Rattle.std.proofs.lemmas.List.{drop_more}
use Rattle.std.proofs.lemmas.Result.{err_from_is_err_and}
use Rattle.icu_order_levels.specs.Identical.{identical_level}
use Rattle.icu_key_writers.specs.WriterRests.{identical_rest}
use Rattle.icu_key_writers.proofs.Writing.{Owes, owes_fed, owes_fails}
use Rattle.icu_key_texts.proofs.written_levels.write_characters.Goals as goal

pub returns-in_err-push-clause-bytes : goal.returns-in_err-push-clause-bytes
returns-in_err-push-clause-bytes g c =
    let p = err_from_is_err_and c.from_residual.result c.from_residual.ensures.1 in
    let x : ℕ = c.character-item.result in
    let rest : List ℕ = drop (c.loop-character.character-index + 1) c.args.characters.now in
    let opened : drop c.loop-character.character-index c.args.characters.now ≡ x ∷ rest =
    drop_more c.args.characters.now c.loop-character.character-index x c.loop-character-test.true ∙ ap (λ y. y ∷ rest) (sym c.character-item.is) in
    let owes = subst (λ (l : List ℕ). Owes g.S.CollationKeySink.effects c.args.sink.now c.args.state.now (identical_level c.args.characters.now) (identical_rest c.loop-character.writer l) c.loop-character.sink c.loop-character.state) opened c.loop-character.invariant.owes in
    rw (p.1, p.2) (owes_fails g.S.CollationKeySink.effects _ _ _ _ _ _ _ _ _
    (λ y z t u b d. g.met.S.CollationKeySink.took_both _ y z _ t u b d c.requires) owes (c.in_err-push.ensures.bytes rest))

pub loop-character-preserved : goal.loop-character-preserved
loop-character-preserved g c =
    let x : ℕ = c.character-item.result in
    let rest : List ℕ = drop (c.loop-character.character-index + 1) c.args.characters.now in
    let opened : drop c.loop-character.character-index c.args.characters.now ≡ x ∷ rest =
    drop_more c.args.characters.now c.loop-character.character-index x c.loop-character-test.true ∙ ap (λ y. y ∷ rest) (sym c.character-item.is) in
    let owes = subst (λ (l : List ℕ). Owes g.S.CollationKeySink.effects c.args.sink.now c.args.state.now (identical_level c.args.characters.now) (identical_rest c.loop-character.writer l) c.loop-character.sink c.loop-character.state) opened c.loop-character.invariant.owes in
    record {
      sound = c.in_ok-push.ensures.sound;
      owes = owes_fed g.S.CollationKeySink.effects _ _ _ _ _ _ _ (λ cs. identical_rest c.loop-character.writer (x ∷ cs)) (identical_rest c.push.new.self) rest
          (λ y z t u b d. g.met.S.CollationKeySink.took_both _ y z _ t u b d c.requires) owes c.in_ok-push.ensures.bytes;
    }
