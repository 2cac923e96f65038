use Rattle.std.proofs.Common.{◌≡◌, ℕ, ◌+◌, List, [], ◌∷◌, ◌++◌, drop, get_or, refl, subst}
use Rattle.std.proofs.lemmas.List.{drop_more}
use Rattle.std.proofs.lemmas.Result.{err_from_is_err_and}
use Rattle.icu_key_writers.proofs.Writing.{Owes, owes_fed, owes_fails, fails_front, fails_one}
use Rattle.icu_key_writers.proofs.writes.write_each.Goals as goal

pub returns-in_err-write_byte-clause-bytes : goal.returns-in_err-write_byte-clause-bytes
returns-in_err-write_byte-clause-bytes g c =
    let p = err_from_is_err_and c.from_residual.result c.from_residual.ensures.1 in
    let x : ℕ = get_or c.args.bytes.now c.loop-byte.byte-index 0 in
    let rest : List ℕ = drop (c.loop-byte.byte-index + 1) c.args.bytes.now in
    let opened : drop c.loop-byte.byte-index c.args.bytes.now ≡ x ∷ rest =
    drop_more c.args.bytes.now c.loop-byte.byte-index 0 c.loop-byte-test.true in
    let owes = subst (λ (l : List ℕ). Owes g.S.CollationKeySink.effects c.args.sink.now c.args.state.now c.args.bytes.now l c.loop-byte.sink c.loop-byte.state) opened c.loop-byte.invariant.owes in
    rw (p.1, p.2) (owes_fails g.S.CollationKeySink.effects _ _ _ _ _ _ _ _ _
    (λ y z t u b d. g.met.S.CollationKeySink.took_both _ y z _ t u b d c.requires) owes
    (fails_front g.S.CollationKeySink.effects _ _ _ _ (x ∷ []) rest _
    (fails_one g.S.CollationKeySink.effects _ _ _ _ (x ∷ []) _ (g.met.S.CollationKeySink.took_nothing _ _ c.loop-byte.invariant.sound) c.in_err-write_byte.ensures.outcome)))

pub loop-byte-preserved : goal.loop-byte-preserved
loop-byte-preserved g c =
    let x : ℕ = get_or c.args.bytes.now c.loop-byte.byte-index 0 in
    let rest : List ℕ = drop (c.loop-byte.byte-index + 1) c.args.bytes.now in
    let opened : drop c.loop-byte.byte-index c.args.bytes.now ≡ x ∷ rest =
    drop_more c.args.bytes.now c.loop-byte.byte-index 0 c.loop-byte-test.true in
    let owes = subst (λ (l : List ℕ). Owes g.S.CollationKeySink.effects c.args.sink.now c.args.state.now c.args.bytes.now l c.loop-byte.sink c.loop-byte.state) opened c.loop-byte.invariant.owes in
    record {
      sound = c.in_ok-write_byte.ensures.sound;
      owes = owes_fed g.S.CollationKeySink.effects _ _ _ _ _ _ _ (λ cs. x ∷ cs) (λ cs. cs) rest
          (λ y z t u b d. g.met.S.CollationKeySink.took_both _ y z _ t u b d c.requires) owes
          (record { front = x ∷ []; taken = c.in_ok-write_byte.ensures.outcome; leaves = λ cs. refl });
    }
