use Rattle.std.proofs.Common.{ℕ, ◌-◌, ◌≡◌, [], ◌∷◌, List, length, take, get_or, reverse, arith, subst}
use Rattle.std.proofs.lemmas.List.{nil_from_length, length-take-le}
use Rattle.std.proofs.lemmas.Result.{err_from_is_err_and}
use Rattle.icu_order_levels.specs.Secondaries.{secondary_level}
use Rattle.icu_key_writers.specs.WriterRests.{secondary_rest}
use Rattle.icu_key_writers.proofs.ReversedSegments.{reverse_last}
use Rattle.icu_key_writers.proofs.Writing.{Owes, owes_fed, owes_fails, owes_written}
use Rattle.icu_key_writers.proofs.backward.write_segment.Goals as goal

pub offset_bounds-left-left : goal.offset_bounds-left-left
offset_bounds-left-left g c = let w = c.loop-left.invariant.within in omega arith

pub returns-in_err-push-clause-bytes : goal.returns-in_err-push-clause-bytes
returns-in_err-push-clause-bytes g c =
    let p = err_from_is_err_and c.from_residual.result c.from_residual.ensures.1 in
    let n : ℕ = length c.loop-left.left.now - 1 in
    let turned : reverse c.loop-left.left.now ≡ get_or c.loop-left.left.now n 0 ∷ reverse (take n c.loop-left.left.now) = reverse_last c.loop-left.left.now n (omega arith) in
    let owes = subst (λ (l : List ℕ). Owes g.S.CollationKeySink.effects c.args.sink.now c.args.state.now (secondary_level (reverse c.args.weights.now)) (secondary_rest c.loop-left.writer l) c.loop-left.sink c.loop-left.state) turned c.loop-left.invariant.owes in
    rw (p.1, p.2) (owes_fails g.S.CollationKeySink.effects _ _ _ _ _ _ _ _ _
    (λ y z t u b d. g.met.S.CollationKeySink.took_both _ y z _ t u b d c.requires)
    owes (c.in_err-push.ensures.bytes (reverse (take n c.loop-left.left.now))))

pub loop-left-preserved : goal.loop-left-preserved
loop-left-preserved g c =
    let n : ℕ = length c.loop-left.left.now - 1 in
    let turned : reverse c.loop-left.left.now ≡ get_or c.loop-left.left.now n 0 ∷ reverse (take n c.loop-left.left.now) = reverse_last c.loop-left.left.now n (omega arith) in
    let owes = subst (λ (l : List ℕ). Owes g.S.CollationKeySink.effects c.args.sink.now c.args.state.now (secondary_level (reverse c.args.weights.now)) (secondary_rest c.loop-left.writer l) c.loop-left.sink c.loop-left.state) turned c.loop-left.invariant.owes in
    record {
      sound = c.in_ok-push.ensures.sound;
      within = omega (arith, length-take-le n c.loop-left.left.now (omega arith), c.loop-left.invariant.within);
      owes = owes_fed g.S.CollationKeySink.effects _ _ _ _ _ _ _
          (λ ws. secondary_rest c.loop-left.writer (get_or c.loop-left.left.now n 0 ∷ ws)) (secondary_rest c.push.new.self) (reverse (take n c.loop-left.left.now))
          (λ y z t u b d. g.met.S.CollationKeySink.took_both _ y z _ t u b d c.requires)
          owes c.in_ok-push.ensures.bytes;
    }

pub returns-clause-bytes : goal.returns-clause-bytes
returns-clause-bytes g c =
    let none : c.loop-left.left.now ≡ [] = nil_from_length c.loop-left.left.now (omega arith) in
    let owes = subst (λ (l : List ℕ). Owes g.S.CollationKeySink.effects c.args.sink.now c.args.state.now (secondary_level (reverse c.args.weights.now)) (secondary_rest c.loop-left.writer (reverse l)) c.loop-left.sink c.loop-left.state) none c.loop-left.invariant.owes in
    owes_written g.S.CollationKeySink.effects _ _ _ _ _ _ _ _ _
    (λ y z t u b d. g.met.S.CollationKeySink.took_both _ y z _ t u b d c.requires)
    owes c.close.ensures.bytes
