use Rattle.std.proofs.Common.{ℕ, List, subst, [], ◌∷◌, ◌++◌, map, reverse}
use Rattle.std.proofs.lemmas.List.{append-nil}
use Rattle.std.proofs.lemmas.Result.{err_from_is_err_and}
use Rattle.icu_order_levels.specs.Secondaries.{secondary_level, further_segments}
use Rattle.icu_key_writers.specs.Writes.{WriteFails}
use Rattle.icu_key_writers.proofs.ReversedSegments.{segment_step}
use Rattle.icu_key_writers.proofs.Writing.{fails_front, feeds_writes, writes_last}
use Rattle.icu_key_writers.proofs.backward.BackwardWriter.end_segment.Goals as goal

pub returns-in_err-write_segment-clause-bytes : goal.returns-in_err-write_segment-clause-bytes
returns-in_err-write_segment-clause-bytes g c =
    let p = err_from_is_err_and c.from_residual.result c.from_residual.ensures.1 in
    let held = c.args.self.now.segment.items in
    rw (p.1, p.2) (λ rest. rw (append-nil held) (fails_front g.S.CollationKeySink.effects _ _ _ _ (secondary_level (reverse held)) (further_segments (map reverse (rest.0 ∷ rest.1))) _
    (subst (λ (l : List ℕ). WriteFails g.S.CollationKeySink.effects c.args.sink.now c.args.state.now (secondary_level (reverse l)) c.in_err-write_segment.field-0.0 c.write_segment.new.sink c.write_segment.new.state) c.as_slice.ensures c.in_err-write_segment.ensures.bytes)))

pub returns-clause-bytes : goal.returns-clause-bytes
returns-clause-bytes g c =
    let held = c.args.self.now.segment.items in
    feeds_writes g.S.CollationKeySink.effects _ _ _ _ (secondary_level (reverse held) ++ 2 ∷ []) _ _ _
    (λ rest. segment_step held c.clear.new.self.items rest.0 rest.1 c.clear.ensures.items)
    (writes_last g.S.CollationKeySink.effects _ _ _ _ _ _ _ _ _
    (λ y z t u b d. g.met.S.CollationKeySink.took_both _ y z _ t u b d c.requires)
    (subst (λ (l : List ℕ). (g.S.CollationKeySink.effects).took c.args.sink.now c.args.state.now (secondary_level (reverse l)) c.write_segment.new.sink c.write_segment.new.state) c.as_slice.ensures c.in_ok-write_segment.ensures.bytes)
    c.write_byte.ensures.outcome)
