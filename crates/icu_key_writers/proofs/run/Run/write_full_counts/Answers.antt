use Rattle.std.proofs.Common.{ℕ, ◌-◌, [], ◌∷◌, ◌++◌, arith, replicate}
use Rattle.std.proofs.lemmas.Result.{err_from_is_err_and}
use Rattle.icu_order_levels.specs.Runs.{level_bytes}
use Rattle.icu_key_writers.proofs.CommonSteps.{commons_counted, full_taken}
use Rattle.icu_key_writers.proofs.Writing.{brings_more, brings_fails}
use Rattle.icu_key_writers.proofs.run.Run.write_full_counts.Goals as goal

pub returns-in_err-write_byte-clause-bytes : goal.returns-in_err-write_byte-clause-bytes
returns-in_err-write_byte-clause-bytes g c = λ spell.
    let p = err_from_is_err_and c.from_residual.result c.from_residual.ensures.1 in
    let runs = c.args.runs.now in
    let left : ℕ = c.loop-left.left - runs.count in
    rw (p.1, p.2) (brings_fails g.S.CollationKeySink.effects _ _ _ _ _ _ (runs.middle ∷ [])
    (λ ws. level_bytes runs spell c.args.self.now.length (replicate c.args.more runs.common ++ ws)) (level_bytes runs spell c.loop-left.left) (level_bytes runs spell left) _
    (c.loop-left.invariant.brings spell) c.in_err-write_byte.ensures.outcome
    (λ ws. full_taken runs spell c.loop-left.left left ws c.requires.runs.some (omega arith) (omega arith)))

pub loop-left-preserved : goal.loop-left-preserved
loop-left-preserved g c =
    let runs = c.args.runs.now in
    let left : ℕ = c.loop-left.left - c.from-full.result in
    record {
      sound = c.in_ok-write_byte.ensures.sound;
      brings = λ spell.
          brings_more g.S.CollationKeySink.effects _ _ _ _ _ _ (runs.middle ∷ [])
          (λ ws. level_bytes runs spell c.args.self.now.length (replicate c.args.more runs.common ++ ws)) (level_bytes runs spell c.loop-left.left) (level_bytes runs spell left)
          (λ y z t u b d. g.met.S.CollationKeySink.took_both _ y z _ t u b d c.requires.sound)
          (c.loop-left.invariant.brings spell) c.in_ok-write_byte.ensures.outcome
          (λ ws. full_taken runs spell c.loop-left.left left ws c.requires.runs.some (omega arith) (omega arith));
    }

pub loop-left-init : goal.loop-left-init
loop-left-init g c = record {
  sound = c.requires.sound;
  brings = λ spell. record {
    front = [];
    taken = g.met.S.CollationKeySink.took_nothing _ _ c.requires.sound;
    leaves = λ ws. commons_counted c.args.runs.now spell c.args.self.now.length c.args.more _ ws (omega arith);
  };
}
