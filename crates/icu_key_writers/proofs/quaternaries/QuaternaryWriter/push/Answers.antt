use Rattle.std.proofs.Common.{ℕ, ◌+◌, ◌<◌, ◌≢◌, ◌^◌, ◌∙◌, ap, sym, arith}
use Rattle.icu_order_levels.specs.declared.run_bytes.TheConstants.{QUATERNARY_RUNS}
use Rattle.icu_order_levels.specs.Quaternaries.{quaternary_bytes}
use Rattle.icu_key_writers.specs.QuaternaryWeights.{weight_of}
use Rattle.icu_key_writers.proofs.LevelWriting.{feeds_weight}
use Rattle.icu_key_writers.proofs.QuaternaryLemmas.{bits_spelled}
use Rattle.icu_key_writers.proofs.quaternaries.QuaternaryWriter.push.Goals as goal

positive : (q : ℕ) → q ≢ 0 → 0 < q
positive q h = omega arith

pub returns-then-bits-eq0-clause-bytes : goal.returns-then-bits-eq0-clause-bytes
returns-then-bits-eq0-clause-bytes g c =
    feeds_weight g.S.CollationKeySink.effects _ _ _ _ QUATERNARY_RUNS quaternary_bytes _ _ (weight_of c.args.weight) (2 ^ 32) _
    (ap weight_of c.in-Bits.is ∙ ap (λ q. 2 ^ 32 + q) c.if-bits-eq0.true)
    (c.write_common.ensures.bytes quaternary_bytes)

pub returns-else-bits-eq0-clause-bytes : goal.returns-else-bits-eq0-clause-bytes
returns-else-bits-eq0-clause-bytes g c =
    let some : 0 < c.in-Bits.bits = positive c.in-Bits.bits c.if-bits-eq0.false in
    feeds_weight g.S.CollationKeySink.effects _ _ _ _ QUATERNARY_RUNS quaternary_bytes _ _ (weight_of c.args.weight) (2 ^ 32 + c.from.result) _
    (ap weight_of c.in-Bits.is ∙ ap (λ q. 2 ^ 32 + q) (sym c.from.ensures))
    (c.write_long.ensures.bytes quaternary_bytes (ap (λ q. quaternary_bytes (2 ^ 32 + q)) c.from.ensures ∙ bits_spelled c.in-Bits.bits some))

pub returns-in-Shifted-clause-bytes : goal.returns-in-Shifted-clause-bytes
returns-in-Shifted-clause-bytes g c =
    feeds_weight g.S.CollationKeySink.effects _ _ _ _ QUATERNARY_RUNS quaternary_bytes _ _ (weight_of c.args.weight) c.from-whole.result _
    (ap weight_of c.in-Shifted.is ∙ sym c.from-whole.ensures)
    (c.write_long-in-Shifted.ensures.bytes quaternary_bytes (ap quaternary_bytes c.from-whole.ensures ∙ c.before_shifted-first.ensures))
