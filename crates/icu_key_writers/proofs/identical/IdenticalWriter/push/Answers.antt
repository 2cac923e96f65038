use Rattle.std.proofs.Common.{ℕ, ◌+◌, ◌-◌, ◌^◌, [], ◌∷◌, ◌∙◌, ap, sym}
use Rattle.icu_order_levels.specs.Identical.{difference_bytes, base_after}
use Rattle.icu_key_writers.proofs.IdenticalSteps.{merge_step, other_step}
use Rattle.icu_key_writers.proofs.Writing.{writes_one, feeds_writes}
use Rattle.icu_key_writers.proofs.identical.IdenticalWriter.push.Goals as goal

pub returns-then-number-eq65534-clause-bytes : goal.returns-then-number-eq65534-clause-bytes
returns-then-number-eq65534-clause-bytes g c =
    feeds_writes g.S.CollationKeySink.effects _ _ _ _ (2 ∷ []) _ _ _
    (λ cs. merge_step c.args.self.now.base c.args.character cs (sym c.from-number.ensures ∙ c.if-number-eq65534.true))
    (writes_one g.S.CollationKeySink.effects _ _ _ _ _ _ (g.met.S.CollationKeySink.took_nothing _ _ c.requires) c.write_byte.ensures.outcome)

pub returns-else-number-eq65534-clause-bytes : goal.returns-else-number-eq65534-clause-bytes
returns-else-number-eq65534-clause-bytes g c =
    let e = c.from-number.ensures in
    let n : ℕ = c.args.self.now.base in
    let bytes = difference_bytes (c.from-number.result + 253 ^ 3 - n) in
    feeds_writes g.S.CollationKeySink.effects _ _ _ _ bytes _ _ _
    (λ cs. other_step n c.args.character c.next_base-self.result cs bytes
    (λ same. c.if-number-eq65534.false (e ∙ same))
    (ap (λ k. difference_bytes (k + 253 ^ 3 - n)) e)
    (c.next_base-self.ensures ∙ ap base_after e))
    c.write_difference.ensures.bytes
