use Rattle.std.proofs.Common.{ℕ, ◌++◌, ◌∙◌, ap, sym}
use Rattle.icu_order_levels.specs.Primaries.{primary_bytes, primary_level}
use Rattle.icu_key_writers.proofs.Writing.{feeds_writes}
use Rattle.icu_key_writers.proofs.primaries.PrimaryWriter.push.Goals as goal

pub returns-clause-bytes : goal.returns-clause-bytes
returns-clause-bytes g c =
    let rules = g.C.PrimaryCompression.compression c.args.compression.now in
    let d : ℕ = c.args.self.now.dropped in
    feeds_writes g.S.CollationKeySink.effects _ _ _ _ (primary_bytes d c.reorder-reordered.result) _ _ _
    (λ ws. sym (ap (λ r. primary_bytes d r ++ primary_level rules c.lead_to_drop-self.result ws) c.reorder-reordered.ensures
    ∙ ap (λ n. primary_bytes d (rules.reorder c.args.weight) ++ primary_level rules n ws) c.lead_to_drop-self.ensures.dropped))
    c.write_primary.ensures.bytes
