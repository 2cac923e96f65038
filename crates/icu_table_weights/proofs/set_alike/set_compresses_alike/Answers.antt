use Rattle.std.proofs.Common.{ℕ, List, sym, subst, Contains}
use Rattle.icu_table_provider.specs.StoredTables.{reordering_of, special_of}
use Rattle.icu_table_weights.specs.WeightSets.{weights_of_set}
use Rattle.icu_table_weights.specs.inner.Targets.{IsSampled}
use Rattle.icu_table_weights.proofs.TargetLemmas.{alike_by_samples, samples_alike, apart_by_samples}
use Rattle.icu_table_weights.proofs.set_alike.set_compresses_alike.Goals as goal

pub returns-clause-alike : goal.returns-clause-alike
returns-clause-alike c =
    let ws = weights_of_set c.args.set.now in
    let samples : List ℕ = c.deref.result.now in
    let members : (v : ℕ) → Contains samples v → Contains ws v = λ v h. c.in_ok-samples.ensures.members v (subst (λ l. Contains l v) c.deref.ensures.value h) in
    let sampled : (w : ℕ) → Contains ws w → IsSampled (reordering_of c.args.reordering) samples w =
    λ w has. subst (λ l. IsSampled (reordering_of c.args.reordering) l w) (sym c.deref.ensures.value) (c.in_ok-samples.ensures.sampled w has) in (
      λ t. alike_by_samples ws samples (special_of c.args.special) (reordering_of c.args.reordering) members sampled (c.compress_alike.ensures.alike.0 t),
      λ alike. c.compress_alike.ensures.alike.1 (samples_alike ws samples (special_of c.args.special) (reordering_of c.args.reordering) members alike),
    )

pub returns-clause-apart : goal.returns-clause-apart
returns-clause-apart c = λ h.
    apart_by_samples (weights_of_set c.args.set.now) c.deref.result.now (special_of c.args.special) (reordering_of c.args.reordering)
    (λ v m. c.in_ok-samples.ensures.members v (subst (λ l. Contains l v) c.deref.ensures.value m)) (c.compress_alike.ensures.apart h)
