use Rattle.std.proofs.Common.{ℕ, List, get_or, inl, inr, sym, subst, Contains, below_more, arith}
use Rattle.std.proofs.lemmas.List.Elements.{Contains-get_or}
use Rattle.icu_table_provider.specs.StoredTables.{reordering_of}
use Rattle.icu_table_weights.specs.inner.Targets.{IsSampled}
use Rattle.icu_table_weights.proofs.TargetLemmas.{by_index, kept_sample}
use Rattle.icu_table_weights.proofs.lead_samples.add_samples.Goals as goal

pub loop-weight-preserved : goal.loop-weight-preserved
loop-weight-preserved c =
    let r = reordering_of c.args.reordering in
    let ws : List ℕ = c.args.weights.now in
    let before = c.loop-weight.invariant in
    let now = c.in_ok-add_sample.ensures in
    let new : List ℕ = c.add_sample.new.samples.items in
    record {
      sampled = below_more (λ k. IsSampled r new (get_or ws k 0)) c.loop-weight.weight-index (λ k below. kept_sample r _ new (get_or ws k 0) now.keeps (before.sampled k below)) now.sampled;
      keeps = λ v h. now.keeps v (before.keeps v h);
      only = λ v h. elim (now.only v h) [ inl old ↦ before.only v old | inr is ↦ inr (subst (Contains ws) (sym is) (Contains-get_or ws c.loop-weight.weight-index 0 (omega arith))) ];
    }

pub returns-clause-sampled : goal.returns-clause-sampled
returns-clause-sampled c =
    by_index (IsSampled (reordering_of c.args.reordering) c.loop-weight.samples.items) c.args.weights.now (λ k inside. c.loop-weight.invariant.sampled k (omega arith))
