use Rattle.std.proofs.Common.{inl, inr, sym, subst, option_map, Contains, arith}
use Rattle.icu_table_provider.specs.StoredTables.{reordering_of}
use Rattle.icu_table_weights.specs.Overlaps.{written_bytes}
use Rattle.icu_table_weights.specs.WeightSets.{weights_of_set}
use Rattle.icu_table_weights.specs.inner.Targets.{ArePrefixFree}
use Rattle.icu_table_weights.proofs.WeightSetLemmas.{in_fits}
use Rattle.icu_table_weights.proofs.PageLemmas.{below_last}
use Rattle.icu_table_weights.proofs.TargetLemmas.{cons_among, overlaps_among}
use Rattle.icu_table_weights.proofs.targets.overlap_with.Goals as goal

pub returns-in-Some-clause-overlaps : goal.returns-in-Some-clause-overlaps
returns-in-Some-clause-overlaps c =
    overlaps_among (written_bytes (option_map reordering_of c.args.reordering)) _ (weights_of_set c.args.set.now) _ _
    (cons_among c.deref.result.now (weights_of_set c.args.set.now) c.args.weight c.requires (λ v h. ((c.in_ok-list.ensures v).0 (subst (λ l. Contains l v) c.deref.ensures.value h)).has))
    c.in-Some.ensures.overlaps

pub loop-lead-preserved : goal.loop-lead-preserved
loop-lead-preserved c = λ v is.
    elim (below_last _ c.loop-lead.lead is.before) as (λ _. ArePrefixFree (written_bytes (option_map reordering_of c.args.reordering)) v c.args.weight) [
      | inl earlier ↦ c.loop-lead.invariant v (record { has = is.has; three = is.three; before = earlier })
      | inr same ↦ c.overlap_in_list.ensures.none c.in_default.is v (subst (λ l. Contains l v) (sym c.deref.ensures.value) ((c.in_ok-list.ensures v).1 (record { has = is.has; three = is.three; of_lead = omega (arith, same) })))
    ]

pub returns-clause-none : goal.returns-clause-none
returns-clause-none c = λ _ v has three. c.loop-lead.invariant v (record { has = has; three = three; before = omega (arith, in_fits c.args.set.now v has) })
