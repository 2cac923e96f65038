use Rattle.std.proofs.Common.{inl, inr, sym, subst, Contains, arith}
use Rattle.std.proofs.lemmas.Bool.{cases_Bool}
use Rattle.icu_table_provider.specs.StoredTables.{reordering_of}
use Rattle.icu_table_weights.specs.WeightSets.{is_three_bytes}
use Rattle.icu_table_weights.proofs.WeightSetLemmas.{in_fits, no_member}
use Rattle.icu_table_weights.proofs.PageLemmas.{below_last}
use Rattle.icu_table_weights.proofs.TargetLemmas.{kept_sample}
use Rattle.icu_table_weights.proofs.lead_samples.lead_samples.Goals as goal

pub loop-lead-init : goal.loop-lead-init
loop-lead-init c = record {
  others = λ w has isnt. c.in_ok-add_samples.ensures.sampled w (subst (λ ws. Contains ws w) (sym c.deref.ensures.value) ((c.in_ok-others.ensures.members w).1 (has, isnt)));
  three = λ w is. absurd (omega (arith, is.before));
  members = λ v h. elim (c.in_ok-add_samples.ensures.only v h) [
    | inl old ↦ absurd (no_member v (subst (λ ws. Contains ws v) c.new-samples.ensures.items old))
    | inr is ↦ ((c.in_ok-others.ensures.members v).0 (subst (λ ws. Contains ws v) c.deref.ensures.value is)).0
  ];
}

pub loop-lead-preserved : goal.loop-lead-preserved
loop-lead-preserved c =
    let r = reordering_of c.args.reordering in
    let before = c.loop-lead.invariant in
    let now = c.in_ok-add_samples-2.ensures in
    record {
      others = λ w has isnt. kept_sample r _ _ w now.keeps (before.others w has isnt);
      three = λ w is. elim (below_last _ c.loop-lead.lead is.before) [
        | inl earlier ↦ kept_sample r _ _ w now.keeps (before.three w (record { has = is.has; three = is.three; before = earlier }))
        | inr same ↦ now.sampled w (subst (λ ws. Contains ws w) (sym c.deref-in-loop-lead.ensures.value) ((c.in_ok-list.ensures w).1 (record { has = is.has; three = is.three; of_lead = omega (arith, same) })))
      ];
      members = λ v h. elim (now.only v h) [
        | inl old ↦ before.members v old
        | inr is ↦ ((c.in_ok-list.ensures v).0 (subst (λ ws. Contains ws v) c.deref-in-loop-lead.ensures.value is)).has
      ];
    }

pub returns-clause-sampled : goal.returns-clause-sampled
returns-clause-sampled c = λ w has.
    elim (cases_Bool (is_three_bytes w)) [
      | inl is ↦ c.loop-lead.invariant.three w (record { has = has; three = is; before = omega (arith, in_fits c.args.set.now w has) })
      | inr isnt ↦ c.loop-lead.invariant.others w has isnt
    ]
