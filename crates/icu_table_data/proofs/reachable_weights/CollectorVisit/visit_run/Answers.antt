use Rattle.std.proofs.Common.{◌≡◌, ◌+◌, ◌-◌, arith, ap, ◌∙◌, refl}
use Rattle.icu_table_entries.specs.Weights.{offset_element}
use Rattle.icu_table_data.specs.StoredData.{data_of}
use Rattle.icu_table_data.specs.inner.Visitors.{holds, collected}
use Rattle.icu_table_data.proofs.RunLemmas.{ran_none, ran_on}
use Rattle.icu_table_data.proofs.reachable_weights.CollectorVisit.visit_run.Goals.{in-Some-from_u32+in_ok-visit-2, in_default-from_u32}
use Rattle.icu_table_data.proofs.reachable_weights.CollectorVisit.visit_run.Goals as goal

pub loop-code-init : goal.loop-code-init
loop-code-init g c = record {
  ran =
      ran_on g.W.Weigh.weight (data_of c.args.home) c.args.first c.args.entry c.in-Some.data c.in-Some.ensures _ _ _ 0 (c.args.first + 1 - c.args.first)
      c.args.first (omega arith) (omega arith) (omega arith) (ran_none g.W.Weigh.weight (data_of c.args.home) c.args.first c.args.entry _ 0 refl)
      (c.in_ok-visit.ensures ∙ ap (collected g.W.Weigh.weight (c.args.self.now.weigh.now, holds (g.H.HoldWeights.weights c.args.self.now.weights))) c.offset_element-element.ensures.value);
  last =
      let same : c.args.first ≡ c.args.first + 1 - 1 = omega arith in
      c.offset_element-element.ensures.value ∙ ap (offset_element c.in-Some.data) same;
}

pub loop-code-preserved : goal.loop-code-preserved
loop-code-preserved g c =
    elim c.match-from_u32.branch [
      | in-Some-from_u32+in_ok-visit-2 w ↦
          let is = w.in-Some-from_u32.ensures.value.1 in
          record {
            ran =
                ran_on g.W.Weigh.weight (data_of c.args.home) c.args.first c.args.entry c.in-Some.data c.in-Some.ensures _ _ _ (c.loop-code.code - c.args.first) (c.loop-code.code + 1 - c.args.first)
                w.in-Some-from_u32.c (omega arith) (omega (arith, is)) (omega arith) c.loop-code.invariant.ran
                (rw (w.self-is) (w.in_ok-visit-2.ensures ∙ ap (collected g.W.Weigh.weight (c.loop-code.self.weigh.now, holds (g.H.HoldWeights.weights c.loop-code.self.weights))) w.next_offset_element-element.ensures));
            last =
                let same : w.in-Some-from_u32.c ≡ c.loop-code.code + 1 - 1 = omega (arith, is) in
                w.element-is ∙ w.next_offset_element-element.ensures ∙ ap (offset_element c.in-Some.data) same;
          }
      | in_default-from_u32 w ↦ absurd (w.in_default-from_u32.ensures.value (c.requires c.loop-code.code (omega arith) (omega arith)))
    ]
