use Rattle.icu_rule_weights.specs.inner.LeadUses.{KeepUses}
use Rattle.icu_rule_weights.proofs.lead_room.make_room.Given as goal

abbrev pub invariant-loop-lead : goal.invariant-loop-lead
invariant-loop-lead l = KeepUses l.fn.uses l.uses
