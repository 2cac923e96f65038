use Rattle.std.proofs.Common.{ℕ, ◌≡◌, ◌/◌, ◌^◌, ◌<◌, List, get_or, refl, ◌∙◌, rules, arith}
use Rattle.std.proofs.lemmas.List.{length-set}
use Rattle.std.proofs.lemmas.List.Elements.{All-from_get_or}
use Rattle.icu_rule_weights.specs.declared.lead_use.LeadUse.{LeadUse}
use Rattle.icu_rule_weights.specs.inner.LeadUses.{use_of, IsUsedBy}
use Rattle.icu_rule_weights.proofs.LeadUseLemmas.{used_more}
use Rattle.icu_rule_weights.proofs.lead_use.lead_uses.Goals as goal

pub loop-weight-preserved : goal.loop-weight-preserved
loop-weight-preserved c = record {
  long = length-set c.loop-weight.uses c.from.result c.use_of.result ∙ c.loop-weight.invariant.long;
  used = λ root.
      let ws : List ℕ = c.args.weights.now in
      let i : ℕ = c.loop-weight.weight-index in
      let w : ℕ = get_or ws i 0 in
      let uses : List LeadUse = c.loop-weight.uses in
      let short : w < 2 ^ 16 = search rules in
      let more = used_more ws uses i w c.loop-weight.invariant.long c.loop-weight-test.true refl short root (c.loop-weight.invariant.used root) in
      let lead : c.from.result ≡ w / 256 = c.from.ensures in
      let own : c.use_of.result ≡ use_of w = c.use_of.ensures in
      rw (lead, own) more;
}

pub returns : goal.returns
returns c = λ root. All-from_get_or (IsUsedBy c.loop-weight.uses) c.args.weights.now 0 (λ k l. c.loop-weight.invariant.used root k (omega arith))
