-- Before the end is behind all others.
use Rattle.std.proofs.Common.{◌<◌, ◌^◌, [], ◌∷◌, ◌++◌, ◌∙◌, ap, sym, subst}
use Rattle.icu_rule_meaning.specs.weight_tree.inner.LinkStops.{standing_weight}
use Rattle.icu_rule_meaning.specs.weight_tree.inner.SiblingPlaces.{number_in}
use Rattle.icu_rule_meaning.proofs.weight_tree.LinkStopLemmas.{end_stands, in_front_of_end}
use Rattle.icu_rule_meaning.proofs.weight_tree.LinkingLemmas.{weight_of_stop}
use Rattle.icu_rule_meaning.proofs.weight_tree.linked.LinkedWeights.try_push.Goals as goal

pub put-requires : goal.put-requires
put-requires c = record {
  next = end_stands c.args.self.now;
  new = c.if-not-may_push.ensures.0;
  ascends = c.if-not-may_push.ensures.1;
  small =
      subst (λ v. number_in v < 2 ^ 32) (sym (ap standing_weight c.in-Some.ensures.some.0 ∙ weight_of_stop c.args.w)) c.in-Some.ensures.some.1;
}

pub returns-in_ok-put-in-Some : goal.returns-in_ok-put-in-Some
returns-in_ok-put-in-Some c =
    c.in_ok-put-in-Some.ensures
    ∙ (in_front_of_end (standing_weight c.in-Some.stop) c.args.self.now
    ∙ ap (λ v. c.args.self.now ++ v ∷ []) (ap standing_weight c.in-Some.ensures.some.0 ∙ weight_of_stop c.args.w))
