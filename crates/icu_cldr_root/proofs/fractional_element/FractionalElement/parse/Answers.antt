use Rattle.std.proofs.Common.{inl, rules}
use Rattle.std.proofs.lemmas.Result.{IfOk-weaker}
use Rattle.icu_cldr_root.proofs.fractional_element.FractionalElement.parse.Goals as goal

pub returns-in-Some-split_once : goal.returns-in-Some-split_once
returns-in-Some-split_once c =
    IfOk-weaker c.of_three.result _ _
    (λ e h. inl (
      c.in-Some.first.now,
      c.in-Some.weights.now,
      c.in-Some-split_once.second.now,
      c.in-Some-split_once.third.now,
      search rules,
      search rules,
      h.0,
      h.1,
      h.2,
    )) c.of_three.ensures
