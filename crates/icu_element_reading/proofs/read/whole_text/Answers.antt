use Rattle.std.proofs.Common.{◌≡◌, [], ◌∷◌, ◌++◌, ap, sym, ◌∙◌, append_assoc, append-nil, rules}
use Rattle.icu_element_reading.proofs.read.whole_text.Goals as goal

pub loop-item-preserved : goal.loop-item-preserved
loop-item-preserved g c =
    let step = rw c.in_ok-item.was at c.in-Some.ensures.steps in (
      step.again,
      λ cs h.
          let now = c.loop-item.invariant.1 cs h in
          let next = step.first.at now.0 now.1 in
          let pushed : c.push.new.self.items ≡ c.loop-item.text.items ++ c.in_ok-item.field-0 ∷ [] = search rules in
          (next.0, next.2, ap (λ l. l ++ next.0) pushed ∙ append_assoc _ (_ ∷ []) next.0 ∙ ap (λ l. c.loop-item.text.items ++ l) (sym next.1) ∙ now.2),
    )

pub returns : goal.returns
returns g c = λ cs h.
    let now = c.loop-item.invariant.1 cs h in
    let none = (c.in_default.ensures.steps.first.at now.0 now.1).0 in
    sym (append-nil _) ∙ ap (λ l. c.loop-item.text.items ++ l) (sym none) ∙ now.2
