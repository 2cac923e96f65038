use Rattle.std.proofs.Common.{◌≡◌, suc, ◌++◌, ◌∷◌, ◌+◌, ◌∙◌, List, [], take, sym, ap, subst, append_assoc, arith}
use Rattle.std.proofs.lemmas.List.{take_all}
use Rattle.std.proofs.Math.Seq.{take-suc}
use Rattle.icu_table_entries.specs.Elements.{Element}
use Rattle.icu_search_places.specs.LevelWalks.{HasGoneAlong}
use Rattle.icu_search_places.proofs.level_walks.LevelWalk.walk.Goals as goal

pub loop-element-preserved : goal.loop-element-preserved
loop-element-preserved c = record {
  walked = λ es h.
      let i = c.loop-element.element-index in
      let more = c.args.more.now in
      let x = c.element-item.result in
      let now = c.pass.ensures.walked (es ++ take i more) (c.loop-element.invariant.walked es h) in
      let after : suc i ≡ i + 1 = omega arith in
      let grown =
      ap (λ (y : Element). take i more ++ y ∷ []) c.element-item.is ∙ sym (take-suc more i x c.loop-element-test.true) ∙ ap (λ n. take n more) after in
      subst (λ (l : List Element). HasGoneAlong c.pass.new.self l) (append_assoc es (take i more) (x ∷ []) ∙ ap (λ (l : List Element). es ++ l) grown) now;
  level = c.pass.ensures.level ∙ c.loop-element.invariant.level;
}

pub returns-clause-walked : goal.returns-clause-walked
returns-clause-walked c = λ es h.
    subst (λ (l : List Element). HasGoneAlong c.loop-element.self (es ++ l)) (take_all c.loop-element.element-index c.args.more.now c.loop-element-test.false) (c.loop-element.invariant.walked es h)
