use Rattle.std.proofs.Common.{◌≡◌, refl, sym, ◌∙◌}
use Rattle.std.proofs.lemmas.List.{map-id}
use Rattle.std.proofs.lemmas.Iterator.Adapters.{YieldsList-from_vec}
use Rattle.std.proofs.lemmas.Iterator.Consumers.{YieldsList-end}
use Rattle.icu_rule_parser.proofs.ImportLemmas.{replaced_step, replaced_all}
use Rattle.icu_rule_parser.proofs.imports.replaced.Goals as goal

pub loop-placed-preserved : goal.loop-placed-preserved
loop-placed-preserved g c =
    let p = c.in_ok-add_stated.ensures in
    replaced_step {has = g.S.RuleSource.has c.args.source.now} c.loop-placed.yielded c.loop-placed.all.items _
    c.add_stated.new.statements.items p.0 c.in-Some.placed refl p.2 p.1 c.loop-placed.invariant

pub returns : goal.returns
returns g c =
    let gives = c.into_iter-placed-iterator.ensures.into_iter_gives in
    let road = YieldsList-from_vec {s = c.into_iter-placed-iterator.result} c.args.statements.items gives.0
    (gives.1 ∙ c.args.statements.ok.0) in
    let p = YieldsList-end road c.loop-placed.yielded c.loop-placed.placed-iterator c.loop-placed.yielded_by
    c.next.result c.next.new.self c.in-None.is c.next.ensures.steps in
    let whole : c.loop-placed.yielded ≡ c.args.statements.items = sym (map-id c.loop-placed.yielded) ∙ p.0 in
    replaced_all {has = g.S.RuleSource.has c.args.source.now} c.loop-placed.yielded c.args.statements.items
    c.loop-placed.all.items whole c.loop-placed.invariant
