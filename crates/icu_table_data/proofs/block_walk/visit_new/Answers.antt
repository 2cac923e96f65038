use Rattle.std.proofs.Common.{◌∙◌, ap, rules}
use Rattle.std.specs.Char.{IsScalar}
use Rattle.icu_table_data.specs.Reachable.{reachable_from}
use Rattle.icu_table_data.specs.StoredData.{data_of}
use Rattle.icu_table_data.specs.Walks.{after_all}
use Rattle.icu_table_data.proofs.SpentLemmas.{known_itself, spent_none, spent_all, spent_remembered, where_walked}
use Rattle.icu_table_data.proofs.block_walk.visit_new.Goals as goal

pub returns-then-is_self_contained : goal.returns-then-is_self_contained
returns-then-is_self_contained g c =
    let scalar : IsScalar c.args.c = search rules in
    where_walked c.visit_alone.result _ _
    (λ added. spent_all g.V.Visit.after c.args.falls_back (data_of c.args.home) _ _ _ c.args.c (reachable_from (data_of c.args.home) c.args.bits) scalar c.requires
    (added ∙ ap (λ e. after_all g.V.Visit.after (g.V.Visit.seen c.args.visitor.now) (data_of c.args.home) c.args.c (reachable_from (data_of c.args.home) e)) c.new-entry.ensures))
    c.visit_alone.ensures

pub returns-then-has : goal.returns-then-has
returns-then-has g c =
    spent_none g.V.Visit.after c.args.falls_back (data_of c.args.home) _ _ _ (λ f has shared. known_itself (data_of c.args.home) c.args.seen.now c.args.bits f (c.has.ensures c.if-has.true) has)

pub returns : goal.returns
returns g c =
    let scalar : IsScalar c.args.c = search rules in
    spent_remembered g.V.Visit.after c.args.falls_back (data_of c.args.home) _ _ _ _ _ c.args.bits c.remember.ensures
    (spent_all g.V.Visit.after c.args.falls_back (data_of c.args.home) _ _ _ c.args.c (reachable_from (data_of c.args.home) c.args.bits) scalar c.requires
    (c.in_ok-visit_from.ensures ∙ ap (λ e. after_all g.V.Visit.after (g.V.Visit.seen c.args.visitor.now) (data_of c.args.home) c.args.c (reachable_from (data_of c.args.home) e)) c.new-entry.ensures))
