use Rattle.std.proofs.Common.{◌∙◌, [], ◌∷◌, ◌++◌, ap, rules}
use Rattle.std.specs.Char.{IsScalar}
use Rattle.std.proofs.lemmas.List.Elements.{Contains-append_left, Contains-append_right}
use Rattle.icu_table_data.specs.Data.{homed, context_of}
use Rattle.icu_table_data.specs.Reachable.{reachable_contraction}
use Rattle.icu_table_data.specs.StoredData.{data_of}
use Rattle.icu_table_data.specs.inner.BlockWalks.{contraction_entries}
use Rattle.icu_table_data.proofs.ListLemmas.{at_rest}
use Rattle.icu_table_data.proofs.SpentLemmas.{prefix_leads, spent_itself, spent_prefix, spent_remembered}
use Rattle.icu_table_data.proofs.block_walk.visit_new_prefix.Goals as goal

pub visit_new_contraction-requires : goal.visit_new_contraction-requires
visit_new_contraction-requires g c = λ e has.
    let x = c.context_of-context.result in
    let found = c.context_of-context.ensures ∙ ap (λ e. context_of (homed (data_of c.args.home) e)) c.new-entry.ensures in
    c.requires.led e
    (prefix_leads g.V.Visit.after c.args.falls_back (data_of c.args.home) c.args.bits x.default x.chars.now x.mappings.now c.requires.prefix found e
    (at_rest c.args.bits e (reachable_contraction (data_of c.args.home) x.default ++ contraction_entries (data_of c.args.home) x.mappings.now)
    (Contains-append_left (reachable_contraction (data_of c.args.home) x.default) (contraction_entries (data_of c.args.home) x.mappings.now) e has)))

pub visit_new_mappings-requires : goal.visit_new_mappings-requires
visit_new_mappings-requires g c = λ e has.
    let x = c.context_of-context.result in
    let found = c.context_of-context.ensures ∙ ap (λ e. context_of (homed (data_of c.args.home) e)) c.new-entry.ensures in
    c.requires.led e
    (prefix_leads g.V.Visit.after c.args.falls_back (data_of c.args.home) c.args.bits x.default x.chars.now x.mappings.now c.requires.prefix found e
    (at_rest c.args.bits e (reachable_contraction (data_of c.args.home) x.default ++ contraction_entries (data_of c.args.home) x.mappings.now)
    (Contains-append_right (reachable_contraction (data_of c.args.home) x.default) (contraction_entries (data_of c.args.home) x.mappings.now) e has)))

pub returns : goal.returns
returns g c =
    let scalar : IsScalar c.args.c = search rules in
    let x = c.context_of-context.result in
    let found = c.context_of-context.ensures ∙ ap (λ e. context_of (homed (data_of c.args.home) e)) c.new-entry.ensures in
    spent_remembered g.V.Visit.after c.args.falls_back (data_of c.args.home) _ _ _ _ _ c.args.bits c.remember.ensures
    (spent_prefix g.V.Visit.after c.args.falls_back (data_of c.args.home) _ _ _ _ _ _ _ c.args.bits x.default x.chars.now x.mappings.now c.requires.prefix found
    (spent_itself g.V.Visit.after c.args.falls_back (data_of c.args.home) _ _ _ c.args.c c.args.bits _ c.new-entry.ensures scalar
    (λ f has. c.requires.led f
    (prefix_leads g.V.Visit.after c.args.falls_back (data_of c.args.home) c.args.bits x.default x.chars.now x.mappings.now c.requires.prefix found f
    (Contains-append_left (c.args.bits ∷ []) (reachable_contraction (data_of c.args.home) x.default ++ contraction_entries (data_of c.args.home) x.mappings.now) f has)))
    c.in_ok-visit.ensures)
    c.in_ok-visit_new_contraction.ensures c.in_ok-visit_new_mappings.ensures)
