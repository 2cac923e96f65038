use Rattle.std.proofs.Common.{◌≡◌, ap, sym, ◌∙◌, length, vec_len, map, arith}
use Rattle.std.proofs.lemmas.Bool.{eqb-true}
use Rattle.icu_table_provider.specs.builder.AddedContexts.{given_mapping}
use Rattle.icu_table_mappings.proofs.AddedContextLemmas.{context_added, no_context_added, none_given}
use Rattle.icu_table_mappings.proofs.GrownListLemmas.{extends_by_context, extends_itself}
use Rattle.icu_table_provider.specs.builder.Building.{built_data}
use Rattle.icu_table_mappings.proofs.contexts.add_context.Goals as goal

pub returns-then-is_empty-clause-extends : goal.returns-then-is_empty-clause-extends
returns-then-is_empty-clause-extends c = extends_itself (built_data c.args.builder.now)

pub returns-then-is_empty-clause-adds : goal.returns-then-is_empty-clause-adds
returns-then-is_empty-clause-adds c =
    let list = c.in_ok-list.list in
    let same : vec_len list ≡ length list.items = list.ok.0 in
    let none : vec_len list ≡ 0 = eqb-true (vec_len list) 0 (sym c.is_empty.ensures ∙ c.if-is_empty.true) in
    no_context_added (built_data c.args.builder.now) (map given_mapping list.items) c.args.entries.now
    c.in_ok-list.ensures (none_given list.items (omega arith))

pub returns-clause-extends : goal.returns-clause-extends
returns-clause-extends c = extends_by_context (built_data c.args.builder.now) (built_data c.add_context.new.self) _ c.in_ok-add_context.ensures.adds

pub returns-clause-adds : goal.returns-clause-adds
returns-clause-adds c =
    context_added (built_data c.args.builder.now) (built_data c.add_context.new.self) c.in_ok-index.index c.args.default
    (map given_mapping c.as_slice.result.now) c.args.entries.now (c.in_ok-index.ensures.same ∙ c.in_ok-add_context.ensures.index) c.in_ok-add_context.ensures.adds
    (ap (map given_mapping) c.as_slice.ensures.value ∙ c.in_ok-list.ensures) c.requires
