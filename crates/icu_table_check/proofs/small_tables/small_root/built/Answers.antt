-- What the builder was given, step by step.
use Rattle.std.proofs.Common.{ℕ, ◌∷◌, [], ap, subst, ◌∙◌, IfOk}
use Rattle.icu_table_data.specs.Data.{Context, Data}
use Rattle.icu_table_provider.specs.builder.Building.{SaysOfCharacters}
use Rattle.icu_table_provider.specs.builder.OwnedData.{vectors_data}
use Rattle.icu_table_check.specs.small_tables.SmallTables.{letter_a}
use Rattle.icu_table_check.proofs.small_tables.BuiltLemmas.{given_step_by_step, says_if_built}
use Rattle.icu_table_check.proofs.small_tables.small_root.built.Goals as goal

pub returns-clause-says : goal.returns-clause-says
returns-clause-says c =
    let says : Data → Type 0 = λ d. IfOk c.build.result (λ v. SaysOfCharacters d (vectors_data v)) in
    let context : ℕ → ℕ → Context = λ x y. record { default = x; mappings = record { chars = 0x300 ∷ []; entry = y } ∷ [] } in
    let is_context = ap (λ x. context x c.common-2.result) c.common.ensures.entry ∙ ap (context letter_a) c.common-2.ensures.entry in
    says_if_built c.build.result
    (subst says
    (given_step_by_step _ _ _ _ _ _ _ _ c.in_ok-builder.ensures c.implicit.ensures.entry c.in_ok-add_context.ensures.adds is_context c.set_entry.ensures c.contraction.ensures.entry c.set_entry-2.ensures c.common-3.ensures.entry)
    c.build.ensures.says)
