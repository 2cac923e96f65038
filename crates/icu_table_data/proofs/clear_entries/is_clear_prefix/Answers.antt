use Rattle.std.proofs.Common.{◌∙◌, ap}
use Rattle.icu_table_data.specs.Data.{homed, context_of}
use Rattle.icu_table_data.specs.StoredData.{data_of}
use Rattle.icu_table_data.proofs.CharacterWalkLemmas.{still_clear}
use Rattle.icu_table_data.proofs.ClearLemmas.{prefix_clear}
use Rattle.icu_table_data.proofs.clear_entries.is_clear_prefix.Goals as goal

pub returns-clause-clear : goal.returns-clause-clear
returns-clause-clear c =
    let x = c.context_of-context.result in
    let found = c.context_of-context.ensures ∙ ap (λ e. context_of (homed (data_of c.args.home) e)) c.new.ensures in
    still_clear c.args.part (data_of c.args.home) _ _ c.args.bits c.remember.ensures
    (prefix_clear c.args.part (data_of c.args.home) c.args.bits x.default x.chars.now x.mappings.now c.requires.prefix found
    (c.is_clear_contraction.ensures.none c.if-not-is_clear_contraction.false) (c.are_clear_mappings.ensures.none c.if-not-are_clear_mappings.false))
    c.are_clear_mappings.ensures.clear

pub returns-clause-none : goal.returns-clause-none
returns-clause-none c clear =
    let x = c.context_of-context.result in
    let found = c.context_of-context.ensures ∙ ap (λ e. context_of (homed (data_of c.args.home) e)) c.new.ensures in
    prefix_clear c.args.part (data_of c.args.home) c.args.bits x.default x.chars.now x.mappings.now c.requires.prefix found
    (c.is_clear_contraction.ensures.none c.if-not-is_clear_contraction.false) (c.are_clear_mappings.ensures.none c.if-not-are_clear_mappings.false)
