use Rattle.std.proofs.Common.{◌≡◌, ◌<◌, ◌∙◌, sym, ap, subst, length, slice_index_or, rules}
use Rattle.icu_table_data.specs.Data.{HomedEntry, Data, Context, context_of, no_context}
use Rattle.icu_table_data.specs.StoredData.{data_of, found_context}
use Rattle.icu_table_entries.specs.Entries.{kind_of}
use Rattle.icu_table_entries.specs.declared.entry.EntryKind.TheVariants.{Contraction}
use Rattle.icu_table_provider.specs.Tables.{entry_of}
use Rattle.icu_element_reading.specs.Reading.{reading_of, element_tables}
use Rattle.icu_element_reading.proofs.LoneStepLemmas.{context_inside, direct_or_looked, if_ok}
use Rattle.icu_element_reading.proofs.reader.lone_step.contraction_step.Goals as goal

pub get_context-context-requires : goal.get_context-context-requires
get_context-context-requires g c =
    let home : Data = data_of c.entry-entry.result.home in
    subst (λ n. n < length home.contexts) (sym c.index.ensures.value)
    (context_inside home c.args.c c.entry-entry.result.ce32 c.entry-entry.ensures.well_formed (search rules))

pub returns-in-Contraction-clause-step : goal.returns-in-Contraction-clause-step
returns-in-Contraction-clause-step g c =
    let home : Data = data_of c.entry-entry.result.home in
    let own : HomedEntry = entry_of (element_tables c.args.reading.tables) c.args.c in
    let context : Context = found_context c.get_context-context.result in
    let is : kind_of c.entry-entry.result.ce32 ≡ Contraction = search rules in
    let kind : kind_of own.entry ≡ Contraction = ap (λ (h : HomedEntry). kind_of h.entry) c.entry-entry.ensures.value ∙ is in
    let of : context ≡ context_of own =
    c.get_context-context.ensures.value ∙ ap (λ n. slice_index_or home.contexts n no_context) c.index.ensures.value ∙ ap context_of (sym c.entry-entry.ensures.value) in
    if_ok c.take_direct.result _ _ _
    (direct_or_looked g.I.Iterator.next_gives (reading_of c.args.reading) c.args.c c.args.source.now c.take_direct.new.source c.args.at.now _ context c.requires.no_diacritic kind of c.get_context-context.ensures.ascending)
    c.take_direct.ensures.text c.take_direct.ensures.recent
