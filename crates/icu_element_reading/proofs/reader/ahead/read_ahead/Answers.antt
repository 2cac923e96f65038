use Rattle.std.proofs.Common.{◌≡◌, ◌<◌, true, false, is_some, length, slice_index_or, sym, ap, subst, ◌∙◌, rules}
use Rattle.icu_table_entries.specs.Entries.{kind_of, entry_index}
use Rattle.icu_table_entries.specs.declared.entry.EntryKind.TheVariants.{Contraction}
use Rattle.icu_table_data.specs.Data.{Data, no_context}
use Rattle.icu_table_data.specs.StoredData.{data_of, found_context}
use Rattle.icu_table_provider.specs.Tables.{diacritic_of}
use Rattle.icu_element_matches.proofs.MatchLemmas.{prefix_inside, contraction_inside}
use Rattle.icu_element_reading.specs.Reading.{element_tables, reading_of}
use Rattle.icu_element_reading.specs.LastChars.{recent_chars}
use Rattle.icu_element_reading.proofs.AheadLemmas.{HasWholeStep-by_dot, HasWholeStep-by_run, HasWholeStep-by_contraction}
use Rattle.icu_element_reading.proofs.ReaderLemmas.{on_ok}
use Rattle.icu_element_reading.proofs.ReadsAheadLemmas.{ReadsTo-weaker}
use Rattle.icu_element_reading.proofs.reader.ahead.read_ahead.Goals as goal

pub returns-then-is_some-clause-text : goal.returns-then-is_some-clause-text
returns-then-is_some-clause-text g c =
    let there : is_some (diacritic_of (element_tables c.args.reading.tables) c.args.c) ≡ true = search rules in
    on_ok c.read_dot.result _ _
    (λ reads. ReadsTo-weaker g.I.Iterator.next_gives _ _ _ _ _ _ (HasWholeStep-by_dot (reading_of c.args.reading) (recent_chars c.args.recent) c.args.c _ there) reads)
    c.read_dot.ensures.text

pub after_prefix-ce32-requires : goal.after_prefix-ce32-requires
after_prefix-ce32-requires g c = prefix_inside (data_of c.entry-entry.result.home) c.args.c c.entry-entry.result.ce32 c.entry-entry.ensures.well_formed

pub get_context-requires : goal.get_context-requires
get_context-requires g c =
    let home : Data = data_of c.entry-entry.result.home in
    let same = c.after_prefix-ce32.ensures in
    subst (λ n. n < length home.contexts) (sym c.index.ensures.value) (subst (λ e. entry_index e < length home.contexts) (sym same)
    (contraction_inside home c.args.c c.entry-entry.result.ce32 c.as_slice.result.now c.entry-entry.ensures.well_formed (sym (ap kind_of same) ∙ search rules)))

pub returns-in-Contraction-clause-text : goal.returns-in-Contraction-clause-text
returns-in-Contraction-clause-text g c =
    let home : Data = data_of c.entry-entry.result.home in
    let none : is_some (diacritic_of (element_tables c.args.reading.tables) c.args.c) ≡ false = search rules in
    let is : kind_of c.after_prefix-ce32.result ≡ Contraction = search rules in
    on_ok c.read_contraction.result _ _
    (λ reads.
    ReadsTo-weaker g.I.Iterator.next_gives _ _ _ _ _ _
    (HasWholeStep-by_contraction (reading_of c.args.reading) (recent_chars c.args.recent) c.args.c home c.entry-entry.result.ce32 c.after_prefix-ce32.result none c.entry-entry.ensures.value (search rules)
    (found_context c.get_context.result) is (c.get_context.ensures.value ∙ ap (λ n. slice_index_or home.contexts n no_context) c.index.ensures.value) c.get_context.ensures.ascending _) reads)
    c.read_contraction.ensures.text

pub returns-in_default : goal.returns-in_default
returns-in_default g c =
    let home : Data = data_of c.entry-entry.result.home in
    let none : is_some (diacritic_of (element_tables c.args.reading.tables) c.args.c) ≡ false = search rules in
    record {
      ready = c.read_number.ensures.ready;
      text =
          on_ok c.read_number.result _ _
          (λ reads.
          ReadsTo-weaker g.I.Iterator.next_gives _ _ _ _ _ _
          (HasWholeStep-by_run (reading_of c.args.reading) (recent_chars c.args.recent) c.args.c home c.entry-entry.result.ce32 c.after_prefix-ce32.result none c.entry-entry.ensures.value (search rules)
          (λ is. c.in_default.not-Contraction (c.kind.ensures ∙ is)) _) reads)
          c.read_number.ensures.text;
      size = c.read_number.ensures.size;
    }
