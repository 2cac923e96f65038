-- The table that an entry's context is in has it.
use Rattle.std.proofs.Common.{◌≡◌, ◌<◌, [], length, sym, ap, subst, ◌∙◌, rules}
use Rattle.icu_table_entries.specs.declared.entry.EntryKind.TheVariants.{Contraction}
use Rattle.icu_table_entries.specs.Entries.{kind_of, entry_index}
use Rattle.icu_table_data.specs.Data.{Data, homed}
use Rattle.icu_table_data.specs.StoredData.{data_of}
use Rattle.icu_element_matches.proofs.MatchLemmas.{contraction_inside}
use Rattle.icu_element_facts.proofs.KeptBaseLemmas.{own_entry}
use Rattle.icu_element_facts.proofs.contractions.contractions_of.Goals as goal

pub get_context-requires : goal.get_context-requires
get_context-requires c =
    let home : Data = data_of c.homed_entry-ce32.result.0 in
    let e = c.homed_entry-ce32.result.1 in
    let is : kind_of e ≡ Contraction = search rules in
    let same = own_entry (homed home e) [] is in
    let inside = contraction_inside home c.args.c e [] c.homed_entry-ce32.ensures.well_formed (ap kind_of same ∙ is) in
    subst (λ n. n < length home.contexts) (sym c.index.ensures.value) (subst (λ f. entry_index f < length home.contexts) same inside)
