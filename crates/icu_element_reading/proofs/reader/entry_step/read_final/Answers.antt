use Rattle.std.proofs.Common.{refl, ap, ◌∙◌, ◌∷◌, List, ℕ}
use Rattle.icu_table_data.specs.Data.{homed}
use Rattle.icu_table_data.specs.Final.{final_elements}
use Rattle.icu_table_data.specs.StoredData.{data_of}
use Rattle.icu_element_reading.specs.TextElements.{last_two}
use Rattle.icu_element_reading.specs.LastChars.{recent_chars}
use Rattle.icu_element_reading.proofs.ReaderLemmas.{on_ok, fold_pushed}
use Rattle.icu_element_reading.proofs.reader.entry_step.read_final.Goals as goal

pub returns : goal.returns
returns c =
    on_ok c.visit_elements.result _ _ (λ seen. record {
      elements = seen ∙ fold_pushed c.args.list.now.elements.items (final_elements (homed (data_of c.args.home) c.args.ce32) c.args.c);
      recent = c.push_with.ensures ∙ ap (λ (l : List ℕ). last_two (recent_chars c.args.at.now.recent) (c.args.c ∷ l)) c.as_slice.ensures.value;
      rest = refl;
    }) c.visit_elements.ensures
