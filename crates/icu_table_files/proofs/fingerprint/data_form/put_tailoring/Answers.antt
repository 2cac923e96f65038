use Rattle.std.proofs.Common.{◌∙◌, Some, ap, sym}
use Rattle.std.specs.Prelude.{option_map}
use Rattle.icu_table_data.specs.StoredData.{data_of}
use Rattle.icu_table_files.proofs.fingerprint.WordHandings.{hands_more}
use Rattle.icu_table_files.proofs.fingerprint.data_form.put_tailoring.Goals as goal

pub returns-in-Some : goal.returns-in-Some
returns-in-Some c = record {
  stored = Some c.put_data.ensures.stored;
  is = ap (λ d. Some d) c.put_data.ensures.is ∙ ap (option_map data_of) (sym c.in-Some.is);
  hands = hands_more _ _ _ _ _ c.put.ensures c.put_data.ensures.hands;
}
