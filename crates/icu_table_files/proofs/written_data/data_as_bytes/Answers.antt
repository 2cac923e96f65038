use Rattle.std.proofs.Common.{[], ◌∷◌, ◌∙◌, map, sym}
use Rattle.std.specs.Int.{w16, w32, w64}
use Rattle.std.specs.List.{flat_map}
use Rattle.icu_table_entries.specs.Elements.{element_of}
use Rattle.icu_table_files.specs.fingerprint.FingerprintForms.{StoredData, context_words, mapping_words}
use Rattle.icu_table_files.specs.parts.SpeltParts.{bytes_of_numbers}
use Rattle.icu_table_files.proofs.PushLemmas.{one_pushed}
use Rattle.icu_table_files.proofs.written_data.data_as_bytes.Goals as goal

pub returns : goal.returns
returns c =
    let blocks = bytes_of_numbers w16 c.parts-2.result.0.now in
    let values = bytes_of_numbers w32 c.parts-2.result.1.now in
    let elements = bytes_of_numbers w64 c.parts.result.1.now in
    let entries = bytes_of_numbers w32 c.parts.result.2.now in
    let contexts = bytes_of_numbers w32 (flat_map context_words c.parts-3.result.0.now) in
    let mappings = bytes_of_numbers w32 (flat_map mapping_words c.parts-3.result.1.now) in
    let chars = bytes_of_numbers w32 c.parts-3.result.2.now in
    let one = one_pushed [] blocks _ _ (sym c.new-bytes.ensures.items) c.in_ok-push_u16s.ensures.pushed in
    let two = one_pushed (blocks ∷ []) values _ _ one c.in_ok-push_u32s.ensures.pushed in
    let three = one_pushed (blocks ∷ values ∷ []) elements _ _ two c.in_ok-push_u64s.ensures.pushed in
    let four = one_pushed (blocks ∷ values ∷ elements ∷ []) entries _ _ three c.in_ok-push_u32s-2.ensures.pushed in
    let five = one_pushed (blocks ∷ values ∷ elements ∷ entries ∷ []) contexts _ _ four c.in_ok-push_contexts.ensures.pushed in
    let six = one_pushed (blocks ∷ values ∷ elements ∷ entries ∷ contexts ∷ []) mappings _ _ five c.in_ok-push_mappings.ensures.pushed in
    record {
      stored = record {
        blocks = c.parts-2.result.0.now;
        values = c.parts-2.result.1.now;
        elements = c.parts.result.1.now;
        entries = c.parts.result.2.now;
        contexts = c.parts-3.result.0.now;
        mappings = c.parts-3.result.1.now;
        chars = c.parts-3.result.2.now;
      };
      is = (λ i. record { value = c.parts-2.ensures.value i; elements = map element_of c.parts.result.1.now; entries = c.parts.result.2.now; contexts = c.parts-3.ensures.value i })
          ∙ c.parts.ensures.value;
      storable = record {
        widths = record {
          blocks = c.push_u16s.ensures.range;
          values = c.push_u32s.ensures.range;
          elements = c.push_u64s.ensures.range;
          entries = c.push_u32s-2.ensures.range;
          contexts = c.in_ok-push_contexts.ensures.range;
          mappings = c.in_ok-push_mappings.ensures.range;
          chars = c.in_ok-push_chars.ensures.chars;
        };
        table = c.parts-2.ensures.table;
        context_table = c.parts-3.ensures.table;
      };
      spelt = one_pushed (blocks ∷ values ∷ elements ∷ entries ∷ contexts ∷ mappings ∷ []) chars _ _ six c.in_ok-push_chars.ensures.pushed;
    }
