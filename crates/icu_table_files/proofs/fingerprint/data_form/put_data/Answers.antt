use Rattle.std.proofs.Common.{◌∙◌, map}
use Rattle.icu_table_entries.specs.Elements.{element_of}
use Rattle.icu_table_files.proofs.fingerprint.WordHandings.{hands_more}
use Rattle.icu_table_files.proofs.fingerprint.data_form.put_data.Goals as goal

pub returns : goal.returns
returns c = record {
  stored = record {
    blocks = c.parts-2.result.0.now;
    values = c.parts-2.result.1.now;
    elements = c.parts.result.1.now;
    entries = c.parts.result.2.now;
    contexts = c.parts-3.result.0.now;
    mappings = c.parts-3.result.1.now;
    chars = c.parts-3.result.2.now;
  };
  is = (λ i. record { value = c.parts-2.ensures.value i; elements = map element_of c.parts.result.1.now; entries = c.parts.result.2.now; contexts = c.parts-3.ensures.value i })
      ∙ c.parts.ensures.value;
  hands = hands_more _ _ _ _ _ c.put_u16s.ensures (hands_more _ _ _ _ _ c.put_u32s.ensures (hands_more _ _ _ _ _ c.put_u64s.ensures (hands_more _ _ _ _ _ c.put_u32s-2.ensures
      (hands_more _ _ _ _ _ c.put_contexts.ensures (hands_more _ _ _ _ _ c.put_mappings.ensures c.put_chars.ensures)))));
}
