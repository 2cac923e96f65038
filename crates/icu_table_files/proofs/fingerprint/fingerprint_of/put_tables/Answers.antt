use Rattle.std.proofs.Common.{◌∷◌, [], ◌∙◌, ap, subst}
use Rattle.std.specs.Prelude.{option_map}
use Rattle.icu_table_files.specs.fingerprint.inner.HandedWords.{HandsWords}
use Rattle.icu_table_files.proofs.fingerprint.WordHandings.{hands_more}
use Rattle.icu_table_provider.specs.StoredTables.{reordering_of}
use Rattle.icu_table_files.proofs.fingerprint.fingerprint_of.put_tables.Goals as goal

pub returns : goal.returns
returns c =
    let root = c.put_data.ensures.is ∙ c.root.ensures in
    let tailoring = c.put_tailoring.ensures.is ∙ c.tailoring.ensures in
    let jamo = c.ce32s.ensures.value ∙ c.jamo.ensures in
    let diacritics = c.secondaries.ensures.value ∙ c.diacritics.ensures in
    let last = c.last_primaries.ensures.value ∙ ap (λ s. s.last) c.special_primaries-special.ensures in
    let numeric = c.numeric_primary.ensures.value ∙ ap (λ s. s.numeric) c.special_primaries-special.ensures in
    let numeric_word = subst (λ w. HandsWords c.put_u16s-2.new.hasher c.put.new.hasher (w ∷ [])) c.from.ensures c.put.ensures in
    let bits_word = subst (λ w. HandsWords c.put.new.hasher c.put-2.new.hasher (w ∷ [])) c.from-2.ensures c.put-2.ensures in
    record {
      stored = record {
        root = c.put_data.ensures.stored;
        tailoring = c.put_tailoring.ensures.stored;
        jamo = c.ce32s.result.now;
        diacritics = c.secondaries.result.now;
        last = c.last_primaries.result.now;
        numeric = c.numeric_primary.result;
        bits = c.metadata.result.bits;
        reordering = option_map reordering_of c.reordering.result;
      };
      is = λ i. record {
        tables = record { root = root i; tailoring = tailoring i; jamo = jamo i; diacritics = diacritics i };
        special = record { last = last i; numeric = numeric i };
        bits = c.metadata.ensures i;
        reordering = c.reordering.ensures i;
      };
      hands = hands_more _ _ _ _ _ c.put_data.ensures.hands (hands_more _ _ _ _ _ c.put_tailoring.ensures.hands (hands_more _ _ _ _ _ c.put_u32s.ensures
          (hands_more _ _ _ _ _ c.put_u16s.ensures (hands_more _ _ _ _ _ c.put_u16s-2.ensures (hands_more _ _ _ _ _ numeric_word
          (hands_more _ _ _ _ _ bits_word c.put_reordering.ensures))))));
    }
