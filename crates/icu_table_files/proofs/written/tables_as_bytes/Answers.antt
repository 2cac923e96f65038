use Rattle.std.proofs.Common.{[], ◌∷◌, ◌∙◌, ap, sym, subst}
use Rattle.std.specs.Prelude.{option_map}
use Rattle.std.specs.Int.{w16, w32}
use Rattle.icu_table_provider.specs.Diacritics.{IsDiacritics}
use Rattle.icu_table_provider.specs.Jamo.{IsJamo}
use Rattle.icu_table_provider.specs.StoredTables.{reordering_of, special_of}
use Rattle.icu_table_files.specs.parts.SpeltParts.{bytes_of_numbers, bytes_of_parts}
use Rattle.icu_table_files.proofs.PushLemmas.{one_pushed}
use Rattle.icu_table_files.proofs.written.tables_as_bytes.Goals as goal

pub returns : goal.returns
returns c =
    let d = c.in_ok-root.ensures in
    let t = c.in_ok-tailoring.ensures in
    let p = c.in_ok-special.ensures in
    let r = c.in_ok-reordering.ensures in
    let root = c.as_slice.result.now in
    let tailoring = c.as_slice-2.result.now in
    let jamo = bytes_of_numbers w32 c.ce32s.result.now in
    let diacritics = bytes_of_numbers w16 c.secondaries.result.now in
    let special = c.as_slice-3.result.now in
    let bits = bytes_of_numbers w32 (c.metadata.result.bits ∷ []) in
    let reordering = c.as_slice-4.result.now in
    let one = one_pushed [] root _ _ (sym c.new-bytes.ensures.items) c.in_ok-push_part.ensures in
    let two = one_pushed (root ∷ []) tailoring _ _ one c.in_ok-push_part-2.ensures in
    let three = one_pushed (root ∷ tailoring ∷ []) jamo _ _ two c.in_ok-push_u32s.ensures.pushed in
    let four = one_pushed (root ∷ tailoring ∷ jamo ∷ []) diacritics _ _ three c.in_ok-push_u16s.ensures.pushed in
    let five = one_pushed (root ∷ tailoring ∷ jamo ∷ diacritics ∷ []) special _ _ four c.in_ok-push_part-3.ensures in
    let six = one_pushed (root ∷ tailoring ∷ jamo ∷ diacritics ∷ special ∷ []) bits _ _ five c.in_ok-push_u32s-2.ensures.pushed in
    let whole = one_pushed (root ∷ tailoring ∷ jamo ∷ diacritics ∷ special ∷ bits ∷ []) reordering _ _ six c.in_ok-push_part-4.ensures in
    let is_root = d.spelt ∙ sym c.as_slice.ensures.value in
    let is_tailoring = t.spelt ∙ sym c.as_slice-2.ensures.value in
    let is_special = p.spelt ∙ sym c.as_slice-3.ensures.value in
    let is_reordering = r.spelt ∙ sym c.as_slice-4.ensures.value in
    record {
      stored = record {
        root = d.stored;
        tailoring = t.stored;
        jamo = c.ce32s.result.now;
        diacritics = c.secondaries.result.now;
        last = (special_of c.special_primaries.result).last;
        numeric = (special_of c.special_primaries.result).numeric;
        bits = c.metadata.result.bits;
        reordering = option_map reordering_of c.reordering.result;
      };
      is = λ i. record {
        tables = record {
          root = (d.is ∙ c.root.ensures) i;
          tailoring = (t.is ∙ c.tailoring.ensures) i;
          jamo = (c.ce32s.ensures.value ∙ c.jamo.ensures) i;
          diacritics = (c.secondaries.ensures.value ∙ c.diacritics.ensures) i;
        };
        special = c.special_primaries.ensures i;
        bits = c.metadata.ensures i;
        reordering = c.reordering.ensures i;
      };
      storable = record {
        root = d.storable;
        tailoring = t.storable;
        jamo = c.push_u32s.ensures.range;
        is_jamo = subst IsJamo (sym c.ce32s.ensures.value) c.ce32s.ensures.jamo;
        diacritics = c.push_u16s.ensures.range;
        is_diacritics = subst IsDiacritics (sym c.secondaries.ensures.value) c.secondaries.ensures.diacritics;
        last = p.widths;
        is_special = p.is_special;
        bits = c.push_u32s-2.ensures.range 0;
        reordering = r.storable;
      };
      spelt = ap bytes_of_parts (λ i. is_root i ∷ is_tailoring i ∷ jamo ∷ diacritics ∷ is_special i ∷ bits ∷ is_reordering i ∷ []) ∙ whole;
    }
