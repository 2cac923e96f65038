use Rattle.std.proofs.Common.{[], ◌∷◌, ◌∙◌, ap, sym, subst}
use Rattle.std.specs.Str.{IsUtf8}
use Rattle.icu_table_files.specs.parts.SpeltParts.{bytes_of_parts}
use Rattle.icu_table_files.specs.TableBytes.{table_parts}
use Rattle.icu_table_files.proofs.PushLemmas.{extended, one_pushed}
use Rattle.icu_table_files.proofs.written.contents_as_bytes.Goals as goal

pub returns : goal.returns
returns c =
    let listed = c.in_ok-listed.ensures in
    let tag = c.as_bytes.result.now in
    let cldr = c.as_bytes-2.result.now in
    let unicode = c.as_bytes-3.result.now in
    let one = one_pushed [] tag _ _ (sym c.new-bytes.ensures.items) c.in_ok-push_part.ensures in
    let two = one_pushed (tag ∷ []) cldr _ _ one c.in_ok-push_part-2.ensures in
    let three = one_pushed (tag ∷ cldr ∷ []) unicode _ _ two c.in_ok-push_part-3.ensures in
    let whole = extended (tag ∷ cldr ∷ unicode ∷ []) (table_parts listed.stored) _ _ _ three (listed.spelt ∙ sym c.as_slice.ensures.value) c.in_ok-extend_from_slice.ensures.items in
    record {
      stored = record { tag = c.args.origin.tag.now; cldr = c.args.origin.cldr.now; unicode = c.args.origin.unicode.now; tables = listed.stored };
      is = λ i. record { tag = c.args.origin.tag.now; cldr = c.args.origin.cldr.now; unicode = c.args.origin.unicode.now; tables = listed.is i };
      storable = record {
        tag = subst IsUtf8 c.as_bytes.ensures.value c.as_bytes.ensures.utf8;
        cldr = subst IsUtf8 c.as_bytes-2.ensures.value c.as_bytes-2.ensures.utf8;
        unicode = subst IsUtf8 c.as_bytes-3.ensures.value c.as_bytes-3.ensures.utf8;
        tables = listed.storable;
      };
      spelt = ap bytes_of_parts (λ i. sym c.as_bytes.ensures.value i ∷ sym c.as_bytes-2.ensures.value i ∷ sym c.as_bytes-3.ensures.value i ∷ table_parts listed.stored) ∙ whole;
    }
