use Rattle.std.proofs.Common.{[], ◌∷◌, sym, subst}
use Rattle.std.specs.Int.{w32}
use Rattle.icu_table_provider.specs.Reorderings.{Reordering}
use Rattle.icu_table_files.specs.parts.SpeltParts.{bytes_of_numbers}
use Rattle.icu_table_files.specs.inner.Spelt.{SpellsPresent}
use Rattle.icu_table_files.proofs.PushLemmas.{one_pushed}
use Rattle.icu_table_files.proofs.other_forms.present_as_bytes.Goals as goal

pub returns : goal.returns
returns c =
    let limit = bytes_of_numbers w32 (c.parts-limit.result.0 ∷ []) in
    let leads = c.parts-limit.result.1.now in
    let ranges = bytes_of_numbers w32 c.parts-limit.result.2.now in
    let one = one_pushed [] limit _ _ (sym c.new-bytes.ensures.items) c.in_ok-push_u32s.ensures.pushed in
    let two = one_pushed (limit ∷ []) leads _ _ one c.in_ok-push_part.ensures in
    let said : Reordering = record { limit = c.parts-limit.result.0; leads = c.parts-limit.result.1.now; ranges = c.parts-limit.result.2.now } in
    let spells : SpellsPresent said c.push_u32s-2.new.bytes.items = record {
      storable = record {
        widths = record { limit = c.push_u32s.ensures.range 0; leads = c.are_u8s.ensures; ranges = c.push_u32s-2.ensures.range };
        whole = c.parts-limit.ensures.whole;
      };
      spelt = one_pushed (limit ∷ leads ∷ []) ranges _ _ two c.in_ok-push_u32s-2.ensures.pushed;
    } in
    subst (λ r. SpellsPresent r c.push_u32s-2.new.bytes.items) c.parts-limit.ensures.value spells
