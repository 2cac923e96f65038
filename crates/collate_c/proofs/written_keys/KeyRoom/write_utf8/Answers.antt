-- What the library wrote to the slice is what the call says.
use Rattle.std.proofs.Common.{rules, ◌≡◌, ◌<◌, ◌-◌, ◌^◌, length, refl}
use Rattle.icu_collator.specs.Collators.{collation_borrowed}
use Rattle.icu_order_texts.specs.TextOrder.{text_key}
use Rattle.icu_text_encodings.specs.DecodedTexts.{utf8_text}
use Rattle.collate_c.specs.WrittenBytes.{WritesFront}
use Rattle.collate_c.proofs.SliceKeys.{front_of_key, names_kept}
use Rattle.collate_c.proofs.written_keys.KeyRoom.write_utf8.Goals as goal

pub returns : goal.returns
returns c =
    let small : length c.args.self.now.bytes.now < 2 ^ 64 - 1 = search rules in
    let front : WritesFront (text_key (collation_borrowed c.args.collator.now) (utf8_text c.args.text.now)) c.key_outcome.result c.key_outcome.new.needed c.write_sort_key_utf8_to-written.new.sink.now =
    front_of_key _ _ _ _ c.key_outcome.result c.key_outcome.new.needed _ small c.write_sort_key_utf8_to-written.ensures.key c.key_outcome.ensures refl in
    record { same_reference = names_kept _ _ _ _ c.write_sort_key_utf8_to-written.ensures.key; key = front }
