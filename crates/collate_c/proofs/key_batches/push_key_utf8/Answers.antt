-- The key comes after what was there.
use Rattle.std.proofs.Common.{rules, ◌-◌, ◌≤◌, ◌++◌, take, length, ap, ◌∙◌}
use Rattle.icu_order_texts.specs.TextOrder.{text_key}
use Rattle.icu_text_encodings.specs.DecodedTexts.{utf8_text}
use Rattle.icu_collator.specs.Collators.{collation_borrowed}
use Rattle.collate_c.specs.WrittenBytes.{IsAtFront}
use Rattle.collate_c.proofs.BatchLemmas.{front_fits, front_of_part}
use Rattle.collate_c.proofs.key_batches.push_key_utf8.Goals as goal

pub returns-clause-key : goal.returns-clause-key
returns-clause-key c _ =
    let front : IsAtFront (text_key (collation_borrowed c.args.collator.now) (utf8_text c.args.text.now)) c.write_key_utf8.new.needed c.write_key_utf8.new.out = search rules in
    let inside : c.args.filled.now ≤ length c.args.out.now = search rules in
    front_of_part c.args.filled.now (length c.args.out.now - c.args.filled.now) c.write_key_utf8.new.needed c.args.out.now c.write_key_utf8.new.out inside (front_fits _ _ _ front)
    ∙ ap (λ l. take c.args.filled.now c.args.out.now ++ l) front.1
