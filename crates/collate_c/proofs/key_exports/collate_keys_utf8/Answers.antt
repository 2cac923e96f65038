-- The keys are those by the session that the handle has.
use Rattle.std.proofs.Common.{take, map, subst}
use Rattle.icu_collator.specs.Collators.{collation_borrowed}
use Rattle.icu_order_texts.specs.TextOrder.{text_key}
use Rattle.icu_order_texts.specs.weighting.Collations.{Collation}
use Rattle.icu_text_encodings.specs.DecodedTexts.{utf8_text}
use Rattle.collate_c.specs.Openings.{collation_held}
use Rattle.collate_c.specs.TextBatches.{HasKeys, parts_from}
use Rattle.collate_c.proofs.AsBox.{if_held}
use Rattle.collate_c.proofs.key_exports.collate_keys_utf8.Goals as goal

pub returns-clause-keys : goal.returns-clause-keys
returns-clause-keys c =
    let done = c.write_keys_utf8-outcome in
    let Has : Collation → Type 0 = λ k. HasKeys (take done.new.written (map (λ t. text_key k (utf8_text t)) (parts_from 0 c.args.texts.now c.args.ends.now))) done.new.out done.new.key_ends in
    if_held _ c.args.handle.now.held.value c.in-Some.held.value c.in-Some.ensures.session
    (subst (λ s. Has (collation_held s)) c.as_ref.ensures (subst Has c.borrowed.ensures done.ensures.keys))
