-- As many keys are written as the loop has gone through.
use Rattle.icu_order_texts.specs.TextOrder.{text_key}
use Rattle.icu_text_encodings.specs.DecodedTexts.{utf8_text}
use Rattle.icu_collator.specs.Collators.{collation_borrowed}
use Rattle.collate_c.proofs.BatchLemmas.{Batched}
use Rattle.collate_c.proofs.key_batches.write_keys_utf8.Given as goal

abbrev pub invariant-loop-i : goal.invariant-loop-i
invariant-loop-i l = Batched (λ t. text_key (collation_borrowed l.collator) (utf8_text t)) l.texts l.ends l.i l.at l.filled l.written l.out l.key_ends
