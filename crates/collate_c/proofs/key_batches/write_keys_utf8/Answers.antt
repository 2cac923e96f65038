-- A key more is written.
use Rattle.std.proofs.Common.{rules, ℕ, List, ◌≡◌, ◌<◌, ◌≤◌, ◌+◌, ◌++◌, length, take, get_or, set, sym, ap, ◌∙◌, subst}
use Rattle.icu_order_texts.specs.TextOrder.{text_key}
use Rattle.icu_text_encodings.specs.DecodedTexts.{utf8_text}
use Rattle.icu_collator.specs.Collators.{collation_borrowed}
use Rattle.collate_c.proofs.BatchLemmas.{Batched, batch_step}
use Rattle.collate_c.proofs.key_batches.write_keys_utf8.Goals as goal

pub loop-i-preserved : goal.loop-i-preserved
loop-i-preserved c =
    let f : List ℕ → List ℕ = λ t. text_key (collation_borrowed c.args.collator.now) (utf8_text t) in
    let k = f c.part.result.now in
    let end : c.push_key_utf8.new.filled ≡ c.loop-i.filled + length k = search rules in
    let key : take c.push_key_utf8.new.filled c.push_key_utf8.new.out ≡ take c.loop-i.filled c.loop-i.out ++ k = search rules in
    let within : c.push_key_utf8.new.filled ≤ length c.push_key_utf8.new.out = search rules in
    let one : c.loop-i.i < length c.args.ends.now = search rules in
    let place : c.loop-i.i < length c.loop-i.key_ends = search rules in
    subst (λ n. Batched f c.args.texts.now c.args.ends.now (c.loop-i.i + 1) (get_or c.args.ends.now c.loop-i.i 0) n (c.loop-i.i + 1) c.push_key_utf8.new.out (set c.loop-i.key_ends c.loop-i.i n)) (sym end)
    (batch_step f c.args.texts.now c.args.ends.now c.loop-i.i c.loop-i.at c.loop-i.filled c.loop-i.written c.loop-i.out c.loop-i.key_ends k c.push_key_utf8.new.out
    c.loop-i.invariant one place (ap f c.part.ensures) (ap (λ n. take n c.push_key_utf8.new.out) (sym end) ∙ key) (subst (λ n. n ≤ length c.push_key_utf8.new.out) end within))
