-- The answer to the command is that to what its words name.
use Rattle.std.proofs.Common.{◌++◌, ◌∷◌, [], chars, ap, ◌∙◌}
use Rattle.icu_order_texts.specs.Collations.{Collation}
use Rattle.icu_order_texts.specs.TextOrder.{text_order}
use Rattle.collate_commands.specs.Answers.{sign_of}
use Rattle.collate_commands.specs.KeyText.{key_text}
use Rattle.program_files.proofs.WritingLemmas.{Keeps_same}
use Rattle.collate_commands.proofs.answer.answer.Goals as goal

pub returns-in_ok-from_slice-in-Compare-clause-answer : goal.returns-in_ok-from_slice-in-Compare-clause-answer
returns-in_ok-from_slice-in-Compare-clause-answer g c =
    let order = c.in_ok-order-in-Compare.ensures.order in
    let left = chars c.in-Compare.texts.left.now in
    let right = chars c.in-Compare.texts.right.now in
    let by_collator = order ∙ ap (λ (k : Collation). text_order k left right) c.as_borrowed.ensures in
    rw c.in-Compare.is (
      [],
      Keeps_same (g.R.Read.remaining c.args.input.now),
      c.in_ok-from_slice-in-Compare.ensures.items ∙ c.sign_line.ensures ∙ ap (λ o. sign_of o ++ 10 ∷ []) by_collator,
    )

pub returns-in_ok-key_line-in-Key-clause-answer : goal.returns-in_ok-key_line-in-Key-clause-answer
returns-in_ok-key_line-in-Key-clause-answer g c =
    let key = c.in_ok-key-in-Key.ensures in
    rw c.in-Key.is (
      [],
      Keeps_same (g.R.Read.remaining c.args.input.now),
      c.in_ok-key_line-in-Key.ensures ∙ ap (λ bytes. key_text bytes ++ 10 ∷ []) (c.as_slice.ensures.value ∙ key),
    )

pub returns-in-Sort-clause-answer : goal.returns-in-Sort-clause-answer
returns-in-Sort-clause-answer g c = rw c.in-Sort.is c.sort.ensures.answer
