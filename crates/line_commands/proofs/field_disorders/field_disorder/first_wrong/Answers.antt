-- Both lines have their keys, so that the next one stands wrong by these or doesn't.
use Rattle.std.proofs.Common.{rules, ◌∙◌, ◌-◌, ℕ, List, true, false, drop, length, sym, take}
use Rattle.icu_collator.specs.Collators.{collation_borrowed}
use Rattle.line_commands.proofs.field_disorders.DisorderStepLemmas.{disorder_step}
use Rattle.line_commands.specs.field_disorders.FieldDisorders.{key_stands_wrong}
use Rattle.line_commands.specs.field_sorts.FieldOrders.{line_key}
use Rattle.line_commands.proofs.field_disorders.field_disorder.first_wrong.Goals as goal

pub returns-then-key_stands_wrong : goal.returns-then-key_stands_wrong
returns-then-key_stands_wrong c =
    let key : List ℕ → List ℕ = line_key (collation_borrowed c.args.collator.now) c.args.fields.ends c.args.fields.sorts.now in
    let rest = take (length c.args.lines.now - 1) (drop 1 c.args.lines.now) in
    let wrong = c.key_stands_wrong.ensures key (c.as_slice.ensures.value ∙ c.loop-line.invariant.known) (c.as_slice-in-loop-line.ensures.value ∙ c.in_ok-key.ensures) in
    let step = disorder_step (key_stands_wrong key c.args.request) c.loop-line.index c.loop-line.before.now rest c.loop-line.line-index _ true c.loop-line-test.true (sym wrong ∙ c.if-key_stands_wrong.true) in
    sym step ∙ c.loop-line.invariant.left

pub loop-line-preserved : goal.loop-line-preserved
loop-line-preserved c =
    let key : List ℕ → List ℕ = line_key (collation_borrowed c.args.collator.now) c.args.fields.ends c.args.fields.sorts.now in
    let rest = take (length c.args.lines.now - 1) (drop 1 c.args.lines.now) in
    let wrong = c.key_stands_wrong.ensures key (c.as_slice.ensures.value ∙ c.loop-line.invariant.known) (c.as_slice-in-loop-line.ensures.value ∙ c.in_ok-key.ensures) in
    let step = disorder_step (key_stands_wrong key c.args.request) c.loop-line.index c.loop-line.before.now rest c.loop-line.line-index _ false c.loop-line-test.true (sym wrong ∙ c.if-key_stands_wrong.false) in
    record {
      counted = search rules;
      known = c.in_ok-key.ensures;
      left = sym step ∙ c.loop-line.invariant.left;
    }
