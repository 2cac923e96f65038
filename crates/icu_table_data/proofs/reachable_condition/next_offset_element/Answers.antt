use Rattle.std.proofs.Common.{◌≡◌, ◌∙◌, ap, ◌+◌, ◌-◌, ◌%◌, ◌/◌, ◌≤◌, arith}
use Rattle.icu_table_entries.specs.Elements.{Element, non_primary_bits}
use Rattle.icu_table_entries.specs.Weights.{offset_weight, offset_step}
use Rattle.icu_table_data.proofs.OffsetRunLemmas.{next_by}
use Rattle.icu_table_data.proofs.reachable_condition.next_offset_element.Goals as goal

pub returns : goal.returns
returns c =
    let weight_is : c.primary-weight.result ≡ offset_weight c.args.offset (c.args.c - 1) = c.primary-weight.ensures ∙ ap (λ (x : Element). x.primary) c.requires.element in
    let step_is : c.bits-step.result % 128 ≡ offset_step c.args.offset = ap (λ n. n % 128) (c.bits-step.ensures ∙ ap non_primary_bits c.non_primary.ensures) in
    let room : c.primary-weight.result / 256 % 256 + c.bits-step.result % 128 ≤ 255 = omega (arith, c.if-third-step-gt255.false) in
    c.new_from_primary.ensures
    ∙ next_by c.args.offset (c.args.c - 1) c.args.c (omega (arith, c.requires.positive)) c.requires.before _ _ weight_is step_is room
