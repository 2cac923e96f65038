use Rattle.std.proofs.Common.{◌<◌, ◌-◌, None, Some, ap, rules, sym, ◌∙◌}
use Rattle.std.proofs.lemmas.Result.{IfOk-weaker}
use Rattle.icu_table_mappings.specs.Surroundings.{behind_longer, nearest_of}
use Rattle.icu_table_mappings.proofs.NearestLemmas.{nearest_more, only_longer}
use Rattle.icu_table_mappings.proofs.SurroundingLemmas.{found_among}
use Rattle.icu_table_mappings.proofs.entries_behind.+entries_behind.Goals as goal

pub returns-in_default : goal.returns-in_default
returns-in_default t c =
    let some : 0 < c.args.count = search rules in
    IfOk-weaker c.entries_behind.result _ _ (λ entries is after. is after
    ∙ sym (nearest_more c.args.contexts.now c.args.own c.args.count c.args.before.now after None some
    (c.in_default.ensures.value ∙ found_among c.args.contexts.now.entries _)))
    c.entries_behind.ensures

pub returns-then-has_entry : goal.returns-then-has_entry
returns-then-has_entry t c =
    let some : 0 < c.args.count = search rules in
    IfOk-weaker c.copied.result _ _ (λ entries is after. is after
    ∙ sym (only_longer c.in-Some.longer.now after (nearest_of c.args.contexts.now c.args.own (c.args.count - 1) c.args.before.now after)
    (sym c.has_entry.ensures ∙ c.if-has_entry.true))
    ∙ sym (nearest_more c.args.contexts.now c.args.own c.args.count c.args.before.now after (Some c.in-Some.longer.now) some
    (c.in-Some.ensures.value ∙ found_among c.args.contexts.now.entries _)))
    c.copied.ensures

pub returns : goal.returns
returns t c =
    let some : 0 < c.args.count = search rules in
    IfOk-weaker c.with_shorter.result _ _ (λ entries is after. is after
    ∙ ap (behind_longer (Some c.in-Some.longer.now) after) (c.in_ok-shorter.ensures after)
    ∙ sym (nearest_more c.args.contexts.now c.args.own c.args.count c.args.before.now after (Some c.in-Some.longer.now) some
    (c.in-Some.ensures.value ∙ found_among c.args.contexts.now.entries _)))
    c.with_shorter.ensures
