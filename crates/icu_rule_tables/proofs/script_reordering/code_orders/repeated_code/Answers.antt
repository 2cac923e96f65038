use Rattle.std.proofs.Common.{rules, ◌∙◌}
use Rattle.icu_rule_tables.proofs.script_reordering.CodeLemmas.{word_at}
use Rattle.icu_rule_tables.proofs.script_reordering.code_orders.repeated_code.Goals as goal

pub returns-then-repeats : goal.returns-then-repeats
returns-then-repeats c =
    word_at c.args.words.now c.index-words-index.result c.in_ok-from_str.field-0 c.loop-index.index (search rules)
    c.index-words-index.is (c.in_ok-from_str.ensures.ok ∙ c.as_str.ensures.value)
