-- The groups that were made are those of the root.
use Rattle.std.proofs.Common.{◌≡◌, true, List, [], map, sym, ap, ◌∙◌, rules}
use Rattle.icu_rule_meaning.specs.WeightTrees.{WeightTree}
use Rattle.icu_rule_weights.specs.tailoring_numbers.Numberings.{number_of}
use Rattle.icu_rule_tables.specs.script_reordering.ScriptOrders.{OrdersScripts}
use Rattle.icu_rule_tables.specs.script_reordering.ReorderedSpans.{IsReorderedBy}
use Rattle.icu_rule_tables.specs.RootGroups.{are_groups, covers_all}
use Rattle.icu_rule_tables.specs.StatesByRules.{said_by}
use Rattle.icu_rule_tables.proofs.rule_reordering.reordered_groups.Goals as goal

pub returns-in-Some : goal.returns-in-Some
returns-in-Some c =
    let starts = c.in_ok-starts.starts.items in
    let spans = c.in_ok-spans.spans.items in
    let numbers = c.args.numbers.now in
    let own = c.in_ok-own.own.items in
    let are_own : own ≡ map (number_of numbers) ((said_by c.args.said.now).tree []) =
    c.in_ok-own.ensures ∙ ap (map (number_of numbers)) (c.as_slice.ensures.value ∙ c.in_ok-siblings.ensures ∙ ap (λ (t : WeightTree). t []) c.tree.ensures) in
    let groups : are_groups starts spans ≡ true = search rules in
    let covered : covers_all spans own ≡ true = search rules in
    let ordered : OrdersScripts starts spans c.args.words.now c.in_ok-order.order.items = search rules in
    record {
      starts = starts;
      spans = spans;
      order = c.in_ok-order.order.items;
      of_root = c.in_ok-starts.ensures;
      groups = groups;
      tailored = ap (covers_all spans) (sym are_own) ∙ covered;
      ordered = ordered;
      put = search rules;
    }
