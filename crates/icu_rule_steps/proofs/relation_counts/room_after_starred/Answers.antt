use Rattle.std.proofs.Common.{◌≡◌, ◌+◌, ◌≤◌, ℕ, List, length, take, get_or, ap, arith}
use Rattle.std.specs.List.{flat_map}
use Rattle.std.proofs.lemmas.List.Folds.{length-flat_map-take}
use Rattle.icu_rule_parser.specs.declared.statement.CharacterRange.{CharacterRange}
use Rattle.icu_rule_meaning.specs.Rules.{characters_of}
use Rattle.icu_rule_steps.proofs.relation_counts.room_after_starred.Goals as goal

abbrev no_range : CharacterRange
no_range = record { first = 0; last = 0 }

pub returns-then-left-count-clause-none : goal.returns-then-left-count-clause-none
returns-then-left-count-clause-none c =
    let ranges : List CharacterRange = c.deref-range-items.result.now in
    let i : ℕ = c.loop-range.range-index in
    let some : length (flat_map characters_of (take i ranges)) + length (characters_of (get_or ranges i no_range)) ≤ length (flat_map characters_of ranges) =
    length-flat_map-take characters_of ranges i no_range c.loop-range-test.true in
    let all : length (flat_map characters_of ranges) ≡ length (flat_map characters_of c.args.said.now.ranges.items) =
    ap (λ rs. length (flat_map characters_of rs)) c.deref-range-items.ensures.value in
    let count : c.character_count-count.result ≡ length (characters_of (get_or ranges i no_range)) = c.character_count-count.ensures in
    omega (arith, some, all, count, c.loop-range.invariant, c.if-left-count.true)
