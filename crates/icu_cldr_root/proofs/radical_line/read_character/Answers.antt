use Rattle.std.proofs.Common.{rules, ◌≢◌}
use Rattle.icu_cldr_root.proofs.RadicalLineLemmas.{read_first, read_joined}
use Rattle.icu_cldr_root.proofs.radical_line.read_character.Goals as goal

pub returns-in_ok-push_range-in-First-2 : goal.returns-in_ok-push_range-in-First-2
returns-in_ok-push_range-in-First-2 c =
    let other : c.args.c ≢ 45 = search rules in
    read_first c.args.ranges.now.items c.push_range.new.ranges.items c.args.begun c.in-First-2.first c.args.c c.in-First-2.is other
    c.in_ok-push_range-in-First-2.ensures

pub returns-in_ok-push_range-in-Joined : goal.returns-in_ok-push_range-in-Joined
returns-in_ok-push_range-in-Joined c =
    read_joined c.args.ranges.now.items c.push_range-in-Joined.new.ranges.items c.args.begun c.in-Joined.first c.args.c c.in-Joined.is
    c.in_ok-push_range-in-Joined.ensures
