use Rattle.icu_cldr_root.proofs.RadicalLineLemmas.{ends_first, ends_nothing}
use Rattle.icu_cldr_root.proofs.radical_line.end_range.Goals as goal

pub returns-in-Nothing : goal.returns-in-Nothing
returns-in-Nothing c = ends_nothing c.args.ranges.now.items c.args.begun c.in-Nothing.is

pub returns-in-First : goal.returns-in-First
returns-in-First c =
    ends_first c.push_range.result c.args.ranges.now.items c.push_range.new.ranges.items c.args.begun c.in-First.first c.in-First.is
    c.push_range.ensures
