use Rattle.std.proofs.Common.{◌∙◌, rules}
use Rattle.icu_table_mappings.proofs.NearestLemmas.{joins_all, joins_first, joins_kept, joins_skipped}
use Rattle.icu_table_mappings.proofs.entries_behind.with_shorter.Goals as goal

pub loop-chars-init : goal.loop-chars-init
loop-chars-init c = λ chars.
    joins_first c.args.longer.now c.args.shorter.now c.in_ok-entries.entries _ chars
    (c.into_iter-chars-iterator.ensures.into_iter_gives ∙ c.iter-chars-items.ensures.rest) (c.in_ok-entries.ensures chars)

pub loop-chars-preserved-in_ok-insert : goal.loop-chars-preserved-in_ok-insert
loop-chars-preserved-in_ok-insert c = λ chars.
    joins_kept c.args.longer.now c.args.shorter.now c.loop-chars.entries c.insert.new.self c.loop-chars.chars-iterator c.next.new.self
    c.in-Some.chars.now c.in_ok-from_slice.field-0 c.in-Some.entry.now c.in-Some.ensures.steps c.in_ok-insert.ensures.entries
    (c.in_ok-from_slice.ensures.items ∙ c.as_slice-then-not-begins.ensures.value) (search rules) chars (c.loop-chars.invariant chars)

pub loop-chars-preserved : goal.loop-chars-preserved
loop-chars-preserved c = λ chars.
    joins_skipped c.args.longer.now c.args.shorter.now c.loop-chars.entries c.loop-chars.chars-iterator c.next.new.self
    c.in-Some.chars.now c.in-Some.entry.now c.in-Some.ensures.steps (search rules) chars (c.loop-chars.invariant chars)

pub returns : goal.returns
returns c = λ after.
    joins_all c.args.longer.now c.args.shorter.now c.loop-chars.entries c.loop-chars.chars-iterator c.in-None.ensures.steps.0
    c.iter-chars-items.ensures.ordered after (c.loop-chars.invariant after)
