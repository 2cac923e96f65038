use Rattle.std.proofs.Common.{◌∙◌}
use Rattle.icu_table_mappings.proofs.SurroundingLemmas.{last_turn, last_end}
use Rattle.icu_table_mappings.proofs.surroundings.add_all.Goals as goal

pub loop-chars-preserved : goal.loop-chars-preserved
loop-chars-preserved c = λ chars.
    last_turn chars c.loop-chars.chars-iterator c.next.new.self c.loop-chars.suffixes.entries c.insert.new.self.entries
    c.in-Some.chars.now c.in_ok-from_slice.field-0 c.in-Some.entry.now _
    c.in-Some.ensures.steps c.in_ok-insert.ensures.entries (c.in_ok-from_slice.ensures.items ∙ c.as_slice.ensures.value) (c.loop-chars.invariant chars)

pub returns : goal.returns
returns c = λ chars.
    last_end chars c.loop-chars.chars-iterator c.loop-chars.suffixes.entries c.args.more.now.entries _
    c.in-None.ensures.steps.0 c.iter-chars-items.ensures.ordered (c.loop-chars.invariant chars)
