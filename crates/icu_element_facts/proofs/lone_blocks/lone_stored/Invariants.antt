use Rattle.std.proofs.Common.{◌≡◌, length}
use Rattle.icu_element_facts.specs.inner.LoneEntries.{LoneStored}
use Rattle.icu_element_facts.proofs.lone_blocks.lone_stored.Given as goal

-- what is stored so far is so
abbrev pub invariant-loop-block : goal.invariant-loop-block
invariant-loop-block l = (length l.stored.items ≡ l.block) × LoneStored l.stored.items l.values
