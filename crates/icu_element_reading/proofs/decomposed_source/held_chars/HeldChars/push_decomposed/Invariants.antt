use Rattle.std.proofs.Common.{◌+◌, ◌≤◌, [], take}
use Rattle.icu_element_reading.specs.inner.HeldChars.{held_count, PassesOn}
use Rattle.icu_element_reading.proofs.decomposed_source.held_chars.HeldChars.push_decomposed.Given as goal

abbrev pub invariant-loop-d : goal.invariant-loop-d
invariant-loop-d l = PassesOn l.initial.self (take l.d-index l.d-items) [] l.self × (held_count l.self ≤ held_count l.initial.self + l.d-index)
