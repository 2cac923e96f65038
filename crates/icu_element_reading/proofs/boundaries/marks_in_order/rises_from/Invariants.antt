use Rattle.std.proofs.Common.{◌≡◌, drop}
use Rattle.icu_element_reading.specs.boundaries.Alone.{rises_from}
use Rattle.icu_element_reading.proofs.boundaries.marks_in_order.rises_from.Given as goal

abbrev pub invariant-loop-c : goal.invariant-loop-c
invariant-loop-c l = rises_from l.class l.text ≡ rises_from l.last (drop l.c-index l.text)
