-- The sink and its state may be written to.
use Rattle.test_driver.proofs.sinks.write_bytes.Given as goal

abbrev pub invariant-loop : goal.invariant-loop
invariant-loop g l = g.S.CollationKeySink.is_sound l.sink l.state
