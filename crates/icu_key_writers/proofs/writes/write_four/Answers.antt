use Rattle.icu_key_writers.proofs.writes.write_four.Goals as goal

pub returns-then-weight-eq0-clause-bytes : goal.returns-then-weight-eq0-clause-bytes
returns-then-weight-eq0-clause-bytes g c = rw c.if-weight-eq0.true (g.met.S.CollationKeySink.took_nothing _ _ c.requires)
