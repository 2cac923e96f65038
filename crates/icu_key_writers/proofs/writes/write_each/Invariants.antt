use Rattle.std.proofs.Common.{drop}
use Rattle.icu_key_writers.proofs.Writing.{Owes}
use Rattle.icu_key_writers.proofs.writes.write_each.Given as goal

-- the bytes that are left are still owed
abbrev pub invariant-loop-byte : goal.invariant-loop-byte
invariant-loop-byte g l = record {
  sound : g.S.CollationKeySink.is_sound l.sink l.state;
  owes : Owes g.S.CollationKeySink.effects l.fn.sink l.fn.state l.bytes (drop l.byte-index l.bytes) l.sink l.state;
}
