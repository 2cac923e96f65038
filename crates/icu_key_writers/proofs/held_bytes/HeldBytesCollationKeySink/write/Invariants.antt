use Rattle.std.proofs.Common.{◌≡◌, ◌++◌, take}
use Rattle.icu_key_writers.specs.HeldByteLists.{held_bytes}
use Rattle.icu_key_writers.proofs.held_bytes.HeldBytesCollationKeySink.write.Given as goal

-- the bytes so far were appended
abbrev pub invariant-loop-byte : goal.invariant-loop-byte
invariant-loop-byte l = held_bytes l.self ≡ held_bytes l.fn.self ++ take l.byte-index l.buf
