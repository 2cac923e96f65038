-- The bytes that were gone through were taken.
use Rattle.std.proofs.Common.{◌≡◌, ◌++◌, take}
use Rattle.line_commands.specs.inner.KeyFronts.{front_bytes}
use Rattle.line_commands.proofs.line_front.KeyFrontCollationKeySink.write.Given as goal

abbrev pub invariant-loop-byte : goal.invariant-loop-byte
invariant-loop-byte l = record {
  taken : front_bytes l.self ≡ front_bytes l.fn.self ++ take l.byte-index l.buf;
}
