use Rattle.std.proofs.Common.{◌≡◌, ◌+◌, ◌≤◌, ◌++◌, length, take}
use Rattle.icu_key_writers.proofs.list_sinks.VecDequeU8CollationKeySink.write.Given as goal

-- the bytes so far were appended, and there is room for the others
abbrev pub invariant-loop-byte : goal.invariant-loop-byte
invariant-loop-byte l =
    (l.self.items ≡ l.fn.self.items ++ take l.byte-index l.buf)
    × (l.self.len + length l.buf ≤ l.self.cap + l.byte-index)
