-- The frame of a file.
use Rattle.std.specs.Prelude.{ℕ, List, ◌++◌, length}
use Rattle.std.specs.Int.{w64, to_be_bytes}
use Rattle.sha2.specs.Sha256.{sha256}

-- the word that a file begins with
abbrev pub magic_word : ℕ
magic_word = 0x89434F4C4C0D0A1A

-- a body behind the magic word, the version, its length, and its checksum
abbrev pub framed : List ℕ → List ℕ
framed body = to_be_bytes w64 magic_word ++ (to_be_bytes w64 1 ++ (to_be_bytes w64 (length body) ++ (sha256 body ++ body)))
