-- What an error of a frame says.
use Rattle.std.specs.Prelude.{◌≡◌, ℕ, ◌+◌, ◌<◌, ◌^◌, ◌⊎◌, List, [], ◌++◌, length}
use Rattle.std.specs.Int.{w64, to_be_bytes}
use Rattle.sha2.specs.Sha256.{sha256}
use Rattle.icu_table_files.specs.parts.Frames.{framed, magic_word}
use Rattle.icu_table_files.specs.declared.parts.frame_error.FrameError.{FrameError}
use Rattle.icu_table_files.specs.declared.parts.frame_error.FrameError.TheVariants.{Empty, Foreign, Version, CutOff, LeftOver, Damaged}

-- bytes behind a magic word, a version and a length
abbrev pub headed : ℕ → List ℕ → List ℕ
headed len rest = to_be_bytes w64 magic_word ++ (to_be_bytes w64 1 ++ (to_be_bytes w64 len ++ rest))

-- the version isn't 1
pub record HasVersion (bytes : List ℕ) (version : ℕ) : Type 0 where
  pub rest : List ℕ
  pub is : to_be_bytes w64 magic_word ++ (to_be_bytes w64 version ++ rest) ≡ bytes
  pub small : version < 2 ^ 64
  pub other : version ≡ 1 → ⊥

-- a header says that there are more bytes behind it, those of the checksum and a body of this length
pub record SaysMore (bytes : List ℕ) : Type 0 where
  pub len : ℕ
  pub rest : List ℕ
  pub is : headed len rest ≡ bytes
  pub small : len < 2 ^ 64
  pub more : length rest < 32 + len

-- a header says that what it stands for ends before the last byte
pub record SaysLess (bytes : List ℕ) (end : ℕ) : Type 0 where
  pub len : ℕ
  pub rest : List ℕ
  pub is : headed len rest ≡ bytes
  pub small : len < 2 ^ 64
  pub less : 32 + len < length rest
  pub ends : end ≡ 56 + len

-- the checksum isn't that of the body
pub record HasOtherSum (bytes : List ℕ) : Type 0 where
  pub sum : List ℕ
  pub body : List ℕ
  pub is : headed (length body) (sum ++ body) ≡ bytes
  pub whole : length sum ≡ 32
  pub small : length body < 2 ^ 64
  pub other : sum ≡ sha256 body → ⊥

-- the error is true of these bytes
abbrev pub IsFrameError : List ℕ → FrameError → Type 0
IsFrameError bytes Empty = bytes ≡ []
IsFrameError bytes Foreign = (rest : List ℕ) → to_be_bytes w64 magic_word ++ rest ≡ bytes → ⊥
IsFrameError bytes (Version version) = HasVersion bytes version
IsFrameError bytes (CutOff at) = (at ≡ length bytes) × ((length bytes < 24) ⊎ SaysMore bytes)
IsFrameError bytes (LeftOver end) = SaysLess bytes end
IsFrameError bytes Damaged = HasOtherSum bytes

-- they have no frame
abbrev pub IsUnframed : List ℕ → Type 0
IsUnframed bytes = (body : List ℕ) → length body < 2 ^ 64 → framed body ≡ bytes → ⊥
