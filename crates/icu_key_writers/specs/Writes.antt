-- What a call returns that writes to a sink.
use Rattle.std.specs.Prelude.{◌≡◌, ℕ, List, ◌++◌, Result, MatchResult}
use Rattle.icu_key_writers.specs.Sinks.{SinkEffects}

-- A call that was to write the bytes failed: a beginning of them was taken, and then a write of the next ones returned
-- the error
pub record WriteFails {X St F E : Type 0} (effects : SinkEffects X St F E) (x : X) (s : St) (bytes : List ℕ) (error : E)
    (y : X) (t : St) : Type 0 where
  pub sink : X
  pub state : St
  pub front : List ℕ
  pub tried : List ℕ
  pub rest : List ℕ
  pub splits : bytes ≡ front ++ (tried ++ rest)
  pub taken : effects.took x s front sink state
  pub fails : effects.refused sink state tried error y t

-- the call wrote the bytes, or failed to
abbrev pub Writes : {X St F E O : Type 0} → SinkEffects X St F E → X → St → List ℕ → Result O E → X → St → Type 0
Writes effects x s bytes result y t =
    MatchResult result (λ _. effects.took x s bytes y t) (λ e. WriteFails effects x s bytes e y t)

-- The sink took some bytes, and before them stood to be written what `after` says, with them what `before` says, for
-- all that may still come
pub record Brings {X St F E R : Type 0} (effects : SinkEffects X St F E) (x : X) (s : St) (before after : R → List ℕ)
    (y : X) (t : St) : Type 0 where
  pub front : List ℕ
  pub taken : effects.took x s front y t
  pub leaves : (rest : R) → before rest ≡ front ++ after rest

-- A call that is fed a part of a level: `before` and `after` say what is still to be written of the level before the
-- call and after it, given the rest of the level. It wrote what `after` no longer has, or failed to write `before`
abbrev pub Feeds : {X St F E R : Type 0} → SinkEffects X St F E
    → X → St → (R → List ℕ) → (R → List ℕ) → Result Unit E → X → St → Type 0
Feeds {R = R} effects x s before after result y t =
    MatchResult result (λ _. Brings effects x s before after y t) (λ e. (rest : R) → WriteFails effects x s (before rest) e y t)
