-- What a call returns that writes a key or a part of one, where the writer allocates as well.
use Rattle.std.specs.Prelude.{◌⊎◌, ℕ, List, Result, Ok, Err}
use Rattle.icu_key_writers.specs.declared.error.SortKeyError.{SortKeyError}
use Rattle.icu_key_writers.specs.declared.error.SortKeyError.TheVariants.{Sink, NoMemory}
use Rattle.icu_key_writers.specs.Sinks.{SinkEffects, TakesBeginning}
use Rattle.icu_key_writers.specs.Writes.{WriteFails, Brings}

-- a call that was to write the bytes wrote them, failed to, or ran out of memory after a beginning of them
abbrev pub KeyWrites : {X St F E O : Type 0} → SinkEffects X St F E
    → X → St → List ℕ → Result O (SortKeyError E) → X → St → Type 0
KeyWrites effects x s bytes (Ok v) y t = effects.took x s bytes y t
KeyWrites effects x s bytes (Err (Sink e)) y t = WriteFails effects x s bytes e y t
KeyWrites effects x s bytes (Err NoMemory) y t = TakesBeginning (λ front. effects.took x s front y t) bytes

-- A call that is fed a part of a text: `before` and `after` say what is still to be written of the key before the call
-- and after it, given the rest of the text. It wrote what `after` no longer has, or failed to write `before`
abbrev pub KeyFeeds : {X St F E R : Type 0} → SinkEffects X St F E
    → X → St → (R → List ℕ) → (R → List ℕ) → Result Unit (SortKeyError E) → X → St → Type 0
KeyFeeds effects x s before after (Ok v) y t = Brings effects x s before after y t
KeyFeeds {R = R} effects x s before after (Err (Sink e)) y t = (rest : R) → WriteFails effects x s (before rest) e y t
KeyFeeds {R = R} effects x s before after (Err NoMemory) y t =
    (rest : R) → TakesBeginning (λ front. effects.took x s front y t) (before rest)

-- a call that writes a whole key, from a state that keys begin with, and ends it
abbrev pub WritesKey : {X St O E : Type 0} → SinkEffects X St O E → X → List ℕ → Result O (SortKeyError E) → X → Type 0
WritesKey {X} {St} effects x key (Ok output) y =
    (s : St) × (z : X) × (t : St) × effects.begins s × effects.took x s key z t × effects.finished z t (Ok output) y
WritesKey {X} {St} effects x key (Err (Sink e)) y =
    (s : St) × effects.begins s
    × (((t : St) × WriteFails effects x s key e y t)
    ⊎ ((z : X) × (t : St) × effects.took x s key z t × effects.finished z t (Err e) y))
WritesKey {X} {St} effects x key (Err NoMemory) y =
    (s : St) × (t : St) × effects.begins s × TakesBeginning (λ front. effects.took x s front y t) key
