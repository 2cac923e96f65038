-- What sinks of bytes take.
use Rattle.std.specs.Prelude.{◌≡◌, ℕ, List, ◌++◌, Result, IsOk}

-- What calls of a sink do to it: a sink of the type `X` with a state of the type `St`
pub record SinkEffects (X St O E : Type 0) : Type 1 where
  -- a sink with its state took these bytes, and became this sink with this state
  pub took : X → St → List ℕ → X → St → Type 0
  -- a write of these bytes returned this error, and left this sink with this state
  pub refused : X → St → List ℕ → E → X → St → Type 0
  -- what `finish` returned, and the sink that it left
  pub finished : X → St → Result O E → X → Type 0
  -- a key may begin with this state
  pub begins : St → Type 0

-- Those of a list of bytes, which appends what it takes: a refused write changes nothing, and `finish` succeeds and
-- changes nothing
abbrev pub list_effects : {X St O E : Type 0} → (X → List ℕ) → SinkEffects X St O E
list_effects items = record {
  took = λ x _ b y _. items y ≡ items x ++ b;
  refused = λ x _ _ _ y _. items y ≡ items x;
  finished = λ x _ r y. IsOk r × (y ≡ x);
  begins = λ _. Unit {0};
}

-- some beginning of the bytes was taken
pub record TakesBeginning (took : List ℕ → Type 0) (bytes : List ℕ) : Type 0 where
  pub front : List ℕ
  pub rest : List ℕ
  pub splits : bytes ≡ front ++ rest
  pub taken : took front

-- Effects of a list that appends bytes one after another: a refused write appended a beginning of its bytes
abbrev pub appending_effects : {X St O E : Type 0} → (X → List ℕ) → SinkEffects X St O E
appending_effects items = record {
  took = λ x _ b y _. items y ≡ items x ++ b;
  refused = λ x _ b _ y _. TakesBeginning (λ front. items y ≡ items x ++ front) b;
  finished = λ x _ r y. IsOk r × (y ≡ x);
  begins = λ _. Unit {0};
}
