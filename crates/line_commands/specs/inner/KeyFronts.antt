-- The first eight bytes of sort keys.
use Rattle.std.specs.Prelude.{◌≡◌, ℕ, List, ◌++◌, length, take, IsOk}
use Rattle.icu_order_levels.specs.beginnings.KeyBeginnings.{AreBytes}
use Rattle.icu_index_keys.specs.inner.NameEntries.{prefix_of}
use Rattle.icu_key_writers.specs.Sinks.{SinkEffects, TakesBeginning}
use Rattle.line_commands.specs.declared.line_front.Full.{Full}
use Rattle.line_commands.specs.declared.line_front.KeyFront.{KeyFront}

-- the bytes that were taken
abbrev pub front_bytes : KeyFront → List ℕ
front_bytes f = take f.count f.bytes

-- bytes are appended until there are eight; a refused write appended a beginning of its bytes
abbrev pub front_effects : SinkEffects KeyFront (Unit {0}) (Unit {0}) Full
front_effects = record {
  took = λ x _ b y _. front_bytes y ≡ front_bytes x ++ b;
  refused = λ x _ b _ y _. TakesBeginning (λ c. front_bytes y ≡ front_bytes x ++ c) b × (length (front_bytes y) ≡ 8);
  finished = λ x _ r y. IsOk r × (y ≡ x);
  begins = λ _. Unit {0};
}

-- a number is what a key begins with, and these are bytes
pub record IsFrontOf (front : ℕ) (key : List ℕ) : Type 0 where
  pub number : front ≡ prefix_of key
  pub bytes : AreBytes (take 8 key)
