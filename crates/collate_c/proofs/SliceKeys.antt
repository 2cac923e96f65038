-- A slice that took a key has it at its front, if the key fits; else the length that is said is the key's.
use Rattle.std.proofs.Common.{◌≡◌, ℕ, ◌+◌, ◌-◌, ◌<◌, ◌≤◌, ◌^◌, inl, inr, Bool, true, false, List, length, take, drop, arith, refl, sym, ap, ◌∙◌, if◌then◌else◌, subst, MutBor}
use Rattle.std.specs.Prelude.{Result, Ok, Err, min, nat_le}
use Rattle.std.proofs.lemmas.Bool.Decides.{nat_tests}
use Rattle.std.proofs.lemmas.List.{length-append, length-drop, length-take-le, take_at}
use Rattle.icu_key_writers.specs.declared.slice_sink.TooSmall.{TooSmall}
use Rattle.icu_key_writers.specs.declared.error.SortKeyError.{SortKeyError}
use Rattle.icu_key_writers.specs.declared.error.SortKeyError.TheVariants as errors
use Rattle.icu_key_writers.specs.KeyWrites.{WritesKey}
use Rattle.icu_key_writers.specs.Sinks.{SinkEffects}
use Rattle.icu_key_writers.specs.SliceSinks.{HasRoom, SliceTakes, SliceTook, put_over, slice_finish}
use Rattle.collate_c.specs.declared.statuses.Failure.{Failure}
use Rattle.collate_c.specs.declared.statuses.Failure.TheVariants.{Closed, NoBound, NoMemory, Settings, Tables, TooSmall as TooSmallRoom}
use Rattle.collate_c.specs.WrittenBytes.{IsAtFront, KeyOutcome, WritesFront}

within : (t : ℕ) (mid : List ℕ) → nat_le t (length mid) ≡ true → t ≤ length mid
within t mid h = grind (arith, nat_tests)

-- bytes put over a list leave its length
length_over : (xs b : List ℕ) → HasRoom xs 0 b → length (put_over xs 0 b) ≡ length xs
length_over xs b (inl h) = simp (length-append, length-drop) (let e = length-take-le 0 xs (omega arith) in omega arith)
length_over xs b (inr e) = rw e refl

same_length : (old mid key : List ℕ) (t : ℕ) → SliceTakes old 0 key mid t → length mid ≡ length old
same_length old mid key t h = ap length h.begins.taken.1 ∙ length_over old h.begins.front h.begins.taken.0

-- what a slice returns at the end, by whether the key fits
abbrev finished_by : Bool → ℕ → Result ℕ TooSmall
finished_by b t = if b then Ok t else Err (record { length = t })

whole_test : (b : Bool) (t n : ℕ) → Ok n ≡ finished_by b t → (b ≡ true) × (n ≡ t)
whole_test true t n e = (refl, cc)
whole_test false t n e = absurd (cc)

-- a key that the slice took whole
pub taken_whole : (old mid key : List ℕ) (t n : ℕ) → length old < 2 ^ 64 - 1 → SliceTakes old 0 key mid t → Ok n ≡ slice_finish mid t → IsAtFront key n mid
taken_whole old mid key t n small h e = fitting (whole_test (nat_le t (length mid)) t n e)
  where
    fitting : (nat_le t (length mid) ≡ true) × (n ≡ t) → IsAtFront key n mid
    fitting (le, is) =
        let room = within t mid le in
        let same = same_length old mid key t h in
        let fits : 0 + length key ≤ length old = omega (arith, h.moves) in
        let whole : n ≡ length key = omega (arith, h.moves) in
        (whole, ap (λ k. take k mid) whole ∙ ap (take (length key)) (h.fits fits) ∙ take_at key (drop (0 + length key) old) (length key) refl)

refused_test : (b : Bool) (t : ℕ) (e : TooSmall) → Err e ≡ finished_by b t → e.length ≡ t
refused_test true t e h = absurd (cc)
refused_test false t e h = cc

-- what a slice as a sink does
abbrev slice_effects : SinkEffects (MutBor (List ℕ)) ℕ ℕ TooSmall
slice_effects = record {
  took = λ x s b y t. SliceTook x.now s b y.now t × (y.ghost_name ≡ x.ghost_name);
  refused = λ _ _ _ _ _ _. ⊥;
  finished = λ x s r y. (r ≡ slice_finish x.now s) × (y.now ≡ x.now) × (y.ghost_name ≡ x.ghost_name);
  begins = λ s. s ≡ 0;
}

from_start : (x z : MutBor (List ℕ)) (key : List ℕ) (s t : ℕ) → length x.now < 2 ^ 64 - 1 → s ≡ 0 → SliceTook x.now s key z.now t → SliceTakes x.now 0 key z.now t
from_start x z key s t small e took = subst (λ k. SliceTakes x.now k key z.now t) e (took (omega arith))

plain_sum : (t n : ℕ) → t ≡ min (0 + n) (2 ^ 64 - 1) → t ≡ min n (2 ^ 64 - 1)
plain_sum t n h = omega (arith, h)

-- what a key that was written to a slice comes to
pub front_of_key : (x y : MutBor (List ℕ)) (key : List ℕ) (written : Result ℕ (SortKeyError TooSmall)) (r : Result Unit Failure) (m : ℕ) (out : List ℕ)
    → length x.now < 2 ^ 64 - 1 → WritesKey slice_effects x key written y → KeyOutcome written r m → y.now ≡ out → WritesFront key r m out
front_of_key x y key (Ok n) (Ok v) m out small (s, z, t, begins, took, finished) is at =
    let whole : IsAtFront key n z.now = taken_whole x.now z.now key t n small (from_start x z key s t small begins took.0) finished.0 in
    (is ∙ whole.0, ap (take m) (sym at ∙ finished.1) ∙ ap (λ k. take k z.now) is ∙ whole.1)
front_of_key x y key (Err (errors.Sink e)) (Err TooSmallRoom) m out small (s, begins, inl (t, fails)) is at = absurd fails.fails
front_of_key x y key (Err (errors.Sink e)) (Err TooSmallRoom) m out small (s, begins, inr (z, t, took, finished)) is at =
    is ∙ refused_test (nat_le t (length z.now)) t e finished.0 ∙ plain_sum t (length key) (from_start x z key s t small begins took.0).moves
front_of_key x y key (Err errors.NoMemory) (Err NoMemory) m out small k is at = tt
front_of_key x y key (Ok n) (Err e) m out small k is at = absurd is
front_of_key x y key (Err (errors.Sink e)) (Ok v) m out small k is at = absurd is
front_of_key x y key (Err (errors.Sink e)) (Err NoMemory) m out small k is at = absurd is
front_of_key x y key (Err (errors.Sink e)) (Err Tables) m out small k is at = absurd is
front_of_key x y key (Err (errors.Sink e)) (Err Settings) m out small k is at = absurd is
front_of_key x y key (Err (errors.Sink e)) (Err Closed) m out small k is at = absurd is
front_of_key x y key (Err (errors.Sink e)) (Err NoBound) m out small k is at = absurd is
front_of_key x y key (Err errors.NoMemory) (Ok v) m out small k is at = absurd is
front_of_key x y key (Err errors.NoMemory) (Err Tables) m out small k is at = absurd is
front_of_key x y key (Err errors.NoMemory) (Err Settings) m out small k is at = absurd is
front_of_key x y key (Err errors.NoMemory) (Err TooSmallRoom) m out small k is at = absurd is
front_of_key x y key (Err errors.NoMemory) (Err Closed) m out small k is at = absurd is
front_of_key x y key (Err errors.NoMemory) (Err NoBound) m out small k is at = absurd is

-- a slice that a key was written to is the same slice
pub names_kept : (x y : MutBor (List ℕ)) (key : List ℕ) (written : Result ℕ (SortKeyError TooSmall)) → WritesKey slice_effects x key written y → y.ghost_name ≡ x.ghost_name
names_kept x y key (Ok n) (s, z, t, begins, took, finished) = finished.2 ∙ took.1
names_kept x y key (Err (errors.Sink e)) (s, begins, inl (t, fails)) = absurd fails.fails
names_kept x y key (Err (errors.Sink e)) (s, begins, inr (z, t, took, finished)) = finished.2 ∙ took.1
names_kept x y key (Err errors.NoMemory) (s, t, begins, taken) = taken.taken.1
