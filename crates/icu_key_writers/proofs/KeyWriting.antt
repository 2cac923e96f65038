-- Parts of a key, written one after another.
use Rattle.std.proofs.Common.{◌≡◌, ℕ, List, [], ◌++◌, refl, sym, ap, ap₂, ◌∙◌, append_assoc, Result, Ok, Err}
use Rattle.icu_key_writers.specs.declared.error.SortKeyError.{SortKeyError}
use Rattle.icu_key_writers.specs.declared.error.SortKeyError.TheVariants.{Sink, NoMemory}
use Rattle.icu_key_writers.specs.Sinks.{SinkEffects, TakesBeginning}
use Rattle.icu_key_writers.specs.Writes.{Brings}
use Rattle.icu_key_writers.specs.KeyWrites.{KeyWrites, KeyFeeds}
use Rattle.icu_key_writers.proofs.Writing.{Owes, fails_front, fails_after}

module _ {X St F E : Type 0} (effects : SinkEffects X St F E) where
  pub begins_nothing : (x : X) (s : St) (bytes : List ℕ) → effects.took x s [] x s → TakesBeginning (λ front. effects.took x s front x s) bytes
  begins_nothing x s bytes n = record { front = []; rest = bytes; splits = refl; taken = n }

  pub begins_front : (x y : X) (s t : St) (b c : List ℕ) → TakesBeginning (λ front. effects.took x s front y t) b → TakesBeginning (λ front. effects.took x s front y t) (b ++ c)
  begins_front x y s t b c h =
      record { front = h.front; rest = h.rest ++ c; splits = ap (λ l. l ++ c) h.splits ∙ append_assoc h.front h.rest c; taken = h.taken }

  pub begins_after : (x y z : X) (s t u : St) (b c : List ℕ)
      → ((y z : X) (t u : St) (b c : List ℕ) → effects.took x s b y t → effects.took y t c z u → effects.took x s (b ++ c) z u)
      → effects.took x s b y t → TakesBeginning (λ front. effects.took y t front z u) c → TakesBeginning (λ front. effects.took x s front z u) (b ++ c)
  begins_after x y z s t u b c both p h = record {
    front = b ++ h.front;
    rest = h.rest;
    splits = ap (λ l. b ++ l) h.splits ∙ sym (append_assoc b h.front h.rest);
    taken = both y z t u b h.front p h.taken;
  }

  -- what a call returned that goes on after some bytes
  pub key_after : {O : Type 0} (x y z : X) (s t u : St) (b c : List ℕ) (r : Result O (SortKeyError E))
      → ((y z : X) (t u : St) (b c : List ℕ) → effects.took x s b y t → effects.took y t c z u → effects.took x s (b ++ c) z u)
      → effects.took x s b y t → KeyWrites effects y t c r z u → KeyWrites effects x s (b ++ c) r z u
  key_after x y z s t u b c (Ok v) both p w = both y z t u b c p w
  key_after x y z s t u b c (Err (Sink e)) both p w = fails_after effects x y z s t u b c e both p w
  key_after x y z s t u b c (Err NoMemory) both p w = begins_after x y z s t u b c both p w

  -- a call that stopped before some bytes
  pub key_front : (O P : Type 0) (x y : X) (s t : St) (b c : List ℕ) (e : SortKeyError E)
      → KeyWrites {O = O} effects x s b (Err e) y t → KeyWrites {O = P} effects x s (b ++ c) (Err e) y t
  key_front O P x y s t b c (Sink e) w = fails_front effects x y s t b c e w
  key_front O P x y s t b c NoMemory w = begins_front x y s t b c w

  -- ---- what is fed

  -- a first part that brings some bytes, and parts after it that stay the same
  pub feeds_both : {R : Type 0} (x y : X) (s t : St) (p q h k : R → List ℕ) → Brings effects x s p q y t → ((rest : R) → h rest ≡ k rest)
      → Brings effects x s (λ rest. p rest ++ h rest) (λ rest. q rest ++ k rest) y t
  feeds_both x y s t p q h k w same = record {
    front = w.front;
    taken = w.taken;
    leaves = λ rest. ap₂ (λ (a b : List ℕ). a ++ b) (w.leaves rest) (same rest) ∙ append_assoc w.front (q rest) (k rest);
  }

  pub begins_brought : {R : Type 0} (x y : X) (s t : St) (p q h : R → List ℕ) → Brings effects x s p q y t → (rest : R)
      → TakesBeginning (λ front. effects.took x s front y t) (p rest ++ h rest)
  begins_brought x y s t p q h w rest = record {
    front = w.front;
    rest = q rest ++ h rest;
    splits = ap (λ l. l ++ h rest) (w.leaves rest) ∙ append_assoc w.front (q rest) (h rest);
    taken = w.taken;
  }

  -- bytes that a call brought, said of other lists
  pub brings_of : {R Q : Type 0} (f : Q → R) (x y : X) (s t : St) (p q : R → List ℕ) → Brings effects x s p q y t
      → Brings effects x s (λ rest. p (f rest)) (λ rest. q (f rest)) y t
  brings_of f x y s t p q w = record { front = w.front; taken = w.taken; leaves = λ rest. w.leaves (f rest) }

  -- ---- a key fed in a loop

  pub key_owed : {O : Type 0} (x y z : X) (s t u : St) (whole rest : List ℕ) (r : Result O (SortKeyError E))
      → ((y z : X) (t u : St) (b c : List ℕ) → effects.took x s b y t → effects.took y t c z u → effects.took x s (b ++ c) z u)
      → Owes effects x s whole rest y t → KeyWrites effects y t rest r z u → KeyWrites effects x s whole r z u
  key_owed x y z s t u whole rest r both o w = rw o.splits (key_after x y z s t u o.front rest r both o.taken w)

  -- a call that was fed and stopped
  pub feeds_stopped : (O : Type 0) {R : Type 0} (x y : X) (s t : St) (before after : R → List ℕ) (rest : R) (e : SortKeyError E)
      → KeyFeeds effects x s before after (Err e) y t → KeyWrites {O = O} effects x s (before rest) (Err e) y t
  feeds_stopped O x y s t before after rest (Sink e) w = w rest
  feeds_stopped O x y s t before after rest NoMemory w = w rest
