-- Writes one after another.
use Rattle.std.proofs.Common.{◌≡◌, ℕ, List, [], ◌++◌, refl, sym, ap, subst, ◌∙◌, append_assoc, Result, Ok, Err, MatchResult}
use Rattle.std.proofs.lemmas.List.{append-nil}
use Rattle.icu_key_writers.specs.Sinks.{SinkEffects}
use Rattle.icu_key_writers.specs.Writes.{Writes, WriteFails, Brings, Feeds}

-- Of the bytes `whole`, which a call is to write from x and s on, those before `rest` were taken
pub record Owes {X St F E : Type 0} (effects : SinkEffects X St F E) (x : X) (s : St) (whole rest : List ℕ) (y : X) (t : St) : Type 0 where
  pub front : List ℕ
  pub taken : effects.took x s front y t
  pub splits : whole ≡ front ++ rest

module _ {X St F E : Type 0} (effects : SinkEffects X St F E) where
  -- a failed write of a front
  pub fails_front : (x y : X) (s t : St) (b c : List ℕ) (e : E) → WriteFails effects x s b e y t → WriteFails effects x s (b ++ c) e y t
  fails_front x y s t b c e f = record {
    sink = f.sink;
    state = f.state;
    front = f.front;
    tried = f.tried;
    rest = f.rest ++ c;
    splits = ap (λ l. l ++ c) f.splits ∙ (append_assoc f.front (f.tried ++ f.rest) c ∙ ap (λ l. f.front ++ l) (append_assoc f.tried f.rest c));
    taken = f.taken;
    fails = f.fails;
  }

  -- one refused write
  pub fails_one : (x y : X) (s t : St) (b : List ℕ) (e : E) → effects.took x s [] x s → effects.refused x s b e y t → WriteFails effects x s b e y t
  fails_one x y s t b e n f = record { sink = x; state = s; front = []; tried = b; rest = []; splits = sym (append-nil b); taken = n; fails = f }

  -- what fails after some bytes were taken
  pub fails_after : (x y z : X) (s t u : St) (b c : List ℕ) (e : E)
      → ((y z : X) (t u : St) (b c : List ℕ) → effects.took x s b y t → effects.took y t c z u → effects.took x s (b ++ c) z u)
      → effects.took x s b y t → WriteFails effects y t c e z u → WriteFails effects x s (b ++ c) e z u
  fails_after x y z s t u b c e both p f = record {
    sink = f.sink;
    state = f.state;
    front = b ++ f.front;
    tried = f.tried;
    rest = f.rest;
    splits = ap (λ l. b ++ l) f.splits ∙ sym (append_assoc b f.front (f.tried ++ f.rest));
    taken = both y f.sink t f.state b f.front p f.taken;
    fails = f.fails;
  }

  -- what one write of the sink's own returned
  pub writes_one : {O : Type 0} (x y : X) (s t : St) (b : List ℕ) (r : Result O E)
      → effects.took x s [] x s → MatchResult r (λ _. effects.took x s b y t) (λ e. effects.refused x s b e y t) → Writes effects x s b r y t
  writes_one x y s t b (Ok v) n w = w
  writes_one x y s t b (Err e) n w = fails_one x y s t b e n w

  -- the same bytes in other words
  pub writes_same : {O : Type 0} (x y : X) (s t : St) (b c : List ℕ) (r : Result O E) → b ≡ c → Writes effects x s c r y t → Writes effects x s b r y t
  writes_same x y s t b c r e w = subst (λ (bs : List ℕ). Writes effects x s bs r y t) (sym e) w

  -- what a call returned that goes on after some bytes
  pub writes_after : {O : Type 0} (x y z : X) (s t u : St) (b c : List ℕ) (r : Result O E)
      → ((y z : X) (t u : St) (b c : List ℕ) → effects.took x s b y t → effects.took y t c z u → effects.took x s (b ++ c) z u)
      → effects.took x s b y t → Writes effects y t c r z u → Writes effects x s (b ++ c) r z u
  writes_after x y z s t u b c (Ok v) both p w = both y z t u b c p w
  writes_after x y z s t u b c (Err e) both p w = fails_after x y z s t u b c e both p w

  -- what the sink's own write returned, after some bytes were taken
  pub writes_last : {O : Type 0} (x y z : X) (s t u : St) (b c : List ℕ) (r : Result O E)
      → ((y z : X) (t u : St) (b c : List ℕ) → effects.took x s b y t → effects.took y t c z u → effects.took x s (b ++ c) z u)
      → effects.took x s b y t → MatchResult r (λ _. effects.took y t c z u) (λ e. effects.refused y t c e z u) → Writes effects x s (b ++ c) r z u
  writes_last x y z s t u b c (Ok v) both p w = both y z t u b c p w
  writes_last x y z s t u b c (Err e) both p w =
      record { sink = y; state = t; front = b; tried = c; rest = []; splits = ap (λ l. b ++ l) (sym (append-nil c)); taken = p; fails = w }

  -- a call that writes the bytes by which what is to be written shrinks
  pub feeds_writes : {R : Type 0} (x y : X) (s t : St) (b : List ℕ) (before after : R → List ℕ) (r : Result Unit E)
      → ((rest : R) → before rest ≡ b ++ after rest) → Writes effects x s b r y t → Feeds effects x s before after r y t
  feeds_writes x y s t b before after (Ok v) h w = record { front = b; taken = w; leaves = h }
  feeds_writes x y s t b before after (Err e) h w = λ rest. let g = fails_front x y s t b (after rest) e w in rw (h rest) g

  -- a write of the sink's own, after a part of what is to be written was taken
  pub brings_more : {R : Type 0} (x y z : X) (s t u : St) (b : List ℕ) (before middle after : R → List ℕ)
      → ((y z : X) (t u : St) (b c : List ℕ) → effects.took x s b y t → effects.took y t c z u → effects.took x s (b ++ c) z u)
      → Brings effects x s before middle y t → effects.took y t b z u → ((rest : R) → middle rest ≡ b ++ after rest) → Brings effects x s before after z u
  brings_more x y z s t u b before middle after both w p h = record {
    front = w.front ++ b;
    taken = both y z t u w.front b w.taken p;
    leaves = λ rest. w.leaves rest ∙ (ap (λ l. w.front ++ l) (h rest) ∙ sym (append_assoc w.front b (after rest)));
  }

  pub brings_fails : {R : Type 0} (x y z : X) (s t u : St) (b : List ℕ) (before middle after : R → List ℕ) (e : E)
      → Brings effects x s before middle y t → effects.refused y t b e z u → ((rest : R) → middle rest ≡ b ++ after rest)
      → (rest : R) → WriteFails effects x s (before rest) e z u
  brings_fails x y z s t u b before middle after e w p h rest =
      record { sink = y; state = t; front = w.front; tried = b; rest = after rest; splits = w.leaves rest ∙ ap (λ l. w.front ++ l) (h rest); taken = w.taken; fails = p }

  -- what a call brought, after a part of what is to be written was taken
  pub brings_both : {Q R : Type 0} (f : R → Q) (x y z : X) (s t u : St) (before middle after : R → List ℕ) (p q : Q → List ℕ)
      → ((y z : X) (t u : St) (b c : List ℕ) → effects.took x s b y t → effects.took y t c z u → effects.took x s (b ++ c) z u)
      → Brings effects x s before middle y t → Brings effects y t p q z u
      → ((rest : R) → middle rest ≡ p (f rest)) → ((rest : R) → after rest ≡ q (f rest)) → Brings effects x s before after z u
  brings_both f x y z s t u before middle after p q both w v h k = record {
    front = w.front ++ v.front;
    taken = both y z t u w.front v.front w.taken v.taken;
    leaves = λ rest. w.leaves rest ∙ (ap (λ l. w.front ++ l) (h rest ∙ (v.leaves (f rest) ∙ ap (λ l. v.front ++ l) (sym (k rest))))
        ∙ sym (append_assoc w.front v.front (after rest)));
  }

  pub brings_stopped : {Q R : Type 0} (f : R → Q) (x y z : X) (s t u : St) (before middle : R → List ℕ) (p : Q → List ℕ) (e : E)
      → ((y z : X) (t u : St) (b c : List ℕ) → effects.took x s b y t → effects.took y t c z u → effects.took x s (b ++ c) z u)
      → Brings effects x s before middle y t → ((q : Q) → WriteFails effects y t (p q) e z u)
      → ((rest : R) → middle rest ≡ p (f rest)) → (rest : R) → WriteFails effects x s (before rest) e z u
  brings_stopped f x y z s t u before middle p e both w v h rest =
      rw (w.leaves rest, h rest) (fails_after x y z s t u w.front (p (f rest)) e both w.taken (v (f rest)))

  -- what a call returned that writes the rest
  pub brings_written : {R O : Type 0} (x y z : X) (s t u : St) (before after : R → List ℕ) (rest : R) (r : Result O E)
      → ((y z : X) (t u : St) (b c : List ℕ) → effects.took x s b y t → effects.took y t c z u → effects.took x s (b ++ c) z u)
      → Brings effects x s before after y t → Writes effects y t (after rest) r z u → Writes effects x s (before rest) r z u
  brings_written x y z s t u before after rest r both w p =
      writes_same x z s u (before rest) (w.front ++ after rest) r (w.leaves rest) (writes_after x y z s t u w.front (after rest) r both w.taken p)

  -- the same call, where the rest of the level is said in other words
  pub feeds_mapped : {Q R : Type 0} (f : Q → R) (x y : X) (s t : St) (before after : R → List ℕ) (before' after' : Q → List ℕ) (r : Result Unit E)
      → ((q : Q) → before' q ≡ before (f q)) → ((q : Q) → after' q ≡ after (f q)) → Feeds effects x s before after r y t → Feeds effects x s before' after' r y t
  feeds_mapped f x y s t before after before' after' (Ok v) p q w =
      record { front = w.front; taken = w.taken; leaves = λ rest. p rest ∙ (w.leaves (f rest) ∙ ap (λ l. w.front ++ l) (sym (q rest))) }
  feeds_mapped f x y s t before after before' after' (Err e) p q w = λ rest. rw (p rest) (w (f rest))

  -- ---- a level fed in a loop

  pub owes_all : (x : X) (s : St) (whole : List ℕ) → effects.took x s [] x s → Owes effects x s whole whole x s
  owes_all x s whole n = record { front = []; taken = n; splits = refl }

  pub owes_fed : {R : Type 0} (x y z : X) (s t u : St) (whole : List ℕ) (before after : R → List ℕ) (rest : R)
      → ((y z : X) (t u : St) (b c : List ℕ) → effects.took x s b y t → effects.took y t c z u → effects.took x s (b ++ c) z u)
      → Owes effects x s whole (before rest) y t → Brings effects y t before after z u → Owes effects x s whole (after rest) z u
  owes_fed x y z s t u whole before after rest both o w = record {
    front = o.front ++ w.front;
    taken = both y z t u o.front w.front o.taken w.taken;
    splits = o.splits ∙ (ap (λ l. o.front ++ l) (w.leaves rest) ∙ sym (append_assoc o.front w.front (after rest)));
  }

  pub owes_fails : (x y z : X) (s t u : St) (whole rest : List ℕ) (e : E)
      → ((y z : X) (t u : St) (b c : List ℕ) → effects.took x s b y t → effects.took y t c z u → effects.took x s (b ++ c) z u)
      → Owes effects x s whole rest y t → WriteFails effects y t rest e z u → WriteFails effects x s whole e z u
  owes_fails x y z s t u whole rest e both o f = rw o.splits (fails_after x y z s t u o.front rest e both o.taken f)

  pub owes_written : {O : Type 0} (x y z : X) (s t u : St) (whole rest : List ℕ) (r : Result O E)
      → ((y z : X) (t u : St) (b c : List ℕ) → effects.took x s b y t → effects.took y t c z u → effects.took x s (b ++ c) z u)
      → Owes effects x s whole rest y t → Writes effects y t rest r z u → Writes effects x s whole r z u
  owes_written x y z s t u whole rest r both o w = rw o.splits (writes_after x y z s t u o.front rest r both o.taken w)
