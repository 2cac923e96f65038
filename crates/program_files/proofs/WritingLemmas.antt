-- How known bytes grow, one write after another.
use Rattle.std.proofs.Common.{◌≡◌, ℕ, ◌+◌, ◌≤◌, List, ◌++◌, Option, Some, None, take, drop, length, refl, sym, ◌∙◌, ap, append_assoc, append-nil, ◌-◌, Result, Ok, Err, OnOk, OnErr, arith, length-drop, subst}
use Rattle.std.proofs.lemmas.List.{take-append-drop, take_rest}
use Rattle.std.proofs.Math.Seq.{take-add, take-append-add, take-append_seam, take-length}
use Rattle.std.specs.Io.KnownBytes.{Appends, Keeps}
use Rattle.program_files.specs.PartialWrites.{AppendsBeginning}

pub Keeps_same : (known : Option (List ℕ)) → Keeps known known
Keeps_same None = tt
Keeps_same (Some xs) = refl

-- nothing more is a beginning of any text
pub AppendsBeginning_kept : (old new : Option (List ℕ)) (text : List ℕ) → Keeps old new → AppendsBeginning old new text
AppendsBeginning_kept None new text h = (0, tt)
AppendsBeginning_kept (Some xs) None text h = absurd h
AppendsBeginning_kept (Some xs) (Some ys) text h = (0, h ∙ sym (append-nil xs))

-- what was appended is still there after a step that changed nothing
pub Appends_kept : (old mid new : Option (List ℕ)) (text : List ℕ) → Appends old mid text → Keeps mid new → Appends old new text
Appends_kept None mid new text h k = tt
Appends_kept (Some xs) None new text h k = absurd h
Appends_kept (Some xs) (Some ys) None text h k = absurd k
Appends_kept (Some xs) (Some ys) (Some zs) text h k = k ∙ h

-- one text after another
pub Appends_more : (old mid new : Option (List ℕ)) (first second : List ℕ)
    → Appends old mid first → Appends mid new second → Appends old new (first ++ second)
Appends_more None mid new first second h k = tt
Appends_more (Some xs) None new first second h k = absurd h
Appends_more (Some xs) (Some ys) None first second h k = absurd k
Appends_more (Some xs) (Some ys) (Some zs) first second h k =
    k ∙ ap (λ bs. bs ++ second) h ∙ append_assoc xs first second

-- a beginning, and then a beginning of what is left
pub Appends_further : (old mid new : Option (List ℕ)) (text : List ℕ) (done n : ℕ) → done ≤ length text
    → Appends old mid (take done text) → Appends mid new (take n (take (length text - done) (drop done text)))
    → Appends old new (take (done + n) text)
Appends_further old mid new text done n within h k =
    rw take-add (Appends_more old mid new (take done text) (take n (drop done text)) h (rw (take_rest text done) at k))

-- a beginning of a text is one of what it begins
pub AppendsBeginning_front : (old new : Option (List ℕ)) (text more : List ℕ) → AppendsBeginning old new text → AppendsBeginning old new (text ++ more)
AppendsBeginning_front old new text more (n, h) =
    let front : take (length (take n text)) (text ++ more) ≡ take n text =
    ap (λ (ts : List ℕ). take (length (take n text)) (ts ++ more)) (sym (take-append-drop n text))
    ∙ (ap (λ (ts : List ℕ). take (length (take n text)) ts) (append_assoc (take n text) (drop n text) more)
    ∙ take-append_seam (take n text) (drop n text ++ more)) in
    (length (take n text), subst (λ (ts : List ℕ). Appends old new ts) (sym front) h)

-- a text, and then a beginning of another
pub AppendsBeginning_behind : (old mid new : Option (List ℕ)) (text more : List ℕ)
    → Appends old mid text → AppendsBeginning mid new more → AppendsBeginning old new (text ++ more)
AppendsBeginning_behind old mid new text more h (n, k) =
    (length text + n, subst (λ (ts : List ℕ). Appends old new ts) (sym (take-append-add text more n)) (Appends_more old mid new text (take n more) h k))

-- where a text was written, or a beginning of it, a beginning was
pub AppendsBeginning_either : {E : Type 0} (r : Result (Unit {0}) E) (old new : Option (List ℕ)) (text : List ℕ)
    → OnOk r (Appends old new text) → OnErr r (AppendsBeginning old new text) → AppendsBeginning old new text
AppendsBeginning_either (Ok x) old new text ok err = (length text, rw take-length ok)
AppendsBeginning_either (Err e) old new text ok err = err

-- what is taken of the rest stays within the text
pub within_more : (text : List ℕ) (done n : ℕ) → done ≤ length text
    → n ≤ length (take (length text - done) (drop done text)) → done + n ≤ length text
within_more text done n within h =
    let left : n ≤ length text - done = simp (take_rest, length-drop) at h in
    omega arith
