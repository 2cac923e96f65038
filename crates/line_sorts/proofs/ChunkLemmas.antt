-- How far a text is written, after one step and another.
use Rattle.std.proofs.Common.{◌≡◌, ℕ, ◌+◌, ◌≤◌, List, [], ◌++◌, Err, IsErrAnd, Ok, OnErr, OnOk, Option, Result, Some, take, drop, length, sym, ◌∙◌, ap, subst, append_assoc, append-nil, take-append-drop}
use Rattle.std.proofs.KnownBytes.{Appends-kept, Appends-nil, Appends-trans, Keeps-refl}
use Rattle.std.proofs.Math.Seq.{take-add}
use Rattle.std.proofs.lemmas.List.{drop-append-le, drop-drop, take-append-le}
use Rattle.std.specs.Io.KnownBytes.{Appends, Keeps}
use Rattle.line_sorts.specs.OrderedTexts.{WritesBeginning}
use Rattle.line_sorts.specs.inner.Chunks.{Advances, HasWritten, Proceeds, StopsAmid}

-- ---- one step

-- nothing was done
pub stays : (old : Option (List ℕ)) (bytes left : List ℕ) → left ≡ bytes → Advances old bytes old left
stays old bytes left same first text more h = subst (λ (l : List ℕ). HasWritten first old text (l ++ more)) (sym same) h

-- the writer took a beginning of the bytes
pub takes : (old new : Option (List ℕ)) (bytes : List ℕ) (n : ℕ) → n ≤ length bytes → Appends old new (take n bytes) → Advances old bytes new (drop n bytes)
takes old new bytes n within appends first text more h =
    let begins : take n (drop h.count text) ≡ take n bytes = ap (take n) (sym h.rest) ∙ take-append-le n bytes more within in
    record {
      count = h.count + n;
      written =
          subst (Appends first new) (sym (take-add h.count n text ∙ ap (λ (l : List ℕ). take h.count text ++ l) begins))
          (Appends-trans first old new (take h.count text) (take n bytes) h.written appends);
      rest =
          sym (drop-append-le n bytes more within) ∙ (ap (drop n) h.rest ∙ drop-drop n h.count text);
    }

-- nothing was taken, and no more is to be
pub kept_stops : (old new : Option (List ℕ)) (bytes : List ℕ) → Keeps old new → StopsAmid old bytes new
kept_stops old new bytes kept first text more h = (h.count, Appends-kept first old new (take h.count text) h.written kept)

-- no more is to be
pub stops_here : (old : Option (List ℕ)) (bytes : List ℕ) → StopsAmid old bytes old
stops_here old bytes = kept_stops old old bytes (Keeps-refl old)

-- ---- one step after another

pub advances_then : (old mid new : Option (List ℕ)) (bytes some left : List ℕ) → Advances old bytes mid some → Advances mid some new left → Advances old bytes new left
advances_then old mid new bytes some left h k first text more w = k first text more (h first text more w)

pub advances_stops : (old mid new : Option (List ℕ)) (bytes some : List ℕ) → Advances old bytes mid some → StopsAmid mid some new → StopsAmid old bytes new
advances_stops old mid new bytes some h k first text more w = k first text more (h first text more w)

pub proceeds_then : {X E : Type 0} (r : Result X E) (old mid new : Option (List ℕ)) (bytes some left : List ℕ)
    → Advances old bytes mid some → Proceeds r mid some new left → Proceeds r old bytes new left
proceeds_then (Ok x) old mid new bytes some left h k = advances_then old mid new bytes some left h k
proceeds_then (Err e) old mid new bytes some left h k = advances_stops old mid new bytes some h k

-- an error is handed on
pub handed_on : {X E : Type 0} (Q : E → Type 0) (r : Result X E) (old new : Option (List ℕ)) (bytes left : List ℕ)
    → IsErrAnd r Q → StopsAmid old bytes new → Proceeds r old bytes new left
handed_on Q (Ok x) old new bytes left h s = absurd h
handed_on Q (Err e) old new bytes left h s = s

-- ---- with bytes behind

pub advances_more : (old new : Option (List ℕ)) (bytes left next : List ℕ) → Advances old bytes new left → Advances old (bytes ++ next) new (left ++ next)
advances_more old new bytes left next h first text more w =
    subst (HasWritten first new text) (sym (append_assoc left next more))
    (h first text (next ++ more) (subst (HasWritten first old text) (append_assoc bytes next more) w))

pub stops_more : (old new : Option (List ℕ)) (bytes next : List ℕ) → StopsAmid old bytes new → StopsAmid old (bytes ++ next) new
stops_more old new bytes next h first text more w =
    h first text (next ++ more) (subst (HasWritten first old text) (append_assoc bytes next more) w)

-- bytes behind a chunk, of those that are to come
pub advances_front : (old new : Option (List ℕ)) (chunk bytes next left : List ℕ)
    → Advances old (chunk ++ bytes) new left → Advances old (chunk ++ (bytes ++ next)) new (left ++ next)
advances_front old new chunk bytes next left h =
    subst (λ (l : List ℕ). Advances old l new (left ++ next)) (append_assoc chunk bytes next) (advances_more old new (chunk ++ bytes) left next h)

pub stops_front : (old new : Option (List ℕ)) (chunk bytes next : List ℕ) → StopsAmid old (chunk ++ bytes) new → StopsAmid old (chunk ++ (bytes ++ next)) new
stops_front old new chunk bytes next h =
    subst (λ (l : List ℕ). StopsAmid old l new) (append_assoc chunk bytes next) (stops_more old new (chunk ++ bytes) next h)

-- and then the others
pub proceeds_twice : {X E : Type 0} (r : Result X E) (old mid new : Option (List ℕ)) (chunk bytes next some left : List ℕ)
    → Advances old (chunk ++ bytes) mid some → Proceeds r mid (some ++ next) new left → Proceeds r old (chunk ++ (bytes ++ next)) new left
proceeds_twice r old mid new chunk bytes next some left h k =
    proceeds_then r old mid new (chunk ++ (bytes ++ next)) (some ++ next) left (advances_front old mid chunk bytes next some h) k

-- no other is to come
pub advances_last : (old new : Option (List ℕ)) (bytes left next : List ℕ) → next ≡ [] → Advances old bytes new (left ++ next) → Advances old bytes new left
advances_last old new bytes left next none h =
    subst (Advances old bytes new) (ap (λ (l : List ℕ). left ++ l) none ∙ append-nil left) h

-- ---- the whole text

none_yet : (old : Option (List ℕ)) (text : List ℕ) → HasWritten old old text (text ++ [])
none_yet old text = record { count = 0; written = Appends-nil old; rest = append-nil text }

-- where nothing is left all was written
pub all_written : (old new : Option (List ℕ)) (text : List ℕ) → Advances old text new [] → Appends old new text
all_written old new text h =
    let w = h old text [] (none_yet old text) in
    subst (Appends old new) (sym (append-nil (take w.count text)) ∙ (ap (λ (l : List ℕ). take w.count text ++ l) w.rest ∙ take-append-drop w.count text)) w.written

-- what was written, and then what is left
pub both_parts : (new text left : List ℕ) → Advances (Some []) text (Some new) left → new ++ left ≡ text
both_parts new text left h =
    let w = h (Some []) text [] (none_yet (Some []) text) in
    ap (λ (l : List ℕ). l ++ left) w.written
    ∙ (ap (λ (l : List ℕ). take w.count text ++ l) (sym (append-nil left) ∙ w.rest) ∙ take-append-drop w.count text)

-- where writing stopped a beginning was
pub part_written : (old new : Option (List ℕ)) (text : List ℕ) → StopsAmid old text new → WritesBeginning old new text
part_written old new text h = h old text [] (none_yet old text)

pub on_ok_any : {X E P : Type 0} (r : Result X E) → P → OnOk r P
on_ok_any (Ok x) p = p
on_ok_any (Err e) p = tt

pub on_err_any : {X E P : Type 0} (r : Result X E) → P → OnErr r P
on_err_any (Ok x) p = tt
on_err_any (Err e) p = p
