-- Marks that stand by their classes: those of all queues, and where one of them stands.
use Rattle.std.proofs.Common.{◌≡◌, ℕ, zero, suc, ◌+◌, ◌-◌, ◌<◌, ◌≤◌, Bool, true, ◌||◌, ◌==◌, List, [], ◌∷◌, ◌++◌, length, take, drop, get_or, set, Option, Some, None, is_some, refl, sym, ap, subst, ◌∙◌, append_assoc, append-nil, arith, length-append}
use Rattle.std.specs.Prelude.{slice_get, option_to_list}
use Rattle.std.specs.List.{list_any}
use Rattle.std.proofs.lemmas.Bool.{and_parts, and_from, eq-eqb, eqb-true}
use Rattle.std.proofs.lemmas.List.{drop_all, drop_more, take-append-drop, set_split, drop-set-lt, length-take-le, length-set}
use Rattle.std.proofs.lemmas.Option.{same_Some}
use Rattle.icu_text_decomposition.proofs.FrontMarkLemmas.{no_starter}
use Rattle.ucd_normal.specs.CanonicalCombiningClass.{canonical_combining_class as class_of}
use Rattle.unicode_normalization.specs.Order.{is_starter}
use Rattle.icu_element_matches.specs.declared.mark_queue.MarkQueue.{MarkQueue}
use Rattle.icu_element_matches.specs.inner.ClassMarks.{are_of_class}
use Rattle.icu_element_matches.specs.MarksAhead.{BeginsWithMark}
use Rattle.icu_element_matches.specs.inner.MarkQueues.{queued_marks}

-- ---- characters of a class

-- each of these characters has this class, character by character
abbrev pub AreOfClass : ℕ → List ℕ → Type 0
AreOfClass k [] = Unit {0}
AreOfClass k (c ∷ cs) = (class_of c ≡ k) × AreOfClass k cs

pub by_test : (k : ℕ) (cs : List ℕ) → are_of_class k cs ≡ true → AreOfClass k cs
by_test k [] all = tt
by_test k (c ∷ cs) all =
    let parts = and_parts (class_of c == k) (are_of_class k cs) all in (eqb-true (class_of c) k parts.0, by_test k cs parts.1)

pub of_class-more : (k : ℕ) (cs : List ℕ) (c : ℕ) → are_of_class k cs ≡ true → class_of c ≡ k → are_of_class k (cs ++ c ∷ []) ≡ true
of_class-more k [] c all is = and_from (class_of c == k) true (eq-eqb (class_of c) k is) refl
of_class-more k (x ∷ xs) c all is =
    let parts = and_parts (class_of x == k) (are_of_class k xs) all in
    and_from (class_of x == k) _ parts.0 (of_class-more k xs c parts.1 is)

pub of_class-left : (k : ℕ) (old new : List ℕ) (o : Option ℕ) → old ≡ option_to_list o ++ new → are_of_class k old ≡ true → are_of_class k new ≡ true
of_class-left k old new None is all = subst (λ (l : List ℕ). are_of_class k l ≡ true) is all
of_class-left k old new (Some c) is all =
    (and_parts (class_of c == k) (are_of_class k new) (subst (λ (l : List ℕ). are_of_class k l ≡ true) is all)).1

no_starters : (k : ℕ) (cs more : List ℕ) → 0 < k → AreOfClass k cs → list_any is_starter (cs ++ more) ≡ list_any is_starter more
no_starters k [] more mark all = refl
no_starters k (c ∷ cs) more mark all =
    ap (λ b. b || list_any is_starter (cs ++ more)) (no_starter c (omega (arith, mark, all.0))) ∙ no_starters k cs more mark all.1

-- ---- the marks of queues

pub queued-append : (xs ys : List MarkQueue) → queued_marks (xs ++ ys) ≡ queued_marks xs ++ queued_marks ys
queued-append [] ys = refl
queued-append (q ∷ qs) ys =
    ap (λ (l : List ℕ). q.marks.items ++ l) (queued-append qs ys) ∙ sym (append_assoc q.marks.items (queued_marks qs) (queued_marks ys))

pub queued_from : (qs : List MarkQueue) (i : ℕ) (q : MarkQueue) → i < length qs → q ≡ get_or qs i q → queued_marks (drop i qs) ≡ q.marks.items ++ queued_marks (drop (i + 1) qs)
queued_from qs i q inside is =
    ap queued_marks (drop_more qs i q inside) ∙ ap (λ (x : MarkQueue). x.marks.items ++ queued_marks (drop (i + 1) qs)) (sym is)

pub queued_split : (qs : List MarkQueue) (i : ℕ) (q : MarkQueue) → i < length qs → q ≡ get_or qs i q → queued_marks qs ≡ queued_marks (take i qs) ++ (q.marks.items ++ queued_marks (drop (i + 1) qs))
queued_split qs i q inside is =
    ap queued_marks (sym (take-append-drop i qs)) ∙ queued-append (take i qs) (drop i qs)
    ∙ ap (λ (l : List ℕ). queued_marks (take i qs) ++ l) (queued_from qs i q inside is)

pub queued_set : (qs : List MarkQueue) (i : ℕ) (q : MarkQueue) → i < length qs → queued_marks (set qs i q) ≡ queued_marks (take i qs) ++ (q.marks.items ++ queued_marks (drop (i + 1) qs))
queued_set qs i q inside =
    let next : suc i ≡ i + 1 = omega arith in
    ap queued_marks (set_split qs i q inside) ∙ queued-append (take i qs) (q ∷ drop (suc i) qs)
    ∙ ap (λ n. queued_marks (take i qs) ++ (q.marks.items ++ queued_marks (drop n qs))) next

pub front_and_one : (front : List MarkQueue) (q : MarkQueue) (behind : List MarkQueue) (n : ℕ) → n ≡ length front + 1 → take n (front ++ q ∷ behind) ≡ front ++ q ∷ []
front_and_one [] q behind n is = ap (λ k. take k (q ∷ behind)) is
front_and_one (x ∷ xs) q behind zero is = absurd (omega (arith, is))
front_and_one (x ∷ xs) q behind (suc n) is = ap (λ (l : List MarkQueue). x ∷ l) (front_and_one xs q behind n (omega (arith, is)))

-- ---- characters by their index

pub get_before : (xs ys : List ℕ) (i c : ℕ) → slice_get xs i ≡ Some c → slice_get (xs ++ ys) i ≡ Some c
get_before [] ys i c h = cc
get_before (x ∷ xs) ys zero c h = h
get_before (x ∷ xs) ys (suc i) c h = get_before xs ys i c h

pub get_behind : (xs ys : List ℕ) (i j : ℕ) → i ≡ length xs + j → slice_get (xs ++ ys) i ≡ slice_get ys j
get_behind [] ys i j h = ap (slice_get ys) (omega (arith, h))
get_behind (x ∷ xs) ys zero j h = absurd (omega (arith, h))
get_behind (x ∷ xs) ys (suc i) j h = get_behind xs ys i j (omega (arith, h))

-- the first of a list, which was taken
pub taken_first : (old new : List ℕ) (o : Option ℕ) (m : ℕ) → old ≡ option_to_list o ++ new → (o ≡ None → old ≡ []) → slice_get old 0 ≡ Some m → old ≡ m ∷ new
taken_first old new None m is end at =
    let gone : slice_get [] 0 ≡ Some m = subst (λ (l : List ℕ). slice_get l 0 ≡ Some m) (end refl) at in cc
taken_first old new (Some x) m is end at =
    is ∙ ap (λ y. y ∷ new) (same_Some x m (subst (λ (l : List ℕ). slice_get l 0 ≡ Some m) is at))

-- ---- a walk over queues

module _ (qs : List MarkQueue) (i : ℕ) (q : MarkQueue) (inside : i < length qs) (is : q ≡ get_or qs i q) where
  left_len : length (queued_marks (drop i qs)) ≡ length q.marks.items + length (queued_marks (drop (i + 1) qs))
  left_len = ap length (queued_from qs i q inside is) ∙ length-append q.marks.items (queued_marks (drop (i + 1) qs))

  -- the mark is one of this queue
  pub found_here : (index behind c : ℕ) → slice_get (queued_marks qs) index ≡ slice_get (queued_marks (drop i qs)) behind → slice_get q.marks.items behind ≡ Some c → slice_get (queued_marks qs) index ≡ Some c
  found_here index behind c finds at =
      finds ∙ ap (λ (l : List ℕ). slice_get l behind) (queued_from qs i q inside is) ∙ get_before q.marks.items (queued_marks (drop (i + 1) qs)) behind c at

  -- it stands behind this queue
  pub found_behind : (index behind left : ℕ) → slice_get (queued_marks qs) index ≡ slice_get (queued_marks (drop i qs)) behind → behind ≡ length q.marks.items + left → slice_get (queued_marks qs) index ≡ slice_get (queued_marks (drop (i + 1) qs)) left
  found_behind index behind left finds split =
      finds ∙ ap (λ (l : List ℕ). slice_get l behind) (queued_from qs i q inside is) ∙ get_behind q.marks.items (queued_marks (drop (i + 1) qs)) behind left split

  pub count_behind : (all index behind left : ℕ) → all + behind ≡ index + length (queued_marks (drop i qs)) → behind ≡ length q.marks.items + left → all + left ≡ index + length (queued_marks (drop (i + 1) qs))
  count_behind all index behind left count split = omega (arith, left_len, count, split)

  pub counted_more : (all count : ℕ) → count + length (queued_marks (drop i qs)) ≡ all → count + length q.marks.items + length (queued_marks (drop (i + 1) qs)) ≡ all
  counted_more all count is = omega (arith, left_len, is)

  pub skipped_more : (all behind : ℕ) → behind - length (queued_marks (drop i qs)) ≡ all → (behind - length q.marks.items) - length (queued_marks (drop (i + 1) qs)) ≡ all
  skipped_more all behind is = omega (arith, left_len, is)

  -- a queue that was changed: what stands before it, its marks, and what stands behind it
  module _ (new : MarkQueue) where
    pub set_len : length (set qs i new) ≡ length qs
    set_len = length-set qs i new

    pub taken_marks : (o : Option ℕ) → q.marks.items ≡ option_to_list o ++ new.marks.items → queued_marks (take i qs) ≡ [] → queued_marks qs ≡ option_to_list o ++ queued_marks (set qs i new)
    taken_marks o split none =
        let rest : List ℕ = queued_marks (drop (i + 1) qs) in
        let old : queued_marks qs ≡ q.marks.items ++ rest = queued_split qs i q inside is ∙ ap (λ (l : List ℕ). l ++ (q.marks.items ++ rest)) none in
        let now : queued_marks (set qs i new) ≡ new.marks.items ++ rest = queued_set qs i new inside ∙ ap (λ (l : List ℕ). l ++ (new.marks.items ++ rest)) none in
        old ∙ ap (λ (l : List ℕ). l ++ rest) split ∙ append_assoc (option_to_list o) new.marks.items rest ∙ ap (λ (l : List ℕ). option_to_list o ++ l) (sym now)

    -- the marks up to this queue and those behind it
    pub before_next : queued_marks (take (i + 1) (set qs i new)) ≡ queued_marks (take i qs) ++ new.marks.items
    before_next =
        let next : suc i ≡ i + 1 = omega arith in
        let front : List MarkQueue = take i qs in
        let len : length front ≡ i = length-take-le i qs (omega (arith, inside)) in
        ap (λ (l : List MarkQueue). queued_marks (take (i + 1) l)) (set_split qs i new inside)
        ∙ ap queued_marks (front_and_one front new (drop (suc i) qs) (i + 1) (omega (arith, len)))
        ∙ queued-append front (new ∷ []) ∙ ap (λ (l : List ℕ). queued_marks front ++ l) (append-nil new.marks.items)

    pub behind_next : queued_marks (drop (i + 1) (set qs i new)) ≡ queued_marks (drop (i + 1) qs)
    behind_next = ap queued_marks (drop-set-lt (i + 1) qs i new (omega arith))

-- ---- one mark more behind all queues

pub pushed_last : (qs : List MarkQueue) (i : ℕ) (q new : MarkQueue) (c : ℕ) → i < length qs → length qs ≤ i + 1 → q ≡ get_or qs i q → new.marks.items ≡ q.marks.items ++ c ∷ [] → queued_marks (set qs i new) ≡ queued_marks qs ++ c ∷ []
pushed_last qs i q new c inside past is grown =
    let front : List ℕ = queued_marks (take i qs) in
    let none : queued_marks (drop (i + 1) qs) ≡ [] = ap queued_marks (drop_all (i + 1) qs past) in
    queued_set qs i new inside
    ∙ ap (λ (l : List ℕ). front ++ (new.marks.items ++ l)) none
    ∙ ap (λ (l : List ℕ). front ++ l) (append-nil new.marks.items ∙ grown)
    ∙ sym (append_assoc front q.marks.items (c ∷ []))
    ∙ ap (λ (l : List ℕ). (front ++ l) ++ c ∷ []) (sym (append-nil q.marks.items) ∙ ap (λ (l : List ℕ). q.marks.items ++ l) (sym none))
    ∙ ap (λ (l : List ℕ). l ++ c ∷ []) (sym (queued_split qs i q inside is))

pub pushed_new : (qs : List MarkQueue) (q : MarkQueue) (c : ℕ) → q.marks.items ≡ c ∷ [] → queued_marks (qs ++ q ∷ []) ≡ queued_marks qs ++ c ∷ []
pushed_new qs q c one =
    queued-append qs (q ∷ []) ∙ ap (λ (l : List ℕ). queued_marks qs ++ l) (append-nil q.marks.items ∙ one)

-- a queue that became longer by one mark at most
pub set_fewer : (qs : List MarkQueue) (i : ℕ) (q new : MarkQueue) (more : ℕ) → i < length qs → q ≡ get_or qs i q → length new.marks.items ≤ length q.marks.items + more → length (queued_marks (set qs i new)) ≤ length (queued_marks qs) + more
set_fewer qs i q new more inside is fewer =
    let front : List ℕ = queued_marks (take i qs) in
    let rest : List ℕ = queued_marks (drop (i + 1) qs) in
    let old = ap length (queued_split qs i q inside is) ∙ length-append front (q.marks.items ++ rest) in
    let now = ap length (queued_set qs i new inside) ∙ length-append front (new.marks.items ++ rest) in
    omega (arith, old, now, fewer, length-append q.marks.items rest, length-append new.marks.items rest)

-- ---- what stands first, and starters

begins_of : (k : ℕ) (cs rest more : List ℕ) (c : ℕ) → 0 < k → AreOfClass k cs → (slice_get rest 0 ≡ Some c → BeginsWithMark (rest ++ more)) → slice_get (cs ++ rest) 0 ≡ Some c → BeginsWithMark ((cs ++ rest) ++ more)
begins_of k [] rest more c mark all f h = f h
begins_of k (x ∷ xs) rest more c mark all f h = omega (arith, mark, all.0)

pub queued_begins : (qs : List MarkQueue) (more : List ℕ) (c : ℕ) → slice_get (queued_marks qs) 0 ≡ Some c → BeginsWithMark (queued_marks qs ++ more)
queued_begins [] more c h = cc
queued_begins (q ∷ qs) more c h =
    begins_of q.class q.marks.items (queued_marks qs) more c q.is_mark (by_test q.class q.marks.items q.all) (λ k. queued_begins qs more c k) h

pub dropped_first : (old new : List ℕ) (o : Option ℕ) → old ≡ option_to_list o ++ new → is_some o ≡ true → drop 1 old ≡ new
dropped_first old new None is some = cc
dropped_first old new (Some c) is some = ap (drop 1) is

starters_of_class : (k : ℕ) (cs rest : List ℕ) (n : ℕ) → 0 < k → AreOfClass k cs → list_any is_starter (drop n (cs ++ rest)) ≡ list_any is_starter (drop (n - length cs) rest)
starters_of_class k [] rest n mark all =
    let same : n ≡ n - 0 = omega arith in
    ap (λ i. list_any is_starter (drop i rest)) same
starters_of_class k (c ∷ cs) rest zero mark all =
    let none : 0 ≡ 0 - length (c ∷ cs) = omega arith in
    no_starters k (c ∷ cs) rest mark all ∙ ap (λ i. list_any is_starter (drop i rest)) none
starters_of_class k (c ∷ cs) rest (suc n) mark all =
    let same : n - length cs ≡ suc n - length (c ∷ cs) = omega arith in
    starters_of_class k cs rest n mark all.1 ∙ ap (λ i. list_any is_starter (drop i rest)) same

pub starters_behind : (qs : List MarkQueue) (more : List ℕ) (n : ℕ) → list_any is_starter (drop n (queued_marks qs ++ more)) ≡ list_any is_starter (drop (n - length (queued_marks qs)) more)
starters_behind [] more n =
    let same : n ≡ n - 0 = omega arith in
    ap (λ i. list_any is_starter (drop i more)) same
starters_behind (q ∷ qs) more n =
    let same : (n - length q.marks.items) - length (queued_marks qs) ≡ n - length (q.marks.items ++ queued_marks qs) = omega (arith, length-append q.marks.items (queued_marks qs)) in
    ap (λ (l : List ℕ). list_any is_starter (drop n l)) (append_assoc q.marks.items (queued_marks qs) more)
    ∙ starters_of_class q.class q.marks.items (queued_marks qs ++ more) n q.is_mark (by_test q.class q.marks.items q.all)
    ∙ starters_behind qs more (n - length q.marks.items)
    ∙ ap (λ i. list_any is_starter (drop i more)) same
