-- How the matches that are found come one after another.
use Rattle.std.proofs.Common.{◌≡◌, ℕ, zero, suc, ◌<◌, ◌≤◌, ◌+◌, ◌-◌, Bool, true, false, ◌||◌, nat_le, nat_lt, List, [], ◌∷◌, ◌++◌, Option, Some, None, if◌then◌else◌, refl, sym, ap, ◌∙◌, arith, inl, inr, subst}
use Rattle.std.specs.Prelude.{IfSome, option_to_list}
use Rattle.std.specs.List.{AllByRecursion, Contains}
use Rattle.std.proofs.lemmas.Bool.{cases_Bool, cases_lt, le-leb, lt-leb, lt-ltb, le-ltb, ltb-true, ltb-false, or_cases, false≢true, true≢false}
use Rattle.std.proofs.lemmas.Option.{same_Some}
use Rattle.icu_table_data.proofs.ListLemmas.{all_where, nothing_in}
use Rattle.icu_search_places.specs.LeastMatches.{Span, span, HoldsNoOther, TellsLeastStop, shortest_from, narrowed, least_from, apart_from, HoldsSpan, RisesTo}
use Rattle.icu_search_places.specs.LeastMatchLaws.{IsMatchWithin, IsLeastWithin}
use Rattle.icu_search_places.specs.inner.HeldSpans.{IsSure, PassedTo, TellsLeastSpan, joined_to_held, stops_before, last_to_try, from_behind, found_behind}
use Rattle.icu_search_places.specs.Selections.{first_span, found_from}
use Rattle.icu_search_places.proofs.SpanListLemmas.{head_or_tail, member_of, the_member, InPairs}
use Rattle.icu_search_places.proofs.LeastLemmas.{ShortestOf, ShortestOf-shortest_from, Leasts-least_from}
use Rattle.icu_search_places.proofs.ApartLemmas.{apart_from-nil, apart_from-taken, apart_from-passed}

-- ---- of two matches the one that is least

pub joined_to_held-none : (o : Option Span) → joined_to_held o None ≡ o
joined_to_held-none None = refl
joined_to_held-none (Some m) = refl

first_span-narrowed : (o : Option Span) (later : List Span) → first_span (narrowed o later) ≡ joined_to_held o (first_span later)
unfolding narrowed
first_span-narrowed None later = refl
first_span-narrowed (Some m) [] = refl
first_span-narrowed (Some m) (l ∷ later) =
    elim (cases_Bool (nat_le l.stop m.stop)) [
      | inl ends ↦ rw ends refl
      | inr goes_on ↦ rw goes_on refl
    ]

joined_to_held-three : (a b c : Span) → joined_to_held (joined_to_held (Some a) (Some b)) (Some c) ≡ joined_to_held (Some a) (joined_to_held (Some b) (Some c))
joined_to_held-three a b c =
    elim (cases_lt a.stop b.stop) [
      | inl longer ↦
          let stays : nat_le b.stop a.stop ≡ false = lt-leb b.stop a.stop longer in
          elim (cases_lt b.stop c.stop) [
            | inl last ↦
                let no : nat_le c.stop b.stop ≡ false = lt-leb c.stop b.stop last in
                let not : nat_le c.stop a.stop ≡ false = lt-leb c.stop a.stop (omega (arith, longer, last)) in rw (stays, no, stays, not) refl
            | inr first ↦ let yes_b : nat_le c.stop b.stop ≡ true = le-leb c.stop b.stop first in rw (stays, yes_b) refl
          ]
      | inr shorter ↦
          let goes : nat_le b.stop a.stop ≡ true = le-leb b.stop a.stop shorter in
          elim (cases_lt b.stop c.stop) [
            | inl last ↦ let no : nat_le c.stop b.stop ≡ false = lt-leb c.stop b.stop last in rw (goes, no, goes) refl
            | inr first ↦
                let yes_b : nat_le c.stop b.stop ≡ true = le-leb c.stop b.stop first in
                let yes_a : nat_le c.stop a.stop ≡ true = le-leb c.stop a.stop (omega (arith, shorter, first)) in rw (goes, yes_b, yes_a) refl
          ]
    ]

pub joined_to_held-assoc : (a b c : Option Span) → joined_to_held (joined_to_held a b) c ≡ joined_to_held a (joined_to_held b c)
joined_to_held-assoc None b c = refl
joined_to_held-assoc (Some a) None c = refl
joined_to_held-assoc (Some a) (Some b) None = joined_to_held-none (joined_to_held (Some a) (Some b))
joined_to_held-assoc (Some a) (Some b) (Some c) = joined_to_held-three a b c

-- the first of some parts, if there is one, is so; there is one
abbrev IfFirst : (Span → Type 0) → List Span → Type 0
IfFirst P [] = ⊥
IfFirst P (m ∷ later) = P m

none_some : (m : Span) → None ≡ Some m → ⊥
none_some m e = cc

-- ---- the least matches that begin at an offset or after it

-- and end at most at n
pub least_to : (ℕ → ℕ → Bool) → ℕ → ℕ → List Span
least_to matches n start = if nat_le start n then least_from matches start (n - start) else []

module _ (matches : ℕ → ℕ → Bool) (n : ℕ) where
  least_to-at : (start k : ℕ) → n ≡ start + k → least_to matches n start ≡ least_from matches start k
  unfolding least_to
  least_to-at start k e =
      let inside : nat_le start n ≡ true = le-leb start n (omega (arith, e)) in
      let left : n - start ≡ k = omega (arith, e) in
      rw inside (ap (least_from matches start) left)

  pub least_to-past : (start : ℕ) → n < start → least_to matches n start ≡ []
  unfolding least_to
  least_to-past start past = rw (lt-leb start n past) refl

  turn : (start k : ℕ) → n ≡ start + k → least_to matches n start ≡ narrowed (shortest_from matches start start k) (least_to matches n (start + 1))
  unfolding least_from
  turn start zero e =
      least_to-at start zero e ∙ ap (narrowed (shortest_from matches start start zero)) (sym (least_to-past (start + 1) (omega (arith, e))))
  turn start (suc k) e =
      least_to-at start (suc k) e ∙ ap (narrowed (shortest_from matches start start (suc k))) (sym (least_to-at (start + 1) k (omega (arith, e))))

  -- the first of them is that at the offset, or the first behind it
  pub first_turn : (start : ℕ) → start ≤ n → first_span (least_to matches n start) ≡ joined_to_held (shortest_from matches start start (n - start)) (first_span (least_to matches n (start + 1)))
  first_turn start inside =
      ap first_span (turn start (n - start) (omega (arith, inside))) ∙ first_span-narrowed (shortest_from matches start start (n - start)) (least_to matches n (start + 1))

  -- ---- a start that is tried up to an offset

  -- a match that begins behind a start holds a least one that does, and the first of those ends first
  ends_first : (spans : List Span) (stop : ℕ) → InPairs RisesTo spans → (l : Span) → Contains spans l → l.stop ≤ stop → IfFirst (λ m. m.stop ≤ stop) spans
  ends_first [] stop rising l at before = absurd (nothing_in l at)
  ends_first (m ∷ later) stop rising l at before =
      elim (head_or_tail l m later at) as (λ _. m.stop ≤ stop) [
        | inl same ↦ omega (arith, before, ap (λ (s : Span). s.stop) same)
        | inr behind ↦ let above = (member_of (RisesTo m) l later rising.0 behind).stop in omega (arith, before, above)
      ]

  first_ends : (start begin stop : ℕ) → start ≤ begin → begin ≤ stop → stop ≤ n → matches begin stop ≡ true → IfFirst (λ m. m.stop ≤ stop) (least_to matches n start)
  first_ends start begin stop behind ordered inside is =
      let k = n - start in
      let e : n ≡ start + k = omega (arith, behind, ordered, inside) in
      let ls = Leasts-least_from matches start k n e in
      let spans = least_from matches start k in
      let some = the_member (HoldsSpan (span begin stop)) spans (ls.held (span begin stop) (record { is_match = is; from_low = behind; ordered = ordered; to_high = inside })) in
      subst (IfFirst (λ m. m.stop ≤ stop)) (sym (least_to-at start k e)) (ends_first spans stop ls.rise some.0 some.1.0 some.1.1.stop)

  -- a match that is found among fewer ends is found among more
  shortest_more : (start stop few more : ℕ) (m : Span) → few ≤ more → shortest_from matches start stop few ≡ Some m → shortest_from matches start stop more ≡ Some m
  unfolding shortest_from
  shortest_more start stop zero zero m fits is = is
  shortest_more start stop zero (suc more) m fits is =
      elim (cases_Bool (matches start stop)) [
        | inl here ↦ rw here (rw here at is)
        | inr not ↦ absurd (none_some m (rw not at is))
      ]
  shortest_more start stop (suc few) zero m fits is = absurd (omega (arith, fits))
  shortest_more start stop (suc few) (suc more) m fits is =
      elim (cases_Bool (matches start stop)) [
        | inl here ↦ rw here (rw here at is)
        | inr not ↦ rw not (shortest_more start (stop + 1) few more m (omega (arith, fits)) (rw not at is))
      ]

  tried_to : (held : Option Span) → last_to_try held n ≤ n
  tried_to None = omega arith
  tried_to (Some m) = elim (cases_lt m.stop n) as (λ _. (if nat_lt m.stop n then m.stop else n) ≤ n) [
    | inl below ↦ rw (lt-ltb m.stop n below) (omega (arith, below))
    | inr above ↦ rw (le-ltb m.stop n above) (omega arith)
  ]

  to_end : (held : Option Span) (start : ℕ) → start ≤ last_to_try held n → start ≤ n
  to_end held start ordered = omega (arith, ordered, tried_to held)

  pub tries_there : (held : Option Span) (start : ℕ) → stops_before held start ≡ false → start ≤ n → start ≤ last_to_try held n
  tries_there None start goes_on inside = inside
  tries_there (Some m) start goes_on inside =
      let ends : start ≤ m.stop = ltb-false m.stop start goes_on in
      elim (cases_lt m.stop n) as (λ _. start ≤ (if nat_lt m.stop n then m.stop else n)) [
        | inl below ↦ rw (lt-ltb m.stop n below) ends
        | inr above ↦ rw (le-ltb m.stop n above) inside
      ]

  -- a match that ends behind the one that is held changes nothing
  joined_behind : (h m : Span) (later : Option Span) → h.stop < m.stop → joined_to_held (Some h) (joined_to_held (Some m) later) ≡ joined_to_held (Some h) later
  joined_behind h m None longer = rw (lt-leb m.stop h.stop longer) refl
  joined_behind h m (Some l) longer =
      elim (cases_lt m.stop l.stop) [
        | inl last ↦ rw (lt-leb l.stop m.stop last, lt-leb m.stop h.stop longer, lt-leb l.stop h.stop (omega (arith, longer, last))) refl
        | inr first ↦ rw (le-leb l.stop m.stop first) refl
      ]

  past : (held : Option Span) (m : Span) (later_one : Option Span) → last_to_try held n < m.stop → m.stop ≤ n → joined_to_held held (joined_to_held (Some m) later_one) ≡ joined_to_held held later_one
  past None m later_one behind inside = absurd (omega (arith, behind, inside))
  past (Some h) m later_one behind inside =
      elim (cases_lt h.stop n) [
        | inl below ↦ joined_behind h m later_one (omega (arith, behind, ap (λ b. if b then h.stop else n) (lt-ltb h.stop n below)))
        | inr above ↦ absurd (omega (arith, behind, inside, ap (λ b. if b then h.stop else n) (le-ltb h.stop n above)))
      ]

  -- nor does one that holds a later one
  joined_over : (m : Span) (spans : List Span) → IfFirst (λ l. l.stop ≤ m.stop) spans → joined_to_held (Some m) (first_span spans) ≡ first_span spans
  joined_over m [] none = absurd none
  joined_over m (l ∷ later) before = rw (le-leb l.stop m.stop before) refl

  -- what is told of a start, up to the last offset that is tried, makes what the shortest match from there does
  pub told : (held : Option Span) (start : ℕ) (o : Option Span) → start ≤ last_to_try held n → TellsLeastSpan matches start (last_to_try held n) o
      → joined_to_held (joined_to_held held o) (first_span (least_to matches n (start + 1))) ≡ joined_to_held held (first_span (least_to matches n start))
  told held start (Some m) ordered tells =
      let later = first_span (least_to matches n (start + 1)) in
      let inside = to_end held start ordered in
      let here : span start m.stop ≡ m = ap (λ s. span s m.stop) (sym tells.0) in
      let all : shortest_from matches start start (n - start) ≡ Some m =
      shortest_more start start (last_to_try held n - start) (n - start) m (omega (arith, tried_to held)) (tells.1.1 ∙ ap (λ (s : Span). Some s) here) in
      joined_to_held-assoc held (Some m) later
      ∙ ap (joined_to_held held) (ap (λ (s : Option Span). joined_to_held s later) (sym all) ∙ sym (first_turn start inside))
  told held start None ordered tells =
      let spans = least_to matches n (start + 1) in
      let later = first_span spans in
      let inside = to_end held start ordered in
      ap (λ (s : Option Span). joined_to_held s later) (joined_to_held-none held)
      ∙ sym (passes (shortest_from matches start start (n - start)) (ShortestOf-shortest_from matches start start (n - start) n (omega (arith, inside))))
      ∙ ap (joined_to_held held) (sym (first_turn start inside))
    where
      passes : (o : Option Span) → ShortestOf matches start start n o → joined_to_held held (joined_to_held o (first_span (least_to matches n (start + 1)))) ≡ joined_to_held held (first_span (least_to matches n (start + 1)))
      passes None is = refl
      passes (Some m) is =
          elim (cases_lt (last_to_try held n) m.stop) [
            | inl behind ↦ past held m (first_span (least_to matches n (start + 1))) behind is.to_high
            | inr before ↦
                let holds = tells m.stop is.low_to before is.is_match in
                ap (joined_to_held held) (joined_over m (least_to matches n (start + 1)) (first_ends (start + 1) holds.begin m.stop (omega (arith, holds.later)) holds.ordered is.to_high holds.is_match))
          ]

  -- they begin at the offset or after it, and end no earlier than they begin
  within : (start : ℕ) → AllByRecursion (IsMatchWithin matches start n) (least_to matches n start)
  within start =
      elim (cases_lt n start) [
        | inl past ↦ subst (AllByRecursion (IsMatchWithin matches start n)) (sym (least_to-past start past)) tt
        | inr inside ↦
            let spans = least_from matches start (n - start) in
            let e : n ≡ start + (n - start) = omega (arith, inside) in
            let ls = Leasts-least_from matches start (n - start) n e in
            subst (AllByRecursion (IsMatchWithin matches start n)) (sym (least_to-at start (n - start) e))
            (all_where (IsMatchWithin matches start n) spans (λ m at. (member_of (IsLeastWithin matches start n) m spans ls.each at).is_match))
      ]

  rise : (start : ℕ) → InPairs RisesTo (least_to matches n start)
  rise start =
      elim (cases_lt n start) [
        | inl past ↦ subst (InPairs RisesTo) (sym (least_to-past start past)) tt
        | inr inside ↦
            let e : n ≡ start + (n - start) = omega (arith, inside) in
            subst (InPairs RisesTo) (sym (least_to-at start (n - start) e)) (Leasts-least_from matches start (n - start) n e).rise
      ]

  -- a match that ends before an offset is kept, whatever begins there or after it
  kept_over : (held : Span) (start : ℕ) (spans : List Span) → held.stop < start → AllByRecursion (IsMatchWithin matches start n) spans → joined_to_held (Some held) (first_span spans) ≡ Some held
  kept_over held start [] before all = refl
  kept_over held start (m ∷ later) before all =
      let longer : nat_le m.stop held.stop ≡ false = lt-leb m.stop held.stop (omega (arith, before, all.0.from_low, all.0.ordered)) in rw longer refl

  pub kept : (held : Span) (start : ℕ) → held.stop < start → joined_to_held (Some held) (first_span (least_to matches n start)) ≡ Some held
  kept held start before = kept_over held start (least_to matches n start) before (within start)

  -- ---- what is found from an offset on

  -- the shortest match from a start begins there
  starts_there : (start k : ℕ) (o : Option Span) → ShortestOf matches start start (start + k) o → (offset : ℕ) → start < offset → (later : List Span) → apart_from offset (narrowed o later) ≡ apart_from offset later
  unfolding narrowed
  starts_there start k None is offset before later = refl
  starts_there start k (Some m) is offset before [] = apart_from-passed offset m [] (lt-leb offset m.start (omega (arith, before, is.start_at)))
  starts_there start k (Some m) is offset before (l ∷ later) =
      elim (cases_Bool (nat_le l.stop m.stop)) [
        | inl ends ↦ rw ends refl
        | inr goes_on ↦ rw goes_on (apart_from-passed offset m (l ∷ later) (lt-leb offset m.start (omega (arith, before, is.start_at))))
      ]

  one_on : (start offset : ℕ) → start < offset → apart_from offset (least_to matches n start) ≡ apart_from offset (least_to matches n (start + 1))
  one_on start offset before =
      elim (cases_lt n start) [
        | inl past ↦ ap (apart_from offset) (least_to-past start past ∙ sym (least_to-past (start + 1) (omega (arith, past))))
        | inr inside ↦
            let k = n - start in
            let e : n ≡ start + k = omega (arith, inside) in
            ap (apart_from offset) (turn start k e)
            ∙ starts_there start k (shortest_from matches start start k) (ShortestOf-shortest_from matches start start k (start + k) refl) offset before (least_to matches n (start + 1))
      ]

  on_to : (d start offset : ℕ) → start + d ≤ offset → apart_from offset (least_to matches n start) ≡ apart_from offset (least_to matches n (start + d))
  on_to zero start offset before = let e : start + 0 ≡ start = omega arith in ap (λ s. apart_from offset (least_to matches n s)) (sym e)
  on_to (suc d) start offset before =
      let e : (start + 1) + d ≡ start + suc d = omega arith in
      one_on start offset (omega (arith, before)) ∙ on_to d (start + 1) offset (omega (arith, before)) ∙ ap (λ s. apart_from offset (least_to matches n s)) e

  -- what begins before the offset may be left out
  from_offset : (start offset : ℕ) → start ≤ offset → found_from matches n offset ≡ apart_from offset (least_to matches n start)
  from_offset start offset before =
      let all : least_from matches 0 n ≡ least_to matches n 0 = sym (least_to-at 0 n (omega arith)) in
      let e : 0 + start ≡ start = omega arith in
      ap (apart_from offset) all ∙ on_to start 0 offset (omega (arith, before)) ∙ ap (λ s. apart_from offset (least_to matches n s)) e

  first_taken : (offset : ℕ) (spans : List Span) → AllByRecursion (IsMatchWithin matches offset n) spans → first_span (apart_from offset spans) ≡ first_span spans
  first_taken offset [] all = ap first_span (apart_from-nil offset)
  first_taken offset (m ∷ later) all = ap first_span (apart_from-taken offset m later (le-leb offset m.start all.0.from_low))

  -- the first that is found from there on is the first least one
  pub first_found : (offset : ℕ) → first_span (found_from matches n offset) ≡ first_span (least_to matches n offset)
  first_found offset = ap first_span (from_offset offset offset (omega arith)) ∙ first_taken offset (least_to matches n offset) (within offset)

  -- where a match is held that ends before an offset, it stays
  pub held_stays : (held : Option Span) (start : ℕ) → stops_before held start ≡ true → joined_to_held held (first_span (least_to matches n start)) ≡ held
  held_stays None start h = absurd (false≢true h)
  held_stays (Some m) start h = kept m start (ltb-true m.stop start h)

  -- it begins in the text
  begins_below : (offset : ℕ) (spans : List Span) → AllByRecursion (IsMatchWithin matches offset n) spans → (big : ℕ) → n < big → (o : Option Span) → o ≡ first_span spans → IfSome o (λ m. m.start < big)
  begins_below offset spans all big small None e = tt
  begins_below offset [] all big small (Some m) e = cc
  begins_below offset (x ∷ later) all big small (Some m) e =
      let same : m ≡ x = same_Some m x e in
      let start : m.start ≡ x.start = ap (λ (m : Span). m.start) same in
      omega (arith, start, all.0.ordered, all.0.to_high, small)

  pub starts_below : (offset : ℕ) (o : Option Span) → o ≡ first_span (found_from matches n offset) → (big : ℕ) → n < big → IfSome o (λ m. m.start < big)
  starts_below offset o e big small = begins_below offset (least_to matches n offset) (within offset) big small o (e ∙ first_found offset)

  -- ---- one, and then the others

  -- of parts that begin behind an offset, those are taken that begin behind the next one
  same_taken : (start stop : ℕ) (spans : List Span) → AllByRecursion (λ (m : Span). start < m.start) spans → apart_from (from_behind (span start stop)) spans ≡ apart_from stop spans
  same_taken start stop [] all = apart_from-nil (from_behind (span start stop)) ∙ sym (apart_from-nil stop)
  same_taken start stop (x ∷ later) all =
      elim (cases_lt start stop) [
        | inl longer ↦ ap (λ b. apart_from (if b then stop else start + 1) (x ∷ later)) (lt-ltb start stop longer)
        | inr empty ↦
            let next : from_behind (span start stop) ≡ start + 1 = ap (λ b. if b then stop else start + 1) (le-ltb start stop empty) in
            ap (λ o. apart_from o (x ∷ later)) next
            ∙ apart_from-taken (start + 1) x later (le-leb (start + 1) x.start (omega (arith, all.0)))
            ∙ sym (apart_from-taken stop x later (le-leb stop x.start (omega (arith, all.0, empty))))
      ]

  goes_behind : (m : Span) → m.start < from_behind m
  goes_behind m =
      elim (cases_lt m.start m.stop) [
        | inl longer ↦ let next : from_behind m ≡ m.stop = ap (λ b. if b then m.stop else m.start + 1) (lt-ltb m.start m.stop longer) in omega (arith, next, longer)
        | inr empty ↦ let next : from_behind m ≡ m.start + 1 = ap (λ b. if b then m.stop else m.start + 1) (le-ltb m.start m.stop empty) in omega (arith, next)
      ]

  one_and_others : (offset : ℕ) (spans : List Span) → AllByRecursion (IsMatchWithin matches offset n) spans → InPairs RisesTo spans
      → ((o : ℕ) → offset ≤ o → found_from matches n o ≡ apart_from o spans) → (m : Span) → Some m ≡ first_span spans → found_from matches n offset ≡ m ∷ found_from matches n (from_behind m)
  one_and_others offset [] all rising is m e = cc
  one_and_others offset (x ∷ later) all rising is m e =
      let past = goes_behind x in
      let later_ones : AllByRecursion (λ (m : Span). x.start < m.start) later = all_where (λ (m : Span). x.start < m.start) later (λ m at. (member_of (RisesTo x) m later rising.0 at).start) in
      let first = is offset (omega arith) ∙ apart_from-taken offset x later (le-leb offset x.start all.0.from_low) in
      let others : found_from matches n (from_behind x) ≡ apart_from x.stop later =
      is (from_behind x) (omega (arith, past, all.0.from_low)) ∙ apart_from-passed (from_behind x) x later (lt-leb (from_behind x) x.start past) ∙ same_taken x.start x.stop later later_ones in
      let here : found_from matches n offset ≡ x ∷ found_from matches n (from_behind x) = first ∙ ap (λ (l : List Span). x ∷ l) (sym others) in
      subst (λ (m : Span). found_from matches n offset ≡ m ∷ found_from matches n (from_behind m)) (sym (same_Some m x e)) here

  -- what is left, by what is given
  pub left_behind : (offset : ℕ) (o : Option Span) → o ≡ first_span (found_from matches n offset) → found_from matches n offset ≡ option_to_list o ++ found_behind matches n offset o
  left_behind offset None e = refl
  left_behind offset (Some m) e =
      one_and_others offset (least_to matches n offset) (within offset) (rise offset) (λ o before. from_offset offset o before) m (e ∙ first_found offset)

  pub nothing_left : (offset : ℕ) (o : Option Span) → o ≡ first_span (found_from matches n offset) → o ≡ None → found_from matches n offset ≡ []
  nothing_left offset o e none = empty (found_from matches n offset) (sym none ∙ e)
    where
      empty : (l : List Span) → None ≡ first_span l → l ≡ []
      empty [] e = refl
      empty (x ∷ l) e = cc

  -- ---- starts that are passed over

  stops_still : (held : Option Span) (k : ℕ) → stops_before held k ≡ true → stops_before held (k + 1) ≡ true
  stops_still None k h = h
  stops_still (Some m) k h = let before = ltb-true m.stop k h in lt-ltb m.stop (k + 1) (omega (arith, before))

  passed_one : (held : Option Span) (k : ℕ) → TellsLeastStop matches k n None
      → joined_to_held held (first_span (least_to matches n (k + 1))) ≡ joined_to_held held (first_span (least_to matches n k))
  passed_one held k tells =
      let later = first_span (least_to matches n (k + 1)) in
      elim (cases_lt n k) [
        | inl past ↦
            ap (λ (l : List Span). joined_to_held held (first_span l))
            (least_to-past (k + 1) (omega (arith, past)) ∙ sym (least_to-past k past))
        | inr inside ↦ elim (cases_Bool (stops_before held k)) [
          | inl stops ↦ held_stays held (k + 1) (stops_still held k stops) ∙ sym (held_stays held k stops)
          | inr goes_on ↦
              ap (λ (o : Option Span). joined_to_held o later) (sym (joined_to_held-none held))
              ∙ told held k None (tries_there held k goes_on inside) (λ stop from to is. tells stop from (omega (arith, to, tried_to held)) is)
        ]
      ]

  passed_by : (held : Option Span) (d start : ℕ) → PassedTo matches n start (start + d)
      → joined_to_held held (first_span (least_to matches n (start + d))) ≡ joined_to_held held (first_span (least_to matches n start))
  passed_by held zero start passed = let e : start + 0 ≡ start = omega arith in ap (λ k. joined_to_held held (first_span (least_to matches n k))) e
  passed_by held (suc d) start passed =
      let e : start + suc d ≡ (start + 1) + d = omega arith in
      ap (λ k. joined_to_held held (first_span (least_to matches n k))) e
      ∙ passed_by held d (start + 1) (λ k from before. passed k (omega (arith, from)) (omega (arith, before)))
      ∙ passed_one held start (passed start (omega arith) (omega arith))

  pub passed_over : (held : Option Span) (start next : ℕ) → start ≤ next → PassedTo matches n start next
      → joined_to_held held (first_span (least_to matches n next)) ≡ joined_to_held held (first_span (least_to matches n start))
  passed_over held start next behind passed =
      let d = next - start in
      let e : next ≡ start + d = omega (arith, behind) in
      ap (λ k. joined_to_held held (first_span (least_to matches n k))) e
      ∙ passed_by held d start (λ k from before. passed k from (omega (arith, before, behind)))

  -- ---- a match that holds no other

  none_within : (m : Span) (start : ℕ) (spans : List Span) → HoldsNoOther matches m → m.start < start → AllByRecursion (IsMatchWithin matches start n) spans
      → joined_to_held (Some m) (first_span spans) ≡ Some m
  none_within m start [] none behind all = refl
  none_within m start (l ∷ later) none behind all =
      elim (cases_lt m.stop l.stop) [
        | inl longer ↦ rw (lt-leb l.stop m.stop longer) refl
        | inr inner ↦
            absurd (true≢false (sym all.0.is_match ∙ none l.start l.stop (omega (arith, behind, all.0.from_low)) all.0.ordered inner))
      ]

  -- it stays, whatever begins behind it
  pub sure_stays : (held : Option Span) (start : ℕ) → IsSure matches start held → held ≡ joined_to_held held (first_span (least_to matches n (start + 1)))
  sure_stays None start sure = absurd sure
  sure_stays (Some m) start sure = sym (none_within m (start + 1) (least_to matches n (start + 1)) sure.1 (omega (arith, sure.0)) (within (start + 1)))

  -- ---- where no start is left

  over_cases : (held : Option Span) (here : ℕ) → (nat_lt n here || stops_before held here) ≡ true → joined_to_held held (first_span (least_to matches n here)) ≡ held
  over_cases held here is =
      elim (or_cases (nat_lt n here) (stops_before held here) is) [
        | inl past ↦ ap (λ (l : List Span). joined_to_held held (first_span l)) (least_to-past here (ltb-true n here past)) ∙ joined_to_held-none held
        | inr stops ↦ held_stays held here stops
      ]

  pub over : (held : Option Span) (start here : ℕ) → start ≤ here → PassedTo matches n start here → (nat_lt n here || stops_before held here) ≡ true
      → held ≡ joined_to_held held (first_span (least_to matches n start))
  over held start here behind passed is = sym (over_cases held here is) ∙ passed_over held start here behind passed

  pub over_not : (held : Option Span) (here : ℕ) → (nat_lt n here || stops_before held here) ≡ false → here ≤ last_to_try held n
  over_not held here is =
      tries_there held here (or_right_false (nat_lt n here) (stops_before held here) is) (ltb-false n here (or_left_false (nat_lt n here) (stops_before held here) is))
    where
      or_left_false : (a b : Bool) → (a || b) ≡ false → a ≡ false
      or_left_false true b h = absurd (true≢false h)
      or_left_false false b h = refl

      or_right_false : (a b : Bool) → (a || b) ≡ false → b ≡ false
      or_right_false true b h = absurd (true≢false h)
      or_right_false false b h = h
