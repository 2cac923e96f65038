-- The list of least matches is that of the matches that hold no other.
use Rattle.std.proofs.Common.{◌≡◌, ℕ, zero, suc, ◌<◌, ◌≤◌, ◌+◌, Bool, true, false, nat_le, List, [], ◌∷◌, Option, Some, None, refl, sym, ap, ◌∙◌, arith, inl, inr, subst}
use Rattle.std.specs.List.{AllByRecursion, Any, Contains}
use Rattle.std.proofs.lemmas.Bool.{cases_Bool, cases_lt, cases_eq, leb-true, leb-false, true≢false}
use Rattle.icu_table_data.proofs.ListLemmas.{all_where}
use Rattle.icu_search_places.specs.LeastMatches.{Span, span, shortest_from, narrowed, least_from, HoldsSpan, RisesTo}
use Rattle.icu_search_places.specs.LeastMatchLaws.{IsMatchWithin, IsLeastWithin, AreLeastWithin}
use Rattle.icu_search_places.proofs.SpanListLemmas.{at_head, in_tail, member_of, some_member, the_member, InPairs, AllPairs-in_pairs}

-- ---- the shortest match from a start

-- a match from a start, with an end among these, that ends first; or there is none
pub record IsShortest (matches : ℕ → ℕ → Bool) (start low high : ℕ) (m : Span) : Type 0 where
  pub start_at : m.start ≡ start
  pub is_match : matches start m.stop ≡ true
  pub low_to : low ≤ m.stop
  pub to_high : m.stop ≤ high
  pub first : (stop : ℕ) → low ≤ stop → stop < m.stop → matches start stop ≡ false

abbrev pub ShortestOf : (ℕ → ℕ → Bool) → ℕ → ℕ → ℕ → Option Span → Type 0
ShortestOf matches start low high None = (stop : ℕ) → low ≤ stop → stop ≤ high → matches start stop ≡ false
ShortestOf matches start low high (Some m) = IsShortest matches start low high m

at_once : (matches : ℕ → ℕ → Bool) (start stop high : ℕ) → stop ≤ high → matches start stop ≡ true → IsShortest matches start stop high (span start stop)
at_once matches start stop high within is = record {
  start_at = refl;
  is_match = is;
  low_to = omega arith;
  to_high = within;
  first = λ other low below. absurd (omega arith);
}

one_less : (matches : ℕ → ℕ → Bool) (start low high : ℕ) (o : Option Span) → matches start low ≡ false → ShortestOf matches start (low + 1) high o → ShortestOf matches start low high o
one_less matches start low high None not_here h = λ stop from to. elim (cases_eq low stop) as (λ _. matches start stop ≡ false) [
  | inl same ↦ subst (λ (s : ℕ). matches start s ≡ false) same not_here
  | inr other ↦ h stop (omega (arith, from, other)) to
]
one_less matches start low high (Some m) not_here h = record {
  start_at = h.start_at;
  is_match = h.is_match;
  low_to = omega (arith, h.low_to);
  to_high = h.to_high;
  first = λ stop from below. elim (cases_eq low stop) as (λ _. matches start stop ≡ false) [
    | inl same ↦ subst (λ (s : ℕ). matches start s ≡ false) same not_here
    | inr other ↦ h.first stop (omega (arith, from, other)) below
  ];
}

pub ShortestOf-shortest_from : (matches : ℕ → ℕ → Bool) (start stop n high : ℕ) → high ≡ stop + n → ShortestOf matches start stop high (shortest_from matches start stop n)
unfolding shortest_from
ShortestOf-shortest_from matches start stop zero high e =
    elim (cases_Bool (matches start stop)) [
      | inl is ↦ rw is (at_once matches start stop high (omega arith) is)
      | inr not ↦ rw not (λ other from to. let same : stop ≡ other = omega (arith, e, from, to) in subst (λ (s : ℕ). matches start s ≡ false) same not)
    ]
ShortestOf-shortest_from matches start stop (suc n) high e =
    elim (cases_Bool (matches start stop)) [
      | inl is ↦ rw is (at_once matches start stop high (omega arith) is)
      | inr not ↦ rw not (one_less matches start stop high (shortest_from matches start (stop + 1) n) not (ShortestOf-shortest_from matches start (stop + 1) n high (omega (arith, e))))
    ]

-- ---- the least matches from a start on

-- each is one, they rise, and each match holds one of them
pub record Leasts (matches : ℕ → ℕ → Bool) (low high : ℕ) (spans : List Span) : Type 0 where
  pub each : AllByRecursion (IsLeastWithin matches low high) spans
  pub rise : InPairs RisesTo spans
  pub held : (m : Span) → IsMatchWithin matches low high m → Any (HoldsSpan m) spans

-- a match from low on begins at low, or is one from the next offset on
later_match : (matches : ℕ → ℕ → Bool) (low high : ℕ) (m : Span) → IsMatchWithin matches low high m → low < m.start → IsMatchWithin matches (low + 1) high m
later_match matches low high m is after = record { is_match = is.is_match; from_low = omega arith; ordered = is.ordered; to_high = is.to_high }

earlier_match : (matches : ℕ → ℕ → Bool) (low high : ℕ) (m : Span) → IsMatchWithin matches (low + 1) high m → IsMatchWithin matches low high m
earlier_match matches low high m is = record { is_match = is.is_match; from_low = omega (arith, is.from_low); ordered = is.ordered; to_high = is.to_high }

-- what is least from the next offset on is least from this one on
earlier_least : (matches : ℕ → ℕ → Bool) (low high : ℕ) (m : Span) → IsLeastWithin matches (low + 1) high m → IsLeastWithin matches low high m
earlier_least matches low high m is = record {
  is_match = earlier_match matches low high m is.is_match;
  least = λ other match holds. is.least other (later_match matches low high other match (omega (arith, holds.start, is.is_match.from_low))) holds;
}

earlier_leasts : (matches : ℕ → ℕ → Bool) (low high : ℕ) (spans : List Span) → AllByRecursion (IsLeastWithin matches (low + 1) high) spans → AllByRecursion (IsLeastWithin matches low high) spans
earlier_leasts matches low high [] all = tt
earlier_leasts matches low high (m ∷ spans) all = (earlier_least matches low high m all.0, earlier_leasts matches low high spans all.1)

-- where no match begins at the first offset, the later ones are all
without_first : (matches : ℕ → ℕ → Bool) (low high : ℕ) (later : List Span) → ShortestOf matches low low high None → Leasts matches (low + 1) high later → Leasts matches low high later
without_first matches low high later none ls = record {
  each = earlier_leasts matches low high later ls.each;
  rise = ls.rise;
  held = λ m is. elim (cases_lt low m.start) as (λ _. Any (HoldsSpan m) later) [
    | inl after ↦ ls.held m (later_match matches low high m is after)
    | inr at ↦
        let same : m.start ≡ low = omega (arith, at, is.from_low) in
        let not : matches low m.stop ≡ false = none m.stop (omega (arith, is.from_low, is.ordered)) is.to_high in
        absurd (true≢false (sym is.is_match ∙ ap (λ (s : ℕ). matches s m.stop) same ∙ not))
  ];
}

-- the shortest one from the first offset is met first
meets_first : (matches : ℕ → ℕ → Bool) (low high : ℕ) (first m : Span) → IsShortest matches low low high first → IsMatchWithin matches low high m → m.start ≡ low → first.stop ≤ m.stop
meets_first matches low high first m is match at =
    elim (cases_lt m.stop first.stop) [
      | inl before ↦
          let not : matches low m.stop ≡ false = is.first m.stop (omega (arith, match.from_low, match.ordered)) before in
          absurd (true≢false (sym match.is_match ∙ ap (λ (s : ℕ). matches s m.stop) at ∙ not))
      | inr after ↦ after
    ]

first_match : (matches : ℕ → ℕ → Bool) (low high : ℕ) (first : Span) → IsShortest matches low low high first → IsMatchWithin matches low high first
first_match matches low high first is = record {
  is_match = ap (λ (s : ℕ). matches s first.stop) is.start_at ∙ is.is_match;
  from_low = omega (arith, is.start_at);
  ordered = omega (arith, is.start_at, is.low_to);
  to_high = is.to_high;
}

-- the first of the later ones ends where it does, or before: it isn't least
not_first : (matches : ℕ → ℕ → Bool) (low high : ℕ) (first l : Span) (later : List Span) → IsShortest matches low low high first → Leasts matches (low + 1) high (l ∷ later) → l.stop ≤ first.stop → Leasts matches low high (l ∷ later)
not_first matches low high first l later is ls ends = record {
  each = earlier_leasts matches low high (l ∷ later) ls.each;
  rise = ls.rise;
  held = λ m match. elim (cases_lt low m.start) as (λ _. Any (HoldsSpan m) (l ∷ later)) [
    | inl after ↦ ls.held m (later_match matches low high m match after)
    | inr at ↦
        let same : m.start ≡ low = omega (arith, at, match.from_low) in
        let stops = meets_first matches low high first m is match same in
        some_member (HoldsSpan m) l (l ∷ later) (at_head l l later refl) (record { start = omega (arith, same, ls.each.0.is_match.from_low); stop = omega (arith, ends, stops) })
  ];
}

-- none of the later ones ends so early: it is least
is_first : (matches : ℕ → ℕ → Bool) (low high : ℕ) (first : Span) (later : List Span) → IsShortest matches low low high first → Leasts matches (low + 1) high later → AllByRecursion (λ (l : Span). first.stop < l.stop) later → Leasts matches low high (first ∷ later)
is_first matches low high first later is ls ends = record {
  each = (record { is_match = first_match matches low high first is; least = least }, earlier_leasts matches low high later ls.each);
  rise = (all_where (RisesTo first) later precedes, ls.rise);
  held = held;
}
  where
    precedes : (l : Span) → Contains later l → RisesTo first l
    precedes l at = record {
      start = omega (arith, is.start_at, (member_of (IsLeastWithin matches (low + 1) high) l later ls.each at).is_match.from_low);
      stop = member_of (λ (l : Span). first.stop < l.stop) l later ends at;
    }

    held : (m : Span) → IsMatchWithin matches low high m → Any (HoldsSpan m) (first ∷ later)
    held m match =
        elim (cases_lt low m.start) [
          | inl after ↦
              let some = the_member (HoldsSpan m) later (ls.held m (later_match matches low high m match after)) in
              some_member (HoldsSpan m) some.0 (first ∷ later) (in_tail some.0 first later some.1.0) some.1.1
          | inr at ↦
              let same : m.start ≡ low = omega (arith, at, match.from_low) in
              some_member (HoldsSpan m) first (first ∷ later) (at_head first first later refl) (record { start = omega (arith, same, is.start_at); stop = meets_first matches low high first m is match same })
        ]

    least : (other : Span) → IsMatchWithin matches low high other → HoldsSpan first other → other ≡ first
    least other match holds =
        elim (cases_lt low other.start) [
          | inl after ↦
              let some = the_member (HoldsSpan other) later (ls.held other (later_match matches low high other match after)) in
              absurd (omega (arith, member_of (λ (l : Span). first.stop < l.stop) some.0 later ends some.1.0, some.1.1.stop, holds.stop))
          | inr at ↦
              let same : other.start ≡ first.start = omega (arith, at, match.from_low, is.start_at) in
              let stops = meets_first matches low high first other is match (same ∙ is.start_at) in
              let ends_same : other.stop ≡ first.stop = omega (arith, stops, holds.stop) in
              ap (λ (s : ℕ). span s other.stop) same ∙ ap (λ (s : ℕ). span first.start s) ends_same
        ]

ends_later : (n : ℕ) (l : Span) (later : List Span) → n < l.stop → AllByRecursion (RisesTo l) later → AllByRecursion (λ (m : Span). n < m.stop) (l ∷ later)
ends_later n l later h all = (h, all_where (λ (m : Span). n < m.stop) later (λ m at. omega (arith, h, (member_of (RisesTo l) m later all at).stop)))

narrow : (matches : ℕ → ℕ → Bool) (low high : ℕ) (o : Option Span) (later : List Span) → ShortestOf matches low low high o → Leasts matches (low + 1) high later → Leasts matches low high (narrowed o later)
unfolding narrowed
narrow matches low high None later is ls = without_first matches low high later is ls
narrow matches low high (Some first) [] is ls = is_first matches low high first [] is ls tt
narrow matches low high (Some first) (l ∷ later) is ls =
    elim (cases_Bool (nat_le l.stop first.stop)) [
      | inl ends ↦ rw ends (not_first matches low high first l later is ls (leb-true l.stop first.stop ends))
      | inr goes_on ↦ rw goes_on (is_first matches low high first (l ∷ later) is ls (ends_later first.stop l later (leb-false l.stop first.stop goes_on) ls.rise.0))
    ]

-- no match begins behind the last offset
nothing_behind : (matches : ℕ → ℕ → Bool) (low high : ℕ) → high < low → Leasts matches low high []
nothing_behind matches low high from_behind = record { each = tt; rise = tt; held = λ m is. absurd (omega (arith, is.from_low, is.ordered, is.to_high)) }

pub Leasts-least_from : (matches : ℕ → ℕ → Bool) (low n high : ℕ) → high ≡ low + n → Leasts matches low high (least_from matches low n)
unfolding least_from
Leasts-least_from matches low zero high e =
    narrow matches low high (shortest_from matches low low zero) [] (ShortestOf-shortest_from matches low low zero high e) (nothing_behind matches (low + 1) high (omega arith))
Leasts-least_from matches low (suc n) high e =
    narrow matches low high (shortest_from matches low low (suc n)) (least_from matches (low + 1) n) (ShortestOf-shortest_from matches low low (suc n) high e)
    (Leasts-least_from matches (low + 1) n high (omega (arith, e)))

-- each least match is in the list: it holds one of the list, and that is itself
listed : (matches : ℕ → ℕ → Bool) (low high : ℕ) (spans : List Span) → Leasts matches low high spans → (m : Span) → IsLeastWithin matches low high m → Contains spans m
listed matches low high spans ls m is =
    let some = the_member (HoldsSpan m) spans (ls.held m is.is_match) in
    let same = is.least some.0 (member_of (IsLeastWithin matches low high) some.0 spans ls.each some.1.0).is_match some.1.1 in
    subst (Contains spans) same some.1.0

pub least_matches_hold_no_other : (matches : ℕ → ℕ → Bool) (n : ℕ) → AreLeastWithin matches 0 n (least_from matches 0 n)
least_matches_hold_no_other matches n =
    let ls = Leasts-least_from matches 0 n n (omega arith) in
    let spans = least_from matches 0 n in
    record {
      each = λ m at. member_of (IsLeastWithin matches 0 n) m spans ls.each at;
      all = listed matches 0 n spans ls;
      rise = AllPairs-in_pairs RisesTo spans ls.rise;
      held = ls.held;
    }

-- for proofs by recursion on the list
pub least_rise : (matches : ℕ → ℕ → Bool) (n : ℕ) → InPairs RisesTo (least_from matches 0 n)
least_rise matches n = (Leasts-least_from matches 0 n n (omega arith)).rise

pub least_ordered : (matches : ℕ → ℕ → Bool) (n : ℕ) → AllByRecursion (λ (m : Span). m.start ≤ m.stop) (least_from matches 0 n)
least_ordered matches n =
    let spans = least_from matches 0 n in
    all_where (λ (m : Span). m.start ≤ m.stop) spans
    (λ m at. (member_of (IsLeastWithin matches 0 n) m spans (Leasts-least_from matches 0 n n (omega arith)).each at).is_match.ordered)
