-- The found matches stand apart, and each other least one begins inside of one of them.
use Rattle.std.proofs.Common.{◌≡◌, ℕ, ◌<◌, ◌≤◌, Bool, true, false, nat_le, List, [], ◌∷◌, refl, sym, arith, inl, inr, subst, ◌⊎◌}
use Rattle.std.specs.List.{AllByRecursion, Any, Contains}
use Rattle.std.proofs.lemmas.Bool.{cases_Bool, leb-true, leb-false}
use Rattle.icu_table_data.proofs.ListLemmas.{all_where, nothing_in}
use Rattle.icu_search_places.specs.LeastMatches.{Span, least_from, apart_from, RisesTo, StandsApart, ReachesInto}
use Rattle.icu_search_places.specs.LeastMatchLaws.{AreFound}
use Rattle.icu_search_places.proofs.SpanListLemmas.{at_head, in_tail, head_or_tail, member_of, some_member, the_member, InPairs, AllPairs-in_pairs}
use Rattle.icu_search_places.proofs.LeastLemmas.{least_rise, least_ordered}

pub apart_from-nil : (offset : ℕ) → apart_from offset [] ≡ []
unfolding apart_from
apart_from-nil offset = refl

-- a member that is taken, or passed over
pub apart_from-taken : (offset : ℕ) (m : Span) (later : List Span) → nat_le offset m.start ≡ true → apart_from offset (m ∷ later) ≡ m ∷ apart_from m.stop later
unfolding apart_from
apart_from-taken offset m later h = rw h refl

pub apart_from-passed : (offset : ℕ) (m : Span) (later : List Span) → nat_le offset m.start ≡ false → apart_from offset (m ∷ later) ≡ apart_from offset later
unfolding apart_from
apart_from-passed offset m later h = rw h refl

-- what is taken is a member
pub taken_member : (offset : ℕ) (spans : List Span) (m : Span) → Contains (apart_from offset spans) m → Contains spans m
taken_member offset [] m at = subst (λ (l : List Span). Contains l m) (apart_from-nil offset) at
taken_member offset (x ∷ later) m at =
    elim (cases_Bool (nat_le offset x.start)) [
      | inl taken ↦
          let here : Contains (x ∷ apart_from x.stop later) m = subst (λ (l : List Span). Contains l m) (apart_from-taken offset x later taken) at in
          elim (head_or_tail m x (apart_from x.stop later) here) as (λ _. Contains (x ∷ later) m) [
            | inl first ↦ at_head m x later first
            | inr from_behind ↦ in_tail m x later (taken_member x.stop later m from_behind)
          ]
      | inr passed ↦ in_tail m x later (taken_member offset later m (subst (λ (l : List Span). Contains l m) (apart_from-passed offset x later passed) at))
    ]

-- what is taken begins at the offset or after it, where parts end no earlier than they begin
begins_after : (offset : ℕ) (spans : List Span) → AllByRecursion (λ (m : Span). m.start ≤ m.stop) spans → AllByRecursion (λ (m : Span). offset ≤ m.start) (apart_from offset spans)
begins_after offset [] ordered = rw (apart_from-nil offset) tt
begins_after offset (x ∷ later) ordered =
    elim (cases_Bool (nat_le offset x.start)) [
      | inl taken ↦
          let from : offset ≤ x.start = leb-true offset x.start taken in
          let from_behind = begins_after x.stop later ordered.1 in
          let all : AllByRecursion (λ (m : Span). offset ≤ m.start) (x ∷ apart_from x.stop later) =
          (from, all_where (λ (m : Span). offset ≤ m.start) (apart_from x.stop later) (λ m at. omega (arith, from, ordered.0, member_of (λ (m : Span). x.stop ≤ m.start) m (apart_from x.stop later) from_behind at))) in
          rw (apart_from-taken offset x later taken) all
      | inr passed ↦ rw (apart_from-passed offset x later passed) (begins_after offset later ordered.1)
    ]

stand_apart : (offset : ℕ) (spans : List Span) → InPairs RisesTo spans → AllByRecursion (λ (m : Span). m.start ≤ m.stop) spans → InPairs StandsApart (apart_from offset spans)
stand_apart offset [] rise ordered = rw (apart_from-nil offset) tt
stand_apart offset (x ∷ later) rise ordered =
    elim (cases_Bool (nat_le offset x.start)) [
      | inl taken ↦
          let from_behind = begins_after x.stop later ordered.1 in
          let stands : (m : Span) → Contains (apart_from x.stop later) m → StandsApart x m = λ m at. record {
            start = (member_of (RisesTo x) m later rise.0 (taken_member x.stop later m at)).start;
            apart = member_of (λ (m : Span). x.stop ≤ m.start) m (apart_from x.stop later) from_behind at;
          } in
          let all : InPairs StandsApart (x ∷ apart_from x.stop later) = (all_where (StandsApart x) (apart_from x.stop later) stands, stand_apart x.stop later rise.1 ordered.1) in
          rw (apart_from-taken offset x later taken) all
      | inr passed ↦ rw (apart_from-passed offset x later passed) (stand_apart offset later rise.1 ordered.1)
    ]

-- a member is taken, or begins before the offset, or begins inside of one that is taken
abbrev Met : ℕ → List Span → Span → Type 0
Met offset taken m = Contains taken m ⊎ ((m.start < offset) ⊎ Any (λ f. ReachesInto f m) taken)

met_behind : (x m : Span) (taken : List Span) → RisesTo x m → Met x.stop taken m → (offset : ℕ) → Met offset (x ∷ taken) m
met_behind x m taken before (inl at) offset = inl (in_tail m x taken at)
met_behind x m taken before (inr (inl inside)) offset = inr (inr (some_member (λ f. ReachesInto f m) x (x ∷ taken) (at_head x x taken refl) (record { start = before.start; stop = inside })))
met_behind x m taken before (inr (inr some)) offset =
    let f = the_member (λ f. ReachesInto f m) taken some in
    inr (inr (some_member (λ f. ReachesInto f m) f.0 (x ∷ taken) (in_tail f.0 x taken f.1.0) f.1.1))

each_is_met : (offset : ℕ) (spans : List Span) → InPairs RisesTo spans → (m : Span) → Contains spans m → Met offset (apart_from offset spans) m
each_is_met offset [] rise m at = absurd (nothing_in m at)
each_is_met offset (x ∷ later) rise m at =
    elim (cases_Bool (nat_le offset x.start)) [
      | inl taken ↦
          let met : Met offset (x ∷ apart_from x.stop later) m = elim (head_or_tail m x later at) as (λ _. Met offset (x ∷ apart_from x.stop later) m) [
            | inl first ↦ inl (at_head m x (apart_from x.stop later) first)
            | inr from_behind ↦ met_behind x m (apart_from x.stop later) (member_of (RisesTo x) m later rise.0 from_behind) (each_is_met x.stop later rise.1 m from_behind) offset
          ] in
          subst (λ (l : List Span). Met offset l m) (sym (apart_from-taken offset x later taken)) met
      | inr passed ↦
          let met : Met offset (apart_from offset later) m = elim (head_or_tail m x later at) as (λ _. Met offset (apart_from offset later) m) [
            | inl first ↦
                let before : x.start < offset = leb-false offset x.start passed in
                inr (inl (subst (λ (s : Span). s.start < offset) first before))
            | inr from_behind ↦ each_is_met offset later rise.1 m from_behind
          ] in
          subst (λ (l : List Span). Met offset l m) (sym (apart_from-passed offset x later passed)) met
    ]

from_zero : (taken : List Span) (m : Span) → Met 0 taken m → Contains taken m ⊎ Any (λ f. ReachesInto f m) taken
from_zero taken m (inl at) = inl at
from_zero taken m (inr (inl before)) = absurd (omega (arith, before))
from_zero taken m (inr (inr some)) = inr some

pub found_matches_stand_apart : (matches : ℕ → ℕ → Bool) (n : ℕ) → AreFound (least_from matches 0 n) (apart_from 0 (least_from matches 0 n))
found_matches_stand_apart matches n =
    let spans = least_from matches 0 n in
    record {
      each = λ m at. taken_member 0 spans m at;
      apart = AllPairs-in_pairs StandsApart (apart_from 0 spans) (stand_apart 0 spans (least_rise matches n) (least_ordered matches n));
      others = λ m at. from_zero (apart_from 0 spans) m (each_is_met 0 spans (least_rise matches n) m at);
    }
