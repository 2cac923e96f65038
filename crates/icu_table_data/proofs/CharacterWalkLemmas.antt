-- A walk over the entries of a part goes on: each is visited with each character.
use Rattle.std.proofs.Common.{◌≡◌, ℕ, zero, suc, ◌+◌, ◌<◌, ◌≤◌, Bool, true, false, not, ◌==◌, ◌&&◌, if◌then◌else◌, List, [], ◌∷◌, ◌++◌, ◌⊎◌, inl, inr, length, take, get_or, refl, sym, ap, ◌∙◌, subst, arith, map, fold}
use Rattle.std.specs.Prelude.{nat_lt}
use Rattle.std.specs.Char.{IsScalar}
use Rattle.std.specs.List.{AllByRecursion, Contains}
use Rattle.std.proofs.lemmas.List.Sums.{fold-append, fold_more}
use Rattle.std.proofs.lemmas.List.Elements.{Contains-append_left, Contains-append_right, Contains-push, Contains-push_cases}
use Rattle.icu_table_data.specs.declared.character_walk.Part.{Part}
use Rattle.icu_table_data.specs.declared.visited_entries.VisitedEntries.{VisitedEntries}
use Rattle.icu_table_data.specs.Data.{Data}
use Rattle.icu_table_data.specs.Reachable.{reachable_from, reachable_at, ReferAlike}
use Rattle.icu_table_data.specs.Walks.{CharVisit, visit_of, after_all, after_run, after_visits, IsReachableVisit}
use Rattle.icu_table_data.specs.inner.VisitedEntries.{IsRemembered}
use Rattle.icu_table_data.specs.inner.Visitors.{holds}
use Rattle.icu_table_data.specs.inner.BlockWalks.{is_wanted, leads_to, sought_count, with_room, with_sought, AreSought, after_wanted, after_runs, WalkedTo, AreClear, IsShared, IsRun}
use Rattle.icu_table_data.proofs.ListLemmas.{all_append, all_members, all_where, of_member, in_map, nothing_in, in_first}
use Rattle.icu_table_data.proofs.SameEntryLemmas.{none_passes}
use Rattle.icu_table_data.proofs.CollectedWeightLemmas.{held-contained}
use Rattle.icu_table_data.proofs.ReachLemmas.{refer_leads, at_is, at_within, clash}
use Rattle.icu_table_data.proofs.SpentLemmas.{visits_add, both_add, led_reach}

-- ---- entries that lead to none of the part

none_led : (part : Part) (home : Data) (e f : ℕ) → leads_to part home e ≡ false → Contains (reachable_from home e) f → is_wanted part f ≡ true → ⊥
unfolding leads_to
none_led part home e f none has wanted =
    clash (is_wanted part f) wanted (of_member (λ f. is_wanted part f ≡ false) (reachable_from home e) f (none_passes (is_wanted part) (reachable_from home e) none) has)

-- one more entry that leads to none is remembered
pub still_clear : (part : Part) (home : Data) (old new : VisitedEntries) (bits : ℕ) → ((e : ℕ) → IsRemembered new e → IsRemembered old e ⊎ ReferAlike bits e)
    → leads_to part home bits ≡ false → AreClear part home old → AreClear part home new
still_clear part home old new bits more none clear e has =
    elim (more e has) [ inl before ↦ clear e before | inr refers ↦ refer_leads part home bits e refers none ]

-- ---- the entries of a part that are reachable from an entry

-- a list of entries of the part, all R, has each that is Q, if it has them all
record Keeps (part : Part) (R Q : ℕ → Type 0) (s : List ℕ × Bool) : Type 0 where
  wanted : (f : ℕ) → Contains s.0 f → is_wanted part f ≡ true
  within : (f : ℕ) → Contains s.0 f → R f
  all : s.1 ≡ true → (f : ℕ) → Q f → is_wanted part f ≡ true → Contains s.0 f

module _ (part : Part) (R : ℕ → Type 0) where
  not_full : false ≡ true → ⊥
  not_full h = cc

  added : (Q : ℕ → Type 0) (es : List ℕ) (whole : Bool) (x : ℕ) → R x → is_wanted part x ≡ true → Keeps part R Q (es, whole) → (room : Bool)
      → Keeps part R (λ f. Q f ⊎ (x ≡ f)) (if room then (es ++ x ∷ [], whole) else (es, false))
  added Q es whole x r wanted k true = record {
    wanted = λ f has. elim (Contains-push_cases es x f has) [ inl before ↦ k.wanted f before | inr same ↦ subst (λ f. is_wanted part f ≡ true) same wanted ];
    within = λ f has. elim (Contains-push_cases es x f has) [ inl before ↦ k.within f before | inr same ↦ subst R same r ];
    all = λ is f q w.
        elim q [
          | inl before ↦ Contains-append_left es (x ∷ []) f (k.all is f before w)
          | inr same ↦ subst (Contains (es ++ x ∷ [])) same (Contains-push es x)
        ];
  }
  added Q es whole x r wanted k false = record { wanted = k.wanted; within = k.within; all = λ is f q w. absurd (not_full is) }

  both : (a b : Bool) → (a && not b) ≡ true → (a ≡ true) × (b ≡ false)
  both true false h = (refl, refl)
  both true true h = cc
  both false b h = cc

  neither : (a b : Bool) → (a && not b) ≡ false → a ≡ true → b ≡ true
  neither true true h is = refl
  neither true false h is = cc
  neither false b h is = cc

  step : (Q : ℕ → Type 0) (s : List ℕ × Bool) (x : ℕ) → R x → Keeps part R Q s → Keeps part R (λ f. Q f ⊎ (x ≡ f)) (with_sought part s x)
  step Q s x r k = by_test (is_wanted part x && not (holds s.0 x)) refl
    where
      by_test : (b : Bool) → (is_wanted part x && not (holds s.0 x)) ≡ b → Keeps part R (λ f. Q f ⊎ (x ≡ f)) (if b then with_room s.0 s.1 x else s)
      by_test true is = added Q s.0 s.1 x r (both (is_wanted part x) (holds s.0 x) is).0 k (nat_lt (length s.0) sought_count)
      by_test false is = record {
        wanted = k.wanted;
        within = k.within;
        all = λ whole f q w.
            elim q [
              | inl before ↦ k.all whole f before w
              | inr same ↦
                  let here : is_wanted part x ≡ true = subst (λ f. is_wanted part f ≡ true) (sym same) w in
                  subst (Contains s.0) same (held-contained s.0 x (neither (is_wanted part x) (holds s.0 x) is here))
            ];
      }

  steps : (Q : ℕ → Type 0) (s : List ℕ × Bool) (xs : List ℕ) → AllByRecursion R xs → Keeps part R Q s → Keeps part R (λ f. Q f ⊎ Contains xs f) (fold (with_sought part) s xs)
  steps Q s [] r k = record {
    wanted = k.wanted;
    within = k.within;
    all = λ whole f q w. elim q [ inl before ↦ k.all whole f before w | inr none ↦ absurd (nothing_in f none) ];
  }
  steps Q s (x ∷ xs) r k =
      let next = steps (λ f. Q f ⊎ (x ≡ f)) (with_sought part s x) xs r.1 (step Q s x r.0 k) in
      record {
        wanted = next.wanted;
        within = next.within;
        all = λ whole f q w.
            elim q [
              | inl before ↦ next.all whole f (inl (inl before)) w
              | inr has ↦ elim (in_first x f xs has) [ inl same ↦ next.all whole f (inl (inr same)) w | inr rest ↦ next.all whole f (inr rest) w ]
            ];
      }

with_part : (part : Part) (s : List ℕ × Bool) (xs : List ℕ)
    → fold (λ (s : Part × (List ℕ × Bool)) e. (s.0, with_sought s.0 s.1 e)) (part, s) xs ≡ (part, fold (with_sought part) s xs)
with_part part s [] = refl
with_part part s (x ∷ xs) = with_part part (with_sought part s x) xs

pub are_sought : (part : Part) (home : Data) (e : ℕ) (p : Part) (es : List ℕ) (whole : Bool)
    → (p, (es, whole)) ≡ fold (λ (s : Part × (List ℕ × Bool)) e. (s.0, with_sought s.0 s.1 e)) (part, ([], true)) (reachable_from home e) → AreSought part home e es whole
are_sought part home e p es whole is =
    let same : (es, whole) ≡ fold (with_sought part) ([], true) (reachable_from home e) =
    ap (λ (s : Part × (List ℕ × Bool)). s.1) (is ∙ with_part part ([], true) (reachable_from home e)) in
    let start : Keeps part (Contains (reachable_from home e)) (λ f. ⊥) ([], true) = record {
      wanted = λ f has. absurd (nothing_in f has);
      within = λ f has. absurd (nothing_in f has);
      all = λ is f q w. absurd q;
    } in
    let k : Keeps part (Contains (reachable_from home e)) (λ f. ⊥ ⊎ Contains (reachable_from home e) f) (es, whole) =
    subst (Keeps part (Contains (reachable_from home e)) (λ f. ⊥ ⊎ Contains (reachable_from home e) f)) (sym same)
    (steps part (Contains (reachable_from home e)) (λ f. ⊥) ([], true) (reachable_from home e) (all_members (reachable_from home e)) start) in
    record { wanted = k.wanted; reachable = k.within; all = λ is f has w. k.all is f (inr has) w }

pub sought_from : (part : Part) (home : Data) (e : ℕ) (p : Part) (es : List ℕ) (whole : Bool) (p0 : Part) (es0 : List ℕ) (whole0 : Bool) → p0 ≡ part → es0 ≡ [] → whole0 ≡ true
    → (p, (es, whole)) ≡ fold (λ (s : Part × (List ℕ × Bool)) e. (s.0, with_sought s.0 s.1 e)) (p0, (es0, whole0)) (reachable_from home e) → AreSought part home e es whole
sought_from part home e p es whole p0 es0 whole0 of_part none all is =
    are_sought part home e p es whole (is ∙ ap (λ p. From p es0 whole0) of_part ∙ ap (λ es. From part es whole0) none ∙ ap (From part []) all)
  where
    From : Part → List ℕ → Bool → Part × (List ℕ × Bool)
    From p es whole = fold (λ (s : Part × (List ℕ × Bool)) e. (s.0, with_sought s.0 s.1 e)) (p, (es, whole)) (reachable_from home e)

-- ---- visits one after another

module _ {V : Type 0} (after : V → Data → ℕ → ℕ → V) (falls_back : Bool) (home : Data) where
  abbrev To : Part → V → V → ℕ → ℕ → Type 0
  To part = WalkedTo after falls_back part home

  below_or : (c b : ℕ) → (c < b) ⊎ (b ≤ c)
  below_or c b = grind arith

  pub walked_past : (part : Part) (v : V) (n m : ℕ) → ((c e : ℕ) → n ≤ c → c < m → IsScalar c → Contains (reachable_at falls_back home c) e → is_wanted part e ≡ true → ⊥) → To part v v n m
  walked_past part v n m none = record { visits = []; reach = tt; adds_up = refl; each = λ c e low high s has wanted. absurd (none c e low high s has wanted) }

  pub walked_none : (part : Part) (v : V) (n : ℕ) → To part v v n n
  walked_none part v n = walked_past part v n n (λ c e low high s has wanted. omega (arith, low, high))

  -- code points that are no characters
  pub walked_gap : (part : Part) (v : V) (n m : ℕ) → ((c : ℕ) → n ≤ c → c < m → IsScalar c → ⊥) → To part v v n m
  walked_gap part v n m none = walked_past part v n m (λ c e low high s has wanted. none c low high s)

  pub walked_clear : (part : Part) (v : V) (first : ℕ) → IsShared part home first → To part v v first (first + 64)
  walked_clear part v first shared =
      walked_past part v first (first + 64) (λ c e low high s has wanted. none_led part home (home.value c) e (shared c low high s) (at_within falls_back home c (home.value c) e refl has) wanted)

  -- one character that leads to none of the part, and one that is visited
  pub walked_over : (part : Part) (v : V) (c : ℕ) → (IsScalar c → leads_to part home (home.value c) ≡ false) → To part v v c (c + 1)
  walked_over part v c none =
      walked_past part v c (c + 1)
      (λ d e low high s has wanted.
      let same : d ≡ c = omega (arith, low, high) in
      let clear : leads_to part home (home.value d) ≡ false = subst (λ d. IsScalar d → leads_to part home (home.value d) ≡ false) (sym same) none s in
      none_led part home (home.value d) e clear (at_within falls_back home d (home.value d) e refl has) wanted)

  pub walked_char : (part : Part) (s t : V) (c : ℕ) → IsScalar c → t ≡ after_all after s home c (reachable_at falls_back home c) → To part s t c (c + 1)
  walked_char part s t c scalar is = record {
    visits = map (visit_of c) (reachable_at falls_back home c);
    reach = led_reach after falls_back home c (reachable_at falls_back home c) scalar (λ e has. has);
    adds_up = is ∙ sym (visits_add after falls_back home s c (reachable_at falls_back home c));
    each = λ d e low high scalar has wanted.
        let same : c ≡ d = omega (arith, low, high) in
        subst (λ d. Contains (map (visit_of c) (reachable_at falls_back home c)) (visit_of d e)) same
        (in_map (visit_of c) (reachable_at falls_back home c) e (subst (λ d. Contains (reachable_at falls_back home d) e) (sym same) has));
  }

  pub walked_on : (part : Part) (s t u : V) (a b d : ℕ) → To part s t a b → To part t u b d → To part s u a d
  walked_on part s t u a b d first next = record {
    visits = first.visits ++ next.visits;
    reach = all_append (IsReachableVisit falls_back home) first.visits next.visits first.reach next.reach;
    adds_up = both_add after falls_back home s t u first.visits next.visits first.adds_up next.adds_up;
    each = λ c e low high s has wanted.
        elim (below_or c b) [
          | inl before ↦ Contains-append_left first.visits next.visits (visit_of c e) (first.each c e low before s has wanted)
          | inr from ↦ Contains-append_right first.visits next.visits (visit_of c e) (next.each c e from high s has wanted)
        ];
  }

  -- ---- characters in a row

  -- visits of an entry with so many of them
  run_visits : ℕ → ℕ → ℕ → List CharVisit
  run_visits first e zero = []
  run_visits first e (suc n) = run_visits first e n ++ visit_of (first + n) e ∷ []

  run_add : (v : V) (first e n : ℕ) → after_visits after v home (run_visits first e n) ≡ after_run after v home first e n
  unfolding after_run run_visits
  run_add v first e zero = refl
  run_add v first e (suc n) =
      fold-append (λ v (visit : CharVisit). after v home visit.char visit.entry) v (run_visits first e n) (visit_of (first + n) e ∷ [])
      ∙ ap (λ u. after u home (first + n) e) (run_add v first e n)

  run_reach : (first e n : ℕ) → n ≤ 64 → ((c : ℕ) → first ≤ c → c < first + 64 → IsReachableVisit falls_back home (visit_of c e)) → AllByRecursion (IsReachableVisit falls_back home) (run_visits first e n)
  unfolding run_visits
  run_reach first e zero h each = tt
  run_reach first e (suc n) h each =
      all_append (IsReachableVisit falls_back home) (run_visits first e n) (visit_of (first + n) e ∷ []) (run_reach first e n (omega (arith, h)) each)
      (each (first + n) (omega arith) (omega (arith, h)), tt)

  run_has : (first e n c : ℕ) → first ≤ c → c < first + n → Contains (run_visits first e n) (visit_of c e)
  unfolding run_visits
  run_has first e zero c low high = absurd (omega (arith, low, high))
  run_has first e (suc n) c low high =
      elim (below_or c (first + n)) [
        | inl below ↦ Contains-append_left (run_visits first e n) (visit_of (first + n) e ∷ []) (visit_of c e) (run_has first e n c low below)
        | inr from ↦
            let same : first + n ≡ c = omega (arith, from, high) in
            subst (λ d. Contains (run_visits first e n ++ visit_of (first + n) e ∷ []) (visit_of d e)) same (Contains-push (run_visits first e n) (visit_of (first + n) e))
      ]

  -- where visits with each change nothing, none of them is needed
  pub same_run : (v : V) (first e n : ℕ) → ((c : ℕ) → first ≤ c → c < first + 64 → after v home c e ≡ v) → n ≤ 64 → after_run after v home first e n ≡ v
  unfolding after_run
  same_run v first e zero nothing h = refl
  same_run v first e (suc n) nothing h =
      ap (λ v. after v home (first + n) e) (same_run v first e n nothing (omega (arith, h))) ∙ nothing (first + n) (omega arith) (omega (arith, h))

  pub run_none : (v : V) (first e n : ℕ) → n ≡ 0 → v ≡ after_run after v home first e n
  unfolding after_run
  run_none v first e n h = rw h refl

  pub run_more : (s t u : V) (first e n m c : ℕ) → m ≡ suc n → c ≡ first + n → t ≡ after_run after s home first e n → u ≡ after t home c e → u ≡ after_run after s home first e m
  unfolding after_run
  run_more s t u first e n m c next at ran is = rw next (is ∙ ap (λ k. after t home k e) at ∙ ap (λ v. after v home (first + n) e) ran)

  runs_visits : ℕ → List ℕ → List CharVisit
  runs_visits first [] = []
  runs_visits first (e ∷ es) = run_visits first e 64 ++ runs_visits first es

  runs_add : (v : V) (first : ℕ) (es : List ℕ) → after_visits after v home (runs_visits first es) ≡ after_runs after v home first es
  unfolding runs_visits
  runs_add v first [] = refl
  runs_add v first (e ∷ es) =
      fold-append (λ v (visit : CharVisit). after v home visit.char visit.entry) v (run_visits first e 64) (runs_visits first es)
      ∙ ap (λ u. after_visits after u home (runs_visits first es)) (run_add v first e 64)
      ∙ runs_add (after_run after v home first e 64) first es

  runs_reach : (first : ℕ) (es : List ℕ) → AllByRecursion (λ e. (c : ℕ) → first ≤ c → c < first + 64 → IsReachableVisit falls_back home (visit_of c e)) es
      → AllByRecursion (IsReachableVisit falls_back home) (runs_visits first es)
  unfolding runs_visits
  runs_reach first [] each = tt
  runs_reach first (e ∷ es) each =
      let whole : 64 ≤ 64 = omega arith in
      all_append (IsReachableVisit falls_back home) (run_visits first e 64) (runs_visits first es) (run_reach first e 64 whole each.0) (runs_reach first es each.1)

  runs_have : (first : ℕ) (es : List ℕ) (c e : ℕ) → first ≤ c → c < first + 64 → Contains es e → Contains (runs_visits first es) (visit_of c e)
  unfolding runs_visits
  runs_have first [] c e low high has = absurd (nothing_in e has)
  runs_have first (f ∷ es) c e low high has =
      elim (in_first f e es has) [
        | inl same ↦
            Contains-append_left (run_visits first f 64) (runs_visits first es) (visit_of c e)
            (subst (λ x. Contains (run_visits first f 64) (visit_of c x)) same (run_has first f 64 c low high))
        | inr rest ↦ Contains-append_right (run_visits first f 64) (runs_visits first es) (visit_of c e) (runs_have first es c e low high rest)
      ]

  pub runs_more : (s t u : V) (first : ℕ) (es : List ℕ) (i e : ℕ) → i < length es → e ≡ get_or es i 0 → t ≡ after_runs after s home first (take i es) → u ≡ after_run after t home first e 64
      → u ≡ after_runs after s home first (take (i + 1) es)
  runs_more s t u first es i e inside at ran is =
      is ∙ ap (λ v. after_run after v home first e 64) ran ∙ ap (λ x. after_run after (after_runs after s home first (take i es)) home first x 64) at
      ∙ sym (fold_more (λ v e. after_run after v home first e 64) s es i 0 inside)

  pub each_more : (s t u : V) (c : ℕ) (es : List ℕ) (i e : ℕ) → i < length es → e ≡ get_or es i 0 → t ≡ after_all after s home c (take i es) → u ≡ after t home c e → u ≡ after_all after s home c (take (i + 1) es)
  each_more s t u c es i e inside at ran is =
      is ∙ ap (λ v. after v home c e) ran ∙ ap (λ x. after (after_all after s home c (take i es)) home c x) at ∙ sym (fold_more (λ v e. after v home c e) s es i 0 inside)

  off_fallback : (b : Bool) → (b && false) ≡ false
  off_fallback true = refl
  off_fallback false = refl

  -- 64 characters with one entry, of which each entry of the part was visited with all of them
  pub walked_runs : (part : Part) (s t : V) (first e : ℕ) (es : List ℕ) → IsRun home first e → ((c : ℕ) → first ≤ c → c < first + 64 → IsScalar c) → (e == 0xC0) ≡ false
      → AreSought part home e es true → t ≡ after_runs after s home first es → To part s t first (first + 64)
  walked_runs part s t first e es run scalars kept sought is = record {
    visits = runs_visits first es;
    reach =
        runs_reach first es
        (all_where_reach es (λ f has c low high. record { scalar = scalars c low high; reachable = subst (λ xs. Contains xs f) (sym (at c low high)) (sought.reachable f has) }));
    adds_up = is ∙ sym (runs_add s first es);
    each = λ c f low high scalar has wanted. runs_have first es c f low high (sought.all refl f (subst (λ xs. Contains xs f) (at c low high) has) wanted);
  }
    where
      at : (c : ℕ) → first ≤ c → c < first + 64 → reachable_at falls_back home c ≡ reachable_from home e
      at c low high = at_is falls_back home c e (run c low high (scalars c low high)) (ap (λ b. falls_back && b) kept ∙ off_fallback falls_back)

      all_where_reach : (es : List ℕ) → ((f : ℕ) → Contains es f → (c : ℕ) → first ≤ c → c < first + 64 → IsReachableVisit falls_back home (visit_of c f))
          → AllByRecursion (λ f. (c : ℕ) → first ≤ c → c < first + 64 → IsReachableVisit falls_back home (visit_of c f)) es
      all_where_reach es each = all_where (λ f. (c : ℕ) → first ≤ c → c < first + 64 → IsReachableVisit falls_back home (visit_of c f)) es each

  -- one character, with which each entry of the part was visited
  pub walked_each : (part : Part) (s t : V) (c : ℕ) (es : List ℕ) → IsScalar c → (home.value c == 0xC0) ≡ false → AreSought part home (home.value c) es true → t ≡ after_all after s home c es → To part s t c (c + 1)
  walked_each part s t c es scalar kept sought is = record {
    visits = map (visit_of c) es;
    reach = led_reach after falls_back home c es scalar (λ e has. subst (λ xs. Contains xs e) (sym at) (sought.reachable e has));
    adds_up = is ∙ sym (visits_add after falls_back home s c es);
    each = λ d e low high scalar has wanted.
        let same : c ≡ d = omega (arith, low, high) in
        subst (λ d. Contains (map (visit_of c) es) (visit_of d e)) same
        (in_map (visit_of c) es e (sought.all refl e (subst (λ xs. Contains xs e) at (subst (λ d. Contains (reachable_at falls_back home d) e) (sym same) has)) wanted));
  }
    where
      at : reachable_at falls_back home c ≡ reachable_from home (home.value c)
      at = at_is falls_back home c (home.value c) refl (ap (λ b. falls_back && b) kept ∙ off_fallback falls_back)

  -- ---- entries of a part among others

  -- those of these entries that are of the part
  wanted_of : Part → List ℕ → List ℕ
  wanted_of part [] = []
  wanted_of part (e ∷ es) = if is_wanted part e then e ∷ wanted_of part es else wanted_of part es

  wanted_one : (part : Part) (v : V) (first e : ℕ) (es rest : List ℕ) (b : Bool) → ((v : V) → after_all (after_wanted after part) v home first es ≡ after_runs after v home first rest)
      → after_all (after_wanted after part) (if b then after_run after v home first e 64 else v) home first es ≡ after_runs after v home first (if b then e ∷ rest else rest)
  wanted_one part v first e es rest true below = below (after_run after v home first e 64)
  wanted_one part v first e es rest false below = below v

  wanted_add : (part : Part) (v : V) (first : ℕ) (es : List ℕ) → after_all (after_wanted after part) v home first es ≡ after_runs after v home first (wanted_of part es)
  unfolding wanted_of
  wanted_add part v first [] = refl
  wanted_add part v first (e ∷ es) = wanted_one part v first e es (wanted_of part es) (is_wanted part e) (λ v. wanted_add part v first es)

  abbrev IsOf : Part → List ℕ → ℕ → Type 0
  IsOf part es e = Contains es e × (is_wanted part e ≡ true)

  within_one : (part : Part) (f : ℕ) (es rest : List ℕ) (e : ℕ) (b : Bool) → is_wanted part f ≡ b → (Contains rest e → IsOf part es e) → Contains (if b then f ∷ rest else rest) e → IsOf part (f ∷ es) e
  within_one part f es rest e true is below has =
      elim (in_first f e rest has) [
        | inl same ↦ (subst (Contains (f ∷ es)) same (Contains-append_left (f ∷ []) es f (Contains-push [] f)), subst (λ e. is_wanted part e ≡ true) same is)
        | inr later ↦ (Contains-append_right (f ∷ []) es e (below later).0, (below later).1)
      ]
  within_one part f es rest e false is below has = (Contains-append_right (f ∷ []) es e (below has).0, (below has).1)

  wanted_within : (part : Part) (es : List ℕ) (e : ℕ) → Contains (wanted_of part es) e → IsOf part es e
  unfolding wanted_of
  wanted_within part [] e has = absurd (nothing_in e has)
  wanted_within part (f ∷ es) e has = within_one part f es (wanted_of part es) e (is_wanted part f) refl (wanted_within part es e) has

  has_one : (part : Part) (f : ℕ) (es rest : List ℕ) (e : ℕ) (b : Bool) → is_wanted part f ≡ b → is_wanted part e ≡ true → (Contains es e → Contains rest e) → Contains (f ∷ es) e → Contains (if b then f ∷ rest else rest) e
  has_one part f es rest e true is wanted below has =
      elim (in_first f e es has) [
        | inl same ↦ subst (Contains (f ∷ rest)) same (Contains-append_left (f ∷ []) rest f (Contains-push [] f))
        | inr later ↦ Contains-append_right (f ∷ []) rest e (below later)
      ]
  has_one part f es rest e false is wanted below has =
      elim (in_first f e es has) [
        | inl same ↦ absurd (clash (is_wanted part f) (subst (λ e. is_wanted part e ≡ true) (sym same) wanted) is)
        | inr later ↦ below later
      ]

  wanted_has : (part : Part) (es : List ℕ) (e : ℕ) → Contains es e → is_wanted part e ≡ true → Contains (wanted_of part es) e
  unfolding wanted_of
  wanted_has part [] e has wanted = absurd (nothing_in e has)
  wanted_has part (f ∷ es) e has wanted = has_one part f es (wanted_of part es) e (is_wanted part f) refl wanted (λ later. wanted_has part es e later wanted) has

  -- 64 characters with one entry, where all that it leads to was gone through
  pub walked_wanted : (part : Part) (s t : V) (first e : ℕ) → IsRun home first e → ((c : ℕ) → first ≤ c → c < first + 64 → IsScalar c) → (e == 0xC0) ≡ false
      → t ≡ after_all (after_wanted after part) s home first (reachable_from home e) → To part s t first (first + 64)
  walked_wanted part s t first e run scalars kept is =
      walked_runs part s t first e (wanted_of part (reachable_from home e)) run scalars kept
      (record {
        wanted = λ f has. (wanted_within part (reachable_from home e) f has).1;
        reachable = λ f has. (wanted_within part (reachable_from home e) f has).0;
        all = λ whole f has wanted. wanted_has part (reachable_from home e) f has wanted;
      })
      (is ∙ wanted_add part s first (reachable_from home e))
