-- A walk that remembers entries goes on: what was visited, and what is remembered with it.
use Rattle.std.proofs.Common.{◌≡◌, ℕ, zero, suc, ◌+◌, ◌-◌, ◌<◌, ◌≤◌, Bool, true, false, ◌==◌, ◌&&◌, if◌then◌else◌, List, [], ◌∷◌, ◌++◌, ◌⊎◌, inl, inr, refl, sym, ap, ◌∙◌, subst, arith, map, take, length, get_or, Result, Ok, Err, OnOk}
use Rattle.std.proofs.lemmas.List.{take_more}
use Rattle.std.specs.Char.{IsScalar}
use Rattle.std.specs.List.{AllByRecursion, Contains}
use Rattle.std.proofs.lemmas.List.Sums.{fold-append}
use Rattle.std.proofs.lemmas.List.Elements.{Contains-append_cases, Contains-append_left, Contains-append_right}
use Rattle.icu_table_entries.specs.declared.entry.EntryKind.TheVariants.{Prefix}
use Rattle.icu_table_entries.specs.Entries.{kind_of}
use Rattle.icu_table_data.specs.declared.context.ContextMapping.{ContextMapping}
use Rattle.icu_table_data.specs.Contexts.{mappings_of}
use Rattle.icu_table_data.specs.declared.visited_entries.VisitedEntries.{VisitedEntries}
use Rattle.icu_table_data.specs.Data.{Data, homed, context_of}
use Rattle.icu_table_data.specs.Reachable.{goes_by_character, reachable_contraction, reachable_from, reachable_at, ReferAlike}
use Rattle.icu_table_data.specs.Walks.{CharVisit, visit_of, after_all, after_visits, IsReachableVisit, IsSharedVisit}
use Rattle.icu_table_data.specs.inner.VisitedEntries.{IsRemembered}
use Rattle.icu_table_data.specs.inner.BlockWalks.{IsReachedAlike, IsKnown, Spends, contraction_entries, IsReachableIn, AreLedTo, HasWalked, WalkedOnce}
use Rattle.icu_table_data.proofs.ListLemmas.{all_append, all_where, map_all, in_map, nothing_in, in_first}
use Rattle.icu_table_data.proofs.ReachLemmas.{refer_trans, refer_shared, refer_reaches, goes_alone, at_within, prefix_all, in_pushed}
use Rattle.icu_table_data.proofs.CharLemmas.{scalar_below}

-- what follows where a walk doesn't fail
pub where_walked : {X E : Type 0} (r : Result X E) (P Q : Type 0) → (P → Q) → OnOk r P → OnOk r Q
where_walked (Ok x) P Q f p = f p
where_walked (Err e) P Q f p = tt

-- ---- visits

shared_left : (xs ys : List CharVisit) (e : ℕ) → IsSharedVisit xs e → IsSharedVisit (xs ++ ys) e
shared_left xs ys e s = record { other = s.other; among = Contains-append_left xs ys s.other s.among; alike = s.alike }

shared_right : (xs ys : List CharVisit) (e : ℕ) → IsSharedVisit ys e → IsSharedVisit (xs ++ ys) e
shared_right xs ys e s = record { other = s.other; among = Contains-append_right xs ys s.other s.among; alike = s.alike }

-- a visit for one entry serves another that refers alike
carried : (xs : List CharVisit) (e f : ℕ) → ReferAlike e f → goes_by_character f ≡ false → IsSharedVisit xs e → IsSharedVisit xs f
carried xs e f refers shared s = record {
  other = s.other;
  among = s.among;
  alike = record { shared = shared; same = refer_trans s.other.entry e f s.alike.same refers };
}

known_alike : (home : Data) (seen : VisitedEntries) (e f : ℕ) → ReferAlike e f → IsKnown home seen e → IsKnown home seen f
known_alike home seen e f refers k = record {
  entry = k.entry;
  remembered = k.remembered;
  reached = record { other = k.reached.other; reachable = k.reached.reachable; same = refer_trans k.reached.other e f k.reached.same refers };
}

pub known_itself : (home : Data) (seen : VisitedEntries) (e f : ℕ) → IsRemembered seen e → Contains (reachable_from home e) f → IsKnown home seen f
known_itself home seen e f has reachable = record { entry = e; remembered = has; reached = record { other = f; reachable = reachable; same = inl refl } }

module _ {V : Type 0} (after : V → Data → ℕ → ℕ → V) (falls_back : Bool) (home : Data) where
  abbrev Spent : VisitedEntries → VisitedEntries → V → V → (ℕ → Type 0) → Type 0
  Spent = Spends after falls_back home

  pub visits_add : (v : V) (c : ℕ) (es : List ℕ) → after_visits after v home (map (visit_of c) es) ≡ after_all after v home c es
  visits_add v c [] = refl
  visits_add v c (e ∷ es) = visits_add (after v home c e) c es

  pub both_add : (s t u : V) (xs ys : List CharVisit) → t ≡ after_visits after s home xs → u ≡ after_visits after t home ys → u ≡ after_visits after s home (xs ++ ys)
  both_add s t u xs ys p q =
      q ∙ ap (λ v. after_visits after v home ys) p ∙ sym (fold-append (λ v (visit : CharVisit). after v home visit.char visit.entry) s xs ys)

  pub led_reach : (c : ℕ) (es : List ℕ) → IsScalar c → AreLedTo falls_back home c es → AllByRecursion (IsReachableVisit falls_back home) (map (visit_of c) es)
  led_reach c es scalar led =
      map_all (IsReachableVisit falls_back home) (visit_of c) es
      (all_where (λ e. IsReachableVisit falls_back home (visit_of c e)) es (λ e has. record { scalar = scalar; reachable = led e has }))

  -- nothing is visited
  pub spent_none : (seen : VisitedEntries) (v : V) (P : ℕ → Type 0) → ((f : ℕ) → P f → goes_by_character f ≡ false → IsKnown home seen f) → Spent seen seen v v P
  spent_none seen v P known = record {
    visits = [];
    reach = tt;
    adds_up = refl;
    visited = λ e has. inl has;
    each = λ f p shared. inr (known f p shared);
  }

  -- entries are visited with a character
  pub spent_all : (seen : VisitedEntries) (s t : V) (c : ℕ) (es : List ℕ) → IsScalar c → AreLedTo falls_back home c es → t ≡ after_all after s home c es → Spent seen seen s t (Contains es)
  spent_all seen s t c es scalar led is = record {
    visits = map (visit_of c) es;
    reach = led_reach c es scalar led;
    adds_up = is ∙ sym (visits_add s c es);
    visited = λ e has. inl has;
    each = λ f has shared. inl (record { other = visit_of c f; among = in_map (visit_of c) es f has; alike = record { shared = shared; same = inl refl } });
  }

  -- less is said of the entries
  pub spent_less : (seen more : VisitedEntries) (s t : V) (P Q : ℕ → Type 0) → ((f : ℕ) → Q f → goes_by_character f ≡ false → P f) → Spent seen more s t P → Spent seen more s t Q
  spent_less seen more s t P Q less a = record {
    visits = a.visits;
    reach = a.reach;
    adds_up = a.adds_up;
    visited = a.visited;
    each = λ f q shared. a.each f (less f q shared) shared;
  }

  -- one step after another
  pub spent_on : (seen mid more : VisitedEntries) (s t u : V) (P Q R : ℕ → Type 0) → Spent seen mid s t P → Spent mid more t u Q → ((f : ℕ) → R f → P f ⊎ Q f) → Spent seen more s u R
  spent_on seen mid more s t u P Q R a b split = record {
    visits = a.visits ++ b.visits;
    reach = all_append (IsReachableVisit falls_back home) a.visits b.visits a.reach b.reach;
    adds_up = both_add s t u a.visits b.visits a.adds_up b.adds_up;
    visited = λ e has.
        elim (b.visited e has) [
          | inl before ↦ elim (a.visited e before) [
            | inl first ↦ inl first
            | inr here ↦ inr (λ f p shared. early f (here f p shared))
          ]
          | inr here ↦ inr (λ f p shared. late f shared (here f p shared))
        ];
    each = λ f r shared. elim (split f r) [ inl p ↦ early f (a.each f p shared) | inr q ↦ late f shared (b.each f q shared) ];
  }
    where
      early : (f : ℕ) → IsSharedVisit a.visits f ⊎ IsKnown home seen f → IsSharedVisit (a.visits ++ b.visits) f ⊎ IsKnown home seen f
      early f (inl visited) = inl (shared_left a.visits b.visits f visited)
      early f (inr known) = inr known

      through : (e f : ℕ) → ReferAlike e f → goes_by_character f ≡ false → IsSharedVisit a.visits e ⊎ IsKnown home seen e → IsSharedVisit (a.visits ++ b.visits) f ⊎ IsKnown home seen f
      through e f refers shared (inl visited) = inl (carried (a.visits ++ b.visits) e f refers shared (shared_left a.visits b.visits e visited))
      through e f refers shared (inr known) = inr (known_alike home seen e f refers known)

      late : (f : ℕ) → goes_by_character f ≡ false → IsSharedVisit b.visits f ⊎ IsKnown home mid f → IsSharedVisit (a.visits ++ b.visits) f ⊎ IsKnown home seen f
      late f shared (inl visited) = inl (shared_right a.visits b.visits f visited)
      late f shared (inr known) =
          elim (a.visited known.entry known.remembered) [
            | inl before ↦ inr (record { entry = known.entry; remembered = before; reached = known.reached })
            | inr here ↦
                let r = known.reached in
                through r.other f r.same shared (here r.other r.reachable (refer_shared r.other f r.same shared))
          ]

  -- an entry is remembered whose entries are spent
  pub spent_remembered : (seen mid more : VisitedEntries) (s t : V) (bits : ℕ) → ((e : ℕ) → IsRemembered more e → IsRemembered mid e ⊎ ReferAlike bits e)
      → Spent seen mid s t (Contains (reachable_from home bits)) → Spent seen more s t (Contains (reachable_from home bits))
  spent_remembered seen mid more s t bits grown a = record {
    visits = a.visits;
    reach = a.reach;
    adds_up = a.adds_up;
    visited = λ e has.
        elim (grown e has) [
          | inl before ↦ a.visited e before
          | inr refers ↦ inr (λ f p shared. by_alike f shared (refer_reaches home bits e f refers p))
        ];
    each = a.each;
  }
    where
      through : (e f : ℕ) → ReferAlike e f → goes_by_character f ≡ false → IsSharedVisit a.visits e ⊎ IsKnown home seen e → IsSharedVisit a.visits f ⊎ IsKnown home seen f
      through e f refers shared (inl visited) = inl (carried a.visits e f refers shared visited)
      through e f refers shared (inr known) = inr (known_alike home seen e f refers known)

      by_alike : (f : ℕ) → goes_by_character f ≡ false → IsReachedAlike home bits f → IsSharedVisit a.visits f ⊎ IsKnown home seen f
      by_alike f shared r = through r.other f r.same shared (a.each r.other r.reachable (refer_shared r.other f r.same shared))

  -- ---- code point after code point

  abbrev Held : VisitedEntries → V → V → ℕ → Type 0
  Held = HasWalked after falls_back home

  below_or : (c b : ℕ) → (c < b) ⊎ (b ≤ c)
  below_or c b = grind arith

  pub held_none : (seen : VisitedEntries) (v : V) → ((e : ℕ) → IsRemembered seen e → ⊥) → Held seen v v 0
  held_none seen v none = record {
    visits = [];
    reach = tt;
    adds_up = refl;
    each = λ c e high scalar has shared. absurd (omega (arith, high));
    visited = λ e has. absurd (none e has);
  }

  pub held_on : (seen more : VisitedEntries) (t u : V) (n m : ℕ) → Spent seen more t u (IsReachableIn falls_back home n m) → (s : V) → Held seen s t n → Held more s u m
  held_on seen more t u n m a s h = record {
    visits = h.visits ++ a.visits;
    reach = all_append (IsReachableVisit falls_back home) h.visits a.visits h.reach a.reach;
    adds_up = both_add s t u h.visits a.visits h.adds_up a.adds_up;
    each = λ c e high scalar has shared.
        elim (below_or c n) [
          | inl below ↦ shared_left h.visits a.visits e (h.each c e below scalar has shared)
          | inr from ↦ resolve e shared (a.each e (record { char = c; low = from; high = high; scalar = scalar; reachable = has }) shared)
        ];
    visited = λ e has.
        elim (a.visited e has) [
          | inl before ↦ (λ f r shared. shared_left h.visits a.visits f (h.visited e before f r shared))
          | inr here ↦ (λ f r shared. resolve f shared (here f r shared))
        ];
  }
    where
      resolve : (f : ℕ) → goes_by_character f ≡ false → IsSharedVisit a.visits f ⊎ IsKnown home seen f → IsSharedVisit (h.visits ++ a.visits) f
      resolve f shared (inl visited) = shared_right h.visits a.visits f visited
      resolve f shared (inr known) =
          let r = known.reached in
          shared_left h.visits a.visits f
          (carried h.visits r.other f r.same shared (h.visited known.entry known.remembered r.other r.reachable (refer_shared r.other f r.same shared)))

  -- past code points that say what others said before
  pub held_twins : (seen : VisitedEntries) (t : V) (first other : ℕ) → other + 64 ≤ first
      → ((c : ℕ) → first ≤ c → c < first + 64 → IsScalar (other + (c - first)) × (home.value (other + (c - first)) ≡ home.value c))
      → (s : V) → Held seen s t first → Held seen s t (first + 64)
  held_twins seen t first other before same s h = record {
    visits = h.visits;
    reach = h.reach;
    adds_up = h.adds_up;
    each = λ c e high scalar has shared.
        elim (below_or c first) [
          | inl below ↦ h.each c e below scalar has shared
          | inr from ↦
              let at = same c from high in
              h.each (other + (c - first)) e (omega (arith, from, high, before)) at.0 (subst (λ v. Contains (if falls_back && v == 0xC0 then [] else reachable_from home v) e) (sym at.1) has) shared
        ];
    visited = h.visited;
  }

  -- past code points that are no characters
  pub held_gap : (seen : VisitedEntries) (t : V) (n m : ℕ) → ((c : ℕ) → n ≤ c → c < m → IsScalar c → ⊥) → (s : V) → Held seen s t n → Held seen s t m
  held_gap seen t n m none s h = record {
    visits = h.visits;
    reach = h.reach;
    adds_up = h.adds_up;
    each = λ c e high scalar has shared.
        elim (below_or c n) [
          | inl below ↦ h.each c e below scalar has shared
          | inr from ↦ absurd (none c from high scalar)
        ];
    visited = h.visited;
  }

  pub held_all : (seen : VisitedEntries) (s t : V) → Held seen s t 0x110000 → WalkedOnce after falls_back home s t
  held_all seen s t h = record {
    visits = h.visits;
    reach = h.reach;
    adds_up = h.adds_up;
    each = λ c e scalar has shared. h.each c e (scalar_below c scalar) scalar has shared;
  }

  -- ---- the steps from one code point to the next

  pub none_in : (seen : VisitedEntries) (v : V) (n : ℕ) → Spent seen seen v v (IsReachableIn falls_back home n n)
  none_in seen v n = spent_none seen v _ (λ f r shared. absurd (omega (arith, r.low, r.high)))

  pub next_in : (seen mid more : VisitedEntries) (s t u : V) (a b d : ℕ) → Spent seen mid s t (IsReachableIn falls_back home a b) → Spent mid more t u (IsReachableIn falls_back home b d)
      → Spent seen more s u (IsReachableIn falls_back home a d)
  next_in seen mid more s t u a b d first next = spent_on seen mid more s t u _ _ _ first next split
    where
      split : (f : ℕ) → IsReachableIn falls_back home a d f → IsReachableIn falls_back home a b f ⊎ IsReachableIn falls_back home b d f
      split f r =
          elim (below_or r.char b) [
            | inl below ↦ inl (record { char = r.char; low = r.low; high = below; scalar = r.scalar; reachable = r.reachable })
            | inr from ↦ inr (record { char = r.char; low = from; high = r.high; scalar = r.scalar; reachable = r.reachable })
          ]

  -- what is reachable with the one character between two code points
  pub one_in : (c f : ℕ) → IsReachableIn falls_back home c (c + 1) f → Contains (reachable_at falls_back home c) f
  one_in c f r =
      let same : r.char ≡ c = omega (arith, r.low, r.high) in
      subst (λ d. Contains (reachable_at falls_back home d) f) same r.reachable

  -- a code point that is no character's
  pub no_char : (seen : VisitedEntries) (v : V) (c : ℕ) → (IsScalar c → ⊥) → Spent seen seen v v (IsReachableIn falls_back home c (c + 1))
  no_char seen v c none =
      spent_none seen v _
      (λ f r shared.
      let same : r.char ≡ c = omega (arith, r.low, r.high) in
      absurd (none (subst IsScalar same r.scalar)))

  -- a character whose entry goes by it
  pub char_goes : (seen : VisitedEntries) (v : V) (c : ℕ) → goes_by_character (home.value c) ≡ true → Spent seen seen v v (IsReachableIn falls_back home c (c + 1))
  char_goes seen v c goes =
      spent_none seen v _
      (λ f r shared. absurd (by_cases f shared
      (in_first (home.value c) f [] (subst (λ es. Contains es f) (goes_alone home (home.value c) goes) (at_within falls_back home c (home.value c) f refl (one_in c f r))))))
    where
      clash : (b : Bool) → b ≡ true → b ≡ false → ⊥
      clash true p q = cc
      clash false p q = cc

      by_cases : (f : ℕ) → goes_by_character f ≡ false → (home.value c ≡ f) ⊎ Contains [] f → ⊥
      by_cases f shared (inl same) = clash (goes_by_character f) (ap goes_by_character (sym same) ∙ goes) shared
      by_cases f shared (inr none) = nothing_in f none

  -- a character whose entry is fallback
  pub char_falls : (seen : VisitedEntries) (v : V) (c : ℕ) → (falls_back && home.value c == 0xC0) ≡ true → Spent seen seen v v (IsReachableIn falls_back home c (c + 1))
  char_falls seen v c falls =
      spent_none seen v _
      (λ f r shared. absurd (nothing_in f (subst (λ b. Contains (if b then [] else reachable_from home (home.value c)) f) falls (one_in c f r))))

  -- what is reachable from a character's entry is spent
  pub char_spent : (seen more : VisitedEntries) (s t : V) (c e : ℕ) → home.value c ≡ e → Spent seen more s t (Contains (reachable_from home e)) → Spent seen more s t (IsReachableIn falls_back home c (c + 1))
  char_spent seen more s t c e is = spent_less seen more s t _ _ (λ f r shared. at_within falls_back home c e f is (one_in c f r))

  -- ---- what a prefix leads to

  pub spent_same : (seen more : VisitedEntries) (s t : V) (xs ys : List ℕ) → xs ≡ ys → Spent seen more s t (Contains xs) → Spent seen more s t (Contains ys)
  spent_same seen more s t xs ys is = subst (λ es. Spent seen more s t (Contains es)) is

  -- none of the mappings, and one more
  pub spent_no_mappings : (seen : VisitedEntries) (v : V) → Spent seen seen v v (Contains (contraction_entries home []))
  spent_no_mappings seen v = spent_none seen v _ (λ f has shared. absurd (nothing_in f has))

  pub spent_mapping : (seen mid more : VisitedEntries) (s t u : V) (mappings : List ContextMapping) (i : ℕ) (mapping d : ContextMapping) → i < length mappings → mapping ≡ get_or mappings i d
      → Spent seen mid s t (Contains (contraction_entries home (take i mappings))) → Spent mid more t u (Contains (reachable_contraction home mapping.entry))
      → Spent seen more s u (Contains (contraction_entries home (take (i + 1) mappings)))
  spent_mapping seen mid more s t u mappings i mapping d inside is a b =
      let more_is : take (i + 1) mappings ≡ take i mappings ++ mapping ∷ [] = take_more mappings i d inside ∙ ap (λ m. take i mappings ++ m ∷ []) (sym is) in
      spent_on seen mid more s t u _ _ _ a b (λ f has. in_pushed home (take i mappings) mapping f (subst (λ ms. Contains (contraction_entries home ms) f) more_is has))

  -- what a mapping of a list leads to is among what all of them lead to
  pub among_mappings : (mappings : List ContextMapping) (i : ℕ) (mapping d : ContextMapping) (f : ℕ) → i < length mappings → mapping ≡ get_or mappings i d
      → Contains (reachable_contraction home mapping.entry) f → Contains (contraction_entries home mappings) f
  among_mappings [] i mapping d f inside is has = absurd (omega (arith, inside))
  among_mappings (first ∷ mappings) zero mapping d f inside is has =
      Contains-append_left (reachable_contraction home first.entry) (contraction_entries home mappings) f (subst (λ (m : ContextMapping). Contains (reachable_contraction home m.entry) f) is has)
  among_mappings (first ∷ mappings) (suc i) mapping d f inside is has =
      Contains-append_right (reachable_contraction home first.entry) (contraction_entries home mappings) f (among_mappings mappings i mapping d f (omega (arith, inside)) is has)

  -- what is reachable from an entry that a prefix leads to
  pub spent_contraction : (seen : VisitedEntries) (s t : V) (c bits e : ℕ) → e ≡ bits → IsScalar c → AreLedTo falls_back home c (reachable_contraction home bits)
      → t ≡ after_all after s home c (reachable_contraction home e) → Spent seen seen s t (Contains (reachable_contraction home bits))
  spent_contraction seen s t c bits e same scalar led is =
      spent_all seen s t c (reachable_contraction home bits) scalar led (is ∙ ap (λ e. after_all after s home c (reachable_contraction home e)) same)

  -- a prefix itself
  pub spent_itself : (seen : VisitedEntries) (s t : V) (c bits e : ℕ) → e ≡ bits → IsScalar c → AreLedTo falls_back home c (bits ∷ []) → t ≡ after s home c e → Spent seen seen s t (Contains (bits ∷ []))
  spent_itself seen s t c bits e same scalar led is = spent_all seen s t c (bits ∷ []) scalar led (is ∙ ap (after s home c) same)

  -- the prefix, its default and its mappings
  pub spent_prefix : (seen mid more : VisitedEntries) (s t u v : V) (bits default : ℕ) (chars : List ℕ) (mappings : List ContextMapping) → kind_of bits ≡ Prefix
      → record { default = default; mappings = mappings_of chars mappings } ≡ context_of (homed home bits)
      → Spent seen seen s t (Contains (bits ∷ [])) → Spent seen mid t u (Contains (reachable_contraction home default)) → Spent mid more u v (Contains (contraction_entries home mappings))
      → Spent seen more s v (Contains (reachable_from home bits))
  spent_prefix seen mid more s t u v bits default chars mappings is found a b d =
      spent_on seen mid more s u v (λ f. Contains (bits ∷ []) f ⊎ Contains (reachable_contraction home default) f) _ _
      (spent_on seen seen mid s t u _ _ _ a b (λ f r. r)) d split
    where
      split : (f : ℕ) → Contains (reachable_from home bits) f → (Contains (bits ∷ []) f ⊎ Contains (reachable_contraction home default) f) ⊎ Contains (contraction_entries home mappings) f
      split f has =
          elim (Contains-append_cases (bits ∷ []) (reachable_contraction home default ++ contraction_entries home mappings) f (subst (λ es. Contains es f) (prefix_all home bits default chars mappings is found) has)) [
            | inl here ↦ inl (inl here)
            | inr rest ↦ elim (Contains-append_cases (reachable_contraction home default) (contraction_entries home mappings) f rest) [
              | inl first ↦ inl (inr first)
              | inr later ↦ inr later
            ]
          ]

  -- what the default and the mappings of a prefix lead to, the prefix leads to
  pub prefix_leads : (bits default : ℕ) (chars : List ℕ) (mappings : List ContextMapping) → kind_of bits ≡ Prefix
      → record { default = default; mappings = mappings_of chars mappings } ≡ context_of (homed home bits) → (f : ℕ)
      → Contains (bits ∷ (reachable_contraction home default ++ contraction_entries home mappings)) f → Contains (reachable_from home bits) f
  prefix_leads bits default chars mappings is found f =
      subst (λ es. Contains es f) (sym (prefix_all home bits default chars mappings is found))
