-- The weights that a walk collects: those that were there, and those of the elements of the entries that it comes to.
use Rattle.std.proofs.Common.{◌≡◌, ℕ, ◌-◌, Bool, true, false, ◌==◌, List, [], ◌∷◌, ◌++◌, ◌⊎◌, length, map, fold, Option, Some, None, if◌then◌else◌, refl, sym, ap, ◌∙◌, subst, OnOk, Result, Ok, Err, IsTrue, ◌↔◌, inl, inr, arith}
use Rattle.std.specs.List.{AllByRecursion, Contains, slice_get, Any}
use Rattle.std.proofs.Math.Path.{fun_ext}
use Rattle.std.proofs.lemmas.List.Folds.{Any-from_list_any, list_any-from_Any}
use Rattle.std.proofs.lemmas.Option.{slice_get_within, get_or_from_slice_get}
use Rattle.std.proofs.lemmas.List.Elements.{Contains-append_left, Contains-push, Contains-push_cases}
use Rattle.std.proofs.lemmas.Bool.{or_cases, or_left, or_right, eqb-true, eq-eqb}
use Rattle.icu_table_entries.specs.Elements.{Element, of_primary}
use Rattle.icu_table_entries.specs.declared.entry.EntryKind.{EntryKind}
use Rattle.icu_table_entries.specs.declared.entry.EntryKind.TheVariants.{Expansion32, Expansion, Offset, Implicit}
use Rattle.icu_table_entries.specs.Entries.{kind_of}
use Rattle.icu_table_entries.specs.Weights.{implicit_weight, offset_weight, offset_element}
use Rattle.icu_table_data.specs.Data.{Data, homed}
use Rattle.icu_table_data.specs.Final.{final_elements}
use Rattle.icu_table_data.specs.Reachable.{AreAlike, goes_by_character, reachable_at, EachReachable}
use Rattle.icu_table_data.specs.Walks.{CharVisit, after_all, after_visits, IsCovered, IsPassed, Walked}
use Rattle.icu_table_data.specs.CollectedWeights.{is_stated, IsWeightAmong, IsReachableWeight, Adds}
use Rattle.icu_table_data.specs.inner.Visitors.{holds, and_weight, and_found, collected, collected_at, given_elements}
use Rattle.icu_table_data.proofs.ListLemmas.{weaker, all_of, all_members, of_member}
use Rattle.icu_table_data.proofs.SameEntryLemmas.{gives_alike}
use Rattle.icu_table_data.proofs.WalkLemmas.{fold_keeps, fold_back, walk_keeps, walk_back}

-- ---- one more weight

last_contained : (ws : List ℕ) (w : ℕ) → slice_get ws (length ws - 1) ≡ Some w → Contains ws w
last_contained ws w is = (length ws - 1, slice_get_within ws (length ws - 1) w is, get_or_from_slice_get ws (length ws - 1) w w is)

-- ---- which weights a list holds

pub held-contained : (ws : List ℕ) (w : ℕ) → holds ws w ≡ true → Contains ws w
unfolding holds
held-contained ws w h =
    let found : Any (λ v. (v == w) ≡ true) ws = Any-from_list_any (λ v. v == w) ws h in
    subst (Contains ws) (eqb-true found.1 w found.4) (found.0, found.2, found.3)

pub contained-held : (ws : List ℕ) (w : ℕ) → Contains ws w → holds ws w ≡ true
unfolding holds
contained-held ws w h = list_any-from_Any (λ v. v == w) ws (h.0, w, h.1, h.2, eq-eqb w w refl)

pub same_bool : (a b : Bool) → (a ≡ true → b ≡ true) → (b ≡ true → a ≡ true) → a ≡ b
same_bool true b f g = sym (f refl)
same_bool false true f g = g refl
same_bool false false f g = refl

-- a list holds just these
held_as : (ws : List ℕ) (has : ℕ → Bool) → ((w : ℕ) → Contains ws w → has w ≡ true) → ((w : ℕ) → has w ≡ true → Contains ws w) → holds ws ≡ has
held_as ws has f g = fun_ext (λ w. same_bool (holds ws w) (has w) (λ h. f w (held-contained ws w h)) (λ h. contained-held ws w (g w h)))

-- the last weight once more, and another one
pub last_again : (ws : List ℕ) (w : ℕ) → slice_get ws (length ws - 1) ≡ Some w → Adds (λ v. v ≡ w) ws ws
last_again ws w last v = (λ has. inl has, elim [ inl old ↦ old | inr is ↦ subst (Contains ws) (sym is) (last_contained ws w last) ])

pub one_more : (old room : List ℕ) (w : ℕ) → ((v : ℕ) → Contains room v ↔ Contains old v) → Adds (λ v. v ≡ w) old (room ++ w ∷ [])
one_more old room w same v = (
  λ has. elim (Contains-push_cases room w v has) [ inl before ↦ inl ((same v).0 before) | inr is ↦ inr (sym is) ],
  λ h. elim h [
    | inl before ↦ Contains-append_left room (w ∷ []) v ((same v).1 before)
    | inr is ↦ subst (Contains (room ++ w ∷ [])) (sym is) (Contains-push room w)
  ],
)

-- so one more is held
pub one_held : (old new : List ℕ) (w : ℕ) → Adds (λ v. v ≡ w) old new → holds new ≡ and_weight (holds old) w
one_held old new w adds =
    held_as new (and_weight (holds old) w)
    (λ v has. elim ((adds v).0 has) [
      | inl before ↦ or_left (holds old v) (w == v) (contained-held old v before)
      | inr is ↦ or_right (holds old v) (w == v) (eq-eqb w v (sym is))
    ])
    (λ v h. elim (or_cases (holds old v) (w == v) h) [
      | inl before ↦ (adds v).1 (inl (held-contained old v before))
      | inr is ↦ (adds v).1 (inr (sym (eqb-true w v is)))
    ])

found-old : (has : ℕ → Bool) (o : Option ℕ) (x : ℕ) → has x ≡ true → and_found has o x ≡ true
found-old has None x h = h
found-old has (Some w) x h = or_left (has x) (w == x) h

found-new : (has : ℕ → Bool) (o : Option ℕ) (x : ℕ) → o ≡ Some x → and_found has o x ≡ true
found-new has None x h = cc
found-new has (Some w) x h = let same : w ≡ x = cc in or_right (has x) (w == x) (eq-eqb w x same)

found-cases : (has : ℕ → Bool) (o : Option ℕ) (x : ℕ) → and_found has o x ≡ true → (has x ≡ true) ⊎ (o ≡ Some x)
found-cases has None x h = inl h
found-cases has (Some w) x h =
    elim (or_cases (has x) (w == x) h) [ inl old ↦ inl old | inr same ↦ inr (ap Some (eqb-true w x same)) ]

-- ---- the elements of an entry

-- an element is given exactly where the table states the elements
pub given-parts : (b : Bool) (xs : List Element) (x : Element) → Contains (if b then xs else []) x → IsTrue b × Contains xs x
given-parts true xs x h = (refl, h)
given-parts false xs x h = absurd (omega arith)

pub given-from : (b : Bool) (xs : List Element) (x : Element) → IsTrue b → Contains xs x → Contains (if b then xs else []) x
given-from true xs x is h = h
given-from false xs x is h = cc

is_given : (home : Data) (c e : ℕ) (x : Element) → IsTrue (is_stated home c e) → Contains (final_elements (homed home e) c) x → Contains (given_elements home c e) x
unfolding given_elements
is_given home c e x stated h = given-from (is_stated home c e) (final_elements (homed home e) c) x stated h

given_is : (home : Data) (c e : ℕ) (x : Element) → Contains (given_elements home c e) x → IsTrue (is_stated home c e) × Contains (final_elements (homed home e) c) x
unfolding given_elements
given_is home c e x h = given-parts (is_stated home c e) (final_elements (homed home e) c) x h

-- ---- entries that go by their character, where no element with a primary weight alone is collected

module _ {W : Type 0} (weight : W → Element → Option ℕ) (w : W) (none : (p : ℕ) → weight w (of_primary p) ≡ None) where
  abbrev Passes : Element → Type 0
  Passes x = weight w x ≡ None

  nothing_found : (ws : ℕ → Bool) (o : Option ℕ) → o ≡ None → and_found ws o ≡ ws
  nothing_found ws None h = refl
  nothing_found ws (Some x) h = cc

  nothing_of : (ws : ℕ → Bool) (xs : List Element) → AllByRecursion Passes xs → fold (collected weight) (w, ws) xs ≡ (w, ws)
  nothing_of ws [] all = refl
  nothing_of ws (x ∷ xs) all =
      ap (λ (has : ℕ → Bool). fold (collected weight) (w, has) xs) (nothing_found ws (weight w x) all.0) ∙ nothing_of ws xs all.1

  offsets_pass : (c : ℕ) (ds : List Element) → AllByRecursion Passes (map (λ d. offset_element d c) ds)
  offsets_pass c [] = tt
  offsets_pass c (d ∷ ds) = (none (offset_weight d c), offsets_pass c ds)

  by_kind_pass : (k : EntryKind) (a b o i z : List Element) → (elim k as (λ _. Bool) [ Offset ↦ true | Implicit ↦ true | _ ↦ false ]) ≡ true → AllByRecursion Passes o → AllByRecursion Passes i
      → AllByRecursion Passes (elim k as (λ _. List Element) [ Expansion32 ↦ a | Expansion ↦ b | Offset ↦ o | Implicit ↦ i | _ ↦ z ])
  by_kind_pass Offset a b o i z h p q = p
  by_kind_pass Implicit a b o i z h p q = q
  by_kind_pass _ a b o i z h p q = cc

  by_character_pass : (home : Data) (c e : ℕ) → goes_by_character e ≡ true → AllByRecursion Passes (final_elements (homed home e) c)
  unfolding goes_by_character final_elements
  by_character_pass home c e by = by_kind_pass (kind_of e) _ _ _ _ _ by (offsets_pass c _) (none (implicit_weight c), tt)

  pass_if : (b : Bool) (xs : List Element) → AllByRecursion Passes xs → AllByRecursion Passes (if b then xs else [])
  pass_if true xs all = all
  pass_if false xs all = tt

  pub passes_primaries : (ws : ℕ → Bool) (home : Data) (c e : ℕ) → goes_by_character e ≡ true → collected_at weight (w, ws) home c e ≡ (w, ws)
  unfolding given_elements
  passes_primaries ws home c e by = nothing_of ws _ (pass_if (is_stated home c e) (final_elements (homed home e) c) (by_character_pass home c e by))

-- ---- walks

module _ {W : Type 0} (weight : W → Element → Option ℕ) (weigh : W) (falls_back : Bool) (home : Data) where
  abbrev step : (ℕ → Bool) → Element → ℕ → Bool
  step ws x = and_found ws (weight weigh x)

  abbrev kept : (ℕ → Bool) → Data → ℕ → ℕ → ℕ → Bool
  kept ws home c e = fold step ws (given_elements home c e)

  -- a walk keeps what collects
  same_elements : (ws : ℕ → Bool) (xs : List Element) → fold (collected weight) (weigh, ws) xs ≡ (weigh, fold step ws xs)
  same_elements ws [] = refl
  same_elements ws (x ∷ xs) = same_elements (step ws x) xs

  same_all : (c : ℕ) (ws : ℕ → Bool) (es : List ℕ) → after_all (collected_at weight) (weigh, ws) home c es ≡ (weigh, after_all kept ws home c es)
  same_all c ws [] = refl
  same_all c ws (e ∷ es) =
      ap (λ s. after_all (collected_at weight) s home c es) (same_elements ws (given_elements home c e)) ∙ same_all c (kept ws home c e) es

  same_visits : (ws : ℕ → Bool) (visits : List CharVisit) → after_visits (collected_at weight) (weigh, ws) home visits ≡ (weigh, after_visits kept ws home visits)
  same_visits ws [] = refl
  same_visits ws (p ∷ visits) =
      ap (λ s. after_visits (collected_at weight) s home visits) (same_elements ws (given_elements home p.char p.entry)) ∙ same_visits (kept ws home p.char p.entry) visits

  abbrev Collected : W × (ℕ → Bool) → W × (ℕ → Bool) → Type 0
  Collected = Walked (collected_at weight) falls_back home

  -- a walk of a collector is a walk of the weights that it holds
  kept_walk : (ws : ℕ → Bool) (s : W × (ℕ → Bool)) → Collected (weigh, ws) s → Walked kept falls_back home ws s.1
  kept_walk ws s w = record { visits = w.visits; reach = w.reach; adds_up = ap (λ s. s.1) is; each = λ c e scalar has. each c e (w.each c e scalar has) }
    where
      is : s ≡ (weigh, after_visits kept ws home w.visits)
      is = w.adds_up ∙ same_visits ws w.visits

      nothing : (c e : ℕ) (s : W × (ℕ → Bool)) → s ≡ (weigh, s.1) → collected_at weight s home c e ≡ s → kept s.1 home c e ≡ s.1
      nothing c e s same h =
          ap (λ s. s.1) (sym (same_elements s.1 (given_elements home c e)) ∙ ap (λ s. collected_at weight s home c e) (sym same) ∙ h)

      each : (c e : ℕ) → IsCovered w.visits c e ⊎ IsPassed (collected_at weight) home s c e → IsCovered w.visits c e ⊎ IsPassed kept home s.1 c e
      each c e (inl covered) = inl covered
      each c e (inr passed) = inr (record { implicit = passed.implicit; nothing = nothing c e s (subst (λ (t : W × (ℕ → Bool)). t ≡ (weigh, t.1)) (sym is) refl) passed.nothing })

  -- a weight that is there at the end was there at the start, or is that of an element
  abbrev Among : ℕ → List ℕ → ℕ → Type 0
  Among = IsWeightAmong (weight weigh) home

  into_at : (w : ℕ) (G : Type 0) (c : ℕ) (es : List ℕ) → (Among c es w → G) → AllByRecursion (λ e. (ws : ℕ → Bool) → ((ws w ≡ true) → G) → (kept ws home c e w ≡ true) → G) es
  into_at w G c es into =
      weaker (Contains es) (λ e. (ws : ℕ → Bool) → ((ws w ≡ true) → G) → (kept ws home c e w ≡ true) → G)
      (λ e reachable. fold_keeps step (λ ws. (ws w ≡ true) → G) (given_elements home c e)
      (weaker (Contains (given_elements home c e)) (λ x. (ws : ℕ → Bool) → ((ws w ≡ true) → G) → (step ws x w ≡ true) → G)
      (λ x given ws old has.
      let is = given_is home c e x given in
      elim (found-cases ws (weight weigh x) w has) [
        | inl before ↦ old before
        | inr weighs ↦ into (record { e = e; reachable = reachable; stated = is.0; x = x; given = is.1; weighs = weighs })
      ])
      (given_elements home c e) (all_members (given_elements home c e))))
      es (all_members es)

  -- what a weight that is held leads to, a weight that was held before or is given leads to
  abbrev Leads : ℕ → Type 0 → ℕ → ℕ → Type 0
  Leads w G c e = AllByRecursion (λ x. weight weigh x ≡ Some w → G) (given_elements home c e)

  back_at : (w : ℕ) (G : Type 0) (c e : ℕ) (ws : ℕ → Bool) → ((kept ws home c e w ≡ true) → G) → ((ws w ≡ true) → G) × Leads w G c e
  back_at w G c e ws h =
      fold_back step (λ ws. (ws w ≡ true) → G) (λ x. weight weigh x ≡ Some w → G) (given_elements home c e)
      (all_of (λ x. (ws : ℕ → Bool) → ((step ws x w ≡ true) → G) → ((ws w ≡ true) → G) × (weight weigh x ≡ Some w → G))
      (λ x ws later. (λ has. later (found-old ws (weight weigh x) w has), λ weighs. later (found-new ws (weight weigh x) w weighs)))
      (given_elements home c e)) ws h

  leads_to : (w : ℕ) (G : Type 0) (c : ℕ) (es : List ℕ) → AllByRecursion (Leads w G c) es → Among c es w → G
  leads_to w G c es all is =
      let here : Leads w G c is.e = of_member (Leads w G c) es is.e all is.reachable in
      of_member (λ x. weight weigh x ≡ Some w → G) (given_elements home c is.e) is.x here (is_given home c is.e is.x is.stated is.given) is.weighs

  among : (c : ℕ) (es : List ℕ) (ws : ℕ → Bool) (w : ℕ) → (after_all kept ws home c es w ≡ true) ↔ ((ws w ≡ true) ⊎ Among c es w)
  among c es ws w =
      let G = after_all kept ws home c es w ≡ true in
      let both : ((ws w ≡ true) → G) × AllByRecursion (Leads w G c) es = fold_back (λ ws e. kept ws home c e) (λ ws. (ws w ≡ true) → G) (Leads w G c) es (all_of _ (back_at w G c) es) ws (λ has. has) in (
        fold_keeps (λ ws e. kept ws home c e) (λ now. now w ≡ true → (ws w ≡ true) ⊎ Among c es w) es (into_at w ((ws w ≡ true) ⊎ Among c es w) c es (λ is. inr is)) ws (λ has. inl has),
        elim [ inl before ↦ both.0 before | inr is ↦ leads_to w G c es both.1 is ],
      )

  abbrev Reachable : ℕ → Type 0
  Reachable = IsReachableWeight (weight weigh) falls_back home

  leads_alike : (w : ℕ) (G : Type 0) (c d e f : ℕ) → AreAlike f e → Leads w G d f → Leads w G c e
  leads_alike w G c d e f alike = subst (AllByRecursion (λ x. weight weigh x ≡ Some w → G)) (gives_alike home d c f e alike)

  reachable : (ws end : ℕ → Bool) → Walked kept falls_back home ws end → (w : ℕ) → (end w ≡ true) ↔ ((ws w ≡ true) ⊎ Reachable w)
  reachable ws end walked w =
      let G = end w ≡ true in
      let both : ((ws w ≡ true) → G) × EachReachable (Leads w G) falls_back home = walk_back kept falls_back home (λ ws. (ws w ≡ true) → G) (Leads w G) (back_at w G) (leads_alike w G) ws end walked (λ has. has) in (
        walk_keeps kept falls_back home (λ now. now w ≡ true → (ws w ≡ true) ⊎ Reachable w)
            (λ c scalar. into_at w ((ws w ≡ true) ⊎ Reachable w) c (reachable_at falls_back home c) (λ is. inr (record { c = c; scalar = scalar; among = is }))) ws end walked (λ has. inl has),
        elim [ inl before ↦ both.0 before | inr is ↦ leads_to w G is.c (reachable_at falls_back home is.c) (both.1 is.c is.scalar) is.among ],
      )

  -- where a walk that began so came to a weight
  began : (v : W) (ws start : List ℕ) → v ≡ weigh → ws ≡ start → ◌≡◌ {A = W × (ℕ → Bool)} (v, holds ws) (weigh, holds start)
  began v ws start same begun = ap (λ v. (v, holds ws)) same ∙ ap (λ ws. (weigh, holds ws)) begun

  -- what is said of what a list holds is said of the list
  of_list : (start end : List ℕ) (G : ℕ → Type 0) → ((w : ℕ) → (holds end w ≡ true) ↔ ((holds start w ≡ true) ⊎ G w)) → (w : ℕ) → Contains end w ↔ (Contains start w ⊎ G w)
  of_list start end G all w = (
    λ has. elim ((all w).0 (contained-held end w has)) [ inl old ↦ inl (held-contained start w old) | inr new ↦ inr new ],
    λ is. held-contained end w ((all w).1 (elim is as (λ _. (holds start w ≡ true) ⊎ G w) [ inl old ↦ inl (contained-held start w old) | inr new ↦ inr new ])),
  )

  pub collected_among : (v : W) (ws start : List ℕ) → v ≡ weigh → ws ≡ start → (c : ℕ) (es : List ℕ) {X E : Type 0} (r : Result X E) (u : W) (end : List ℕ)
      → OnOk r (◌≡◌ {A = W × (ℕ → Bool)} (u, holds end) (after_all (collected_at weight) (v, holds ws) home c es)) → OnOk r ((w : ℕ) → Contains end w ↔ (Contains start w ⊎ Among c es w))
  collected_among v ws start same begun c es (Err e) u end is = tt
  collected_among v ws start same begun c es (Ok x) u end is =
      of_list start end (Among c es) (λ w. subst (λ (has : ℕ → Bool). (has w ≡ true) ↔ ((holds start w ≡ true) ⊎ Among c es w)) (sym ends) (among c es (holds start) w))
    where
      ends : holds end ≡ after_all kept (holds start) home c es
      ends = ap (λ s. s.1) (is ∙ ap (λ s. after_all (collected_at weight) s home c es) (began v ws start same begun) ∙ same_all c (holds start) es)

  pub collected_reachable : (v : W) (ws start : List ℕ) → v ≡ weigh → ws ≡ start → {X E : Type 0} (r : Result X E) (u : W) (end : List ℕ)
      → OnOk r (Collected (v, holds ws) (u, holds end)) → OnOk r ((w : ℕ) → Contains end w ↔ (Contains start w ⊎ Reachable w))
  collected_reachable v ws start same begun (Err e) u end is = tt
  collected_reachable v ws start same begun (Ok x) u end is =
      of_list start end Reachable (reachable (holds start) (holds end) (kept_walk (holds start) (u, holds end) (subst (λ (b : W × (ℕ → Bool)). Collected b (u, holds end)) (began v ws start same begun) is)))
