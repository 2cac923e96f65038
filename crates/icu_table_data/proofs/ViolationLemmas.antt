-- Which violation a walk reports, by any judge, and the judge of a root or a tailoring alone: the first condition that
-- an entry fails.
use Rattle.std.proofs.Common.{◌≡◌, ℕ, zero, suc, ◌+◌, ◌<◌, ◌≤◌, Bool, true, false, not, List, [], ◌∷◌, ◌⊎◌, Option, Some, None, if◌then◌else◌, refl, sym, ap, ◌∙◌, subst, IfSome, IsTrue, ◌↔◌, nat_lt, inl, inr, arith, lit≤}
use Rattle.std.proofs.lemmas.Bool.{and_parts, and_from, not-false, not-true}
use Rattle.std.proofs.lemmas.Bool.Decides.{nat_tests}
use Rattle.std.specs.Prelude.{find}
use Rattle.std.specs.List.{AllByRecursion, Contains}
use Rattle.icu_table_data.specs.Data.{Data}
use Rattle.icu_table_data.specs.declared.reachable_condition.ReachableCondition.{ReachableCondition}
use Rattle.icu_table_data.specs.declared.reachable_condition.ReachableCondition.TheVariants.{Indices, PrefixMappings, Chains, Digits, Bytes, Offsets, Shapes, Leads, Primaries}
use Rattle.icu_table_data.specs.Reachable.{AreAlike, reachable_at, EachReachable}
use Rattle.icu_table_data.specs.ReachableConditions.{meets, reachable_conditions, first_failing, EachMeets, IsWellFormedData}
use Rattle.icu_table_data.specs.DataConditions.{is_inside, is_readable, has_known_members, fits_offset}
use Rattle.icu_table_entries.specs.EntryConditions.{has_known_byte}
use Rattle.icu_table_data.specs.Walks.{CharVisit, after_all, after_run, after_visits, IsCovered, IsPassed, Walked}
use Rattle.icu_table_data.specs.Violations.{condition_rank, earlier, ComesFirst, IsViolationAmong, IsReachableViolation}
use Rattle.icu_table_data.specs.inner.Visitors.{judged}
use Rattle.icu_table_data.proofs.ListLemmas.{weaker, all_of, all_members, of_member}
use Rattle.icu_table_data.proofs.WalkLemmas.{fold_keeps, fold_back, walk_keeps, walk_back}

-- ---- the first member that passes a test

-- members in the order of their ranks, from this rank on
abbrev Ascends : {X : Type 0} → (X → ℕ) → ℕ → List X → Type 0
Ascends rank n [] = Unit {0}
Ascends rank n (x ∷ xs) = (n ≤ rank x) × Ascends rank (rank x) xs

-- none of these has a lesser rank
none_before : {X : Type 0} (rank : X → ℕ) (P : X → Type 0) (f : X) (n : ℕ) (xs : List X) → rank f ≤ n → Ascends rank n xs
    → AllByRecursion (λ x. rank x < rank f → P x) xs
none_before rank P f n [] high up = tt
none_before rank P f n (x ∷ xs) high up =
    let least : n ≤ rank x = up.0 in (λ less. absurd (omega arith), none_before rank P f (rank x) xs (omega arith) up.1)

of_first : {X : Type 0} (P : X → Type 0) (A : Type 0) (b : Bool) (x : X) (o : Option X) → IfSome (if b then Some x else o) P
    → (P x → A) → (b ≡ false → IfSome o P → A) → A
of_first P A true x o h here later = here h
of_first P A false x o h here later = later refl h

-- those of a lesser rank than the first one that passes don't pass
find_before : {X : Type 0} (rank : X → ℕ) (p : X → Bool) (f : X) (n : ℕ) (xs : List X) → Ascends rank n xs
    → IfSome (find p xs) (λ g. rank f ≤ rank g) → AllByRecursion (λ x. rank x < rank f → p x ≡ false) xs
find_before rank p f n [] up h = tt
find_before rank p f n (x ∷ xs) up h =
    of_first (λ g. rank f ≤ rank g) _ (p x) x (find p xs) h
    (λ high. (λ less. absurd (omega arith), none_before rank (λ y. p y ≡ false) f (rank x) xs high up.1))
    (λ fails rest. (λ less. fails, find_before rank p f (rank x) xs up.1 rest))

find_if : {X : Type 0} (P : X → Type 0) (b : Bool) (x : X) (o : Option X) → (b ≡ true → P x) → IfSome o P → IfSome (if b then Some x else o) P
find_if P true x o p q = p refl
find_if P false x o p q = q

pub find_passes : {X : Type 0} (p : X → Bool) (xs : List X) → IfSome (find p xs) (λ x. p x ≡ true)
find_passes p [] = tt
find_passes p (x ∷ xs) = find_if (λ y. p y ≡ true) (p x) x (find p xs) (λ h. h) (find_passes p xs)

none_if : {X : Type 0} (b : Bool) (x : X) (o : Option X) → (if b then Some x else o) ≡ None → (b ≡ false) × (o ≡ None)
none_if true x o h = cc
none_if false x o h = (refl, h)

pub find_none : {X : Type 0} (p : X → Bool) (xs : List X) → find p xs ≡ None → AllByRecursion (λ x. p x ≡ false) xs
find_none p [] h = tt
find_none p (x ∷ xs) h = let both = none_if (p x) x (find p xs) h in (both.0, find_none p xs both.1)

skipped : {X : Type 0} (b : Bool) (x : X) (o : Option X) → b ≡ false → (if b then Some x else o) ≡ o
skipped true x o h = cc
skipped false x o h = refl

pub none_found : {X : Type 0} (p : X → Bool) → ((x : X) → p x ≡ false) → (xs : List X) → find p xs ≡ None
none_found p fails [] = refl
none_found p fails (x ∷ xs) = skipped (p x) x (find p xs) (fails x) ∙ none_found p fails xs

pub negated : (b : Bool) → b ≡ true → not b ≡ false
negated true h = refl
negated false h = cc

-- ---- one entry

abbrev pub Fails : Data → ℕ → ℕ → ReachableCondition → Type 0
Fails home c e condition = meets condition home c e ≡ false

-- what holds of each condition of the list holds of each condition
listed : (P : ReachableCondition → Type 0) → AllByRecursion P reachable_conditions → (condition : ReachableCondition) → P condition
listed P all Indices = all.0
listed P all PrefixMappings = all.1.0
listed P all Chains = all.1.1.0
listed P all Digits = all.1.1.1.0
listed P all Bytes = all.1.1.1.1.0
listed P all Offsets = all.1.1.1.1.1.0
listed P all Shapes = all.1.1.1.1.1.1.0
listed P all Leads = all.1.1.1.1.1.1.1.0
listed P all Primaries = all.1.1.1.1.1.1.1.1.0

listed_meets : (home : Data) (c e : ℕ) → AllByRecursion (λ condition. not (meets condition home c e) ≡ false) reachable_conditions → (condition : ReachableCondition) → IsTrue (meets condition home c e)
listed_meets home c e all condition =
    not-false (meets condition home c e) (listed (λ other. not (meets other home c e) ≡ false) all condition)

pub passes_meets : (home : Data) (c e : ℕ) → first_failing home c e ≡ None → (condition : ReachableCondition) → IsTrue (meets condition home c e)
unfolding first_failing
passes_meets home c e h = listed_meets home c e (find_none (λ condition. not (meets condition home c e)) reachable_conditions h)

pub meets_passes : (home : Data) (c e : ℕ) → ((condition : ReachableCondition) → IsTrue (meets condition home c e)) → first_failing home c e ≡ None
unfolding first_failing
meets_passes home c e all = none_found (λ condition. not (meets condition home c e)) (λ condition. negated (meets condition home c e) (all condition)) reachable_conditions

pub weaker_some : {X : Type 0} (P Q : X → Type 0) → ((x : X) → P x → Q x) → (o : Option X) → IfSome o P → IfSome o Q
weaker_some P Q f None h = tt
weaker_some P Q f (Some x) h = f x h

pub failing_fails : (home : Data) (c e : ℕ) → IfSome (first_failing home c e) (Fails home c e)
unfolding first_failing
failing_fails home c e =
    weaker_some _ (Fails home c e) (λ condition h. not-true (meets condition home c e) h) _ (find_passes (λ condition. not (meets condition home c e)) reachable_conditions)

-- where no entry fails a condition of a lesser rank, each condition of a lesser rank is met
conditions_ascend : Ascends condition_rank 0 reachable_conditions
conditions_ascend =
    (lit≤ tt, (lit≤ tt, (lit≤ tt, (lit≤ tt, (lit≤ tt, (lit≤ tt, (lit≤ tt, (lit≤ tt, (lit≤ tt, tt)))))))))

pub meets_before : (home : Data) (c e : ℕ) (first other : ReachableCondition) → condition_rank other < condition_rank first
    → ComesFirst condition_rank first (first_failing home c e) → IsTrue (meets other home c e)
unfolding first_failing
meets_before home c e first other less h =
    let all : AllByRecursion (λ x. condition_rank x < condition_rank first → not (meets x home c e) ≡ false) reachable_conditions
    = find_before condition_rank (λ x. not (meets x home c e)) first 0 reachable_conditions conditions_ascend h in
    not-false (meets other home c e) (listed (λ x. condition_rank x < condition_rank first → not (meets x home c e) ≡ false) all other less)

-- an entry that meets each condition can be read
pub meets_readable : (home : Data) (c e : ℕ) → ((condition : ReachableCondition) → IsTrue (meets condition home c e)) → IsTrue (is_readable home c e)
unfolding is_readable
meets_readable home c e all =
    let bytes = and_parts (has_known_byte e) (has_known_members home e) (all Bytes) in
    and_from _ (fits_offset home c e) (and_from (is_inside home e) (has_known_members home e) (all Indices) bytes.1) (all Offsets)

some_itself : {X : Type 0} (o : Option X) → IfSome o (λ x. o ≡ Some x)
some_itself None = tt
some_itself (Some x) = refl

-- ---- the earlier of two

module _ {F : Type 0} (rank : F → ℕ) where
  some_if : (b : Bool) (x y : F) → (if b then Some x else Some y) ≡ None → ⊥
  some_if true x y h = cc
  some_if false x y h = cc

  pub earlier-none : (a b : Option F) → earlier rank a b ≡ None → (a ≡ None) × (b ≡ None)
  unfolding earlier
  earlier-none None b h = (refl, h)
  earlier-none (Some a) None h = cc
  earlier-none (Some a) (Some b) h = absurd (some_if (nat_lt (rank b) (rank a)) b a h)

  earlier-same : (a : Option F) → earlier rank a None ≡ a
  unfolding earlier
  earlier-same None = refl
  earlier-same (Some a) = refl

  -- where there is no violation, what was judged stays
  pub judges_nothing : {J : Type 0} (violation : J → Data → ℕ → ℕ → Option F) (s : J × Option F) (home : Data) (c e : ℕ) → violation s.0 home c e ≡ None → judged rank violation s home c e ≡ s
  judges_nothing violation s home c e none = ap (λ f. (s.0, earlier rank s.1 f)) none ∙ ap (λ a. (s.0, a)) (earlier-same s.1)

  -- ---- one violation of characters in a row

  same_if : (t : Bool) (x : F) → ◌≡◌ {A = Option F} (if t then Some x else Some x) (Some x)
  same_if true x = refl
  same_if false x = refl

  with_itself : (x : F) → earlier rank (Some x) (Some x) ≡ Some x
  unfolding earlier
  with_itself x = same_if (nat_lt (rank x) (rank x)) x

  again_by : (t : Bool) (a b : F) → nat_lt (rank b) (rank a) ≡ t → earlier rank (if t then Some b else Some a) (Some b) ≡ (if t then Some b else Some a)
  unfolding earlier
  again_by true a b is = with_itself b
  again_by false a b is = rw is refl

  earlier-again : (a b : Option F) → earlier rank (earlier rank a b) b ≡ earlier rank a b
  unfolding earlier
  earlier-again None None = refl
  earlier-again None (Some b) = with_itself b
  earlier-again (Some a) None = refl
  earlier-again (Some a) (Some b) = again_by (nat_lt (rank b) (rank a)) a b refl

  run_once : {J : Type 0} (violation : J → Data → ℕ → ℕ → Option F) (j : J) (a : Option F) (home : Data) (first e n : ℕ) → n < 64
      → ((c : ℕ) → first ≤ c → c < first + 64 → violation j home c e ≡ violation j home first e) → after_run (judged rank violation) (j, a) home first e (suc n) ≡ (j, earlier rank a (violation j home first e))
  unfolding after_run
  run_once violation j a home first e zero h alike = ap (λ v. (j, earlier rank a v)) (alike (first + 0) (omega arith) (omega arith))
  run_once violation j a home first e (suc n) h alike =
      ap (λ s. judged rank violation s home (first + suc n) e) (run_once violation j a home first e n (omega (arith, h)) alike)
      ∙ ap (λ v. (j, earlier rank (earlier rank a (violation j home first e)) v)) (alike (first + suc n) (omega arith) (omega (arith, h)))
      ∙ ap (λ o. (j, o)) (earlier-again a (violation j home first e))

  -- the first of them is as good as all
  pub judged_run : {J : Type 0} (violation : J → Data → ℕ → ℕ → Option F) (j : J) (a found : Option F) (home : Data) (first e : ℕ) → found ≡ violation j home first e
      → ((c : ℕ) → first ≤ c → c < first + 64 → violation j home c e ≡ violation j home first e) → (j, earlier rank a found) ≡ after_run (judged rank violation) (j, a) home first e 64
  judged_run violation j a found home first e is alike =
      ap (λ v. (j, earlier rank a v)) is ∙ sym (run_once violation j a home first e 63 (omega arith) alike)

  earlier-nothing : (a b : Option F) → a ≡ None → b ≡ None → earlier rank a b ≡ None
  unfolding earlier
  earlier-nothing None b p q = q
  earlier-nothing (Some a) b p q = cc

  choose : (P : F → Type 0) (b : Bool) (x y : F) → P x → P y → IfSome (if b then Some x else Some y) P
  choose P true x y p q = p
  choose P false x y p q = q

  both_after : (b : Bool) (x y : F) (n : ℕ) → nat_lt (rank x) (rank y) ≡ b → IfSome (if b then Some x else Some y) (λ g. n ≤ rank g) → (n ≤ rank x) × (n ≤ rank y)
  both_after true x y n is h = let less : rank x < rank y = grind (arith, nat_tests) in (h, omega arith)
  both_after false x y n is h = let less : rank y ≤ rank x = grind (arith, nat_tests) in (omega arith, h)

  earlier-after : (f : F) (a b : Option F) → ComesFirst rank f (earlier rank a b) → ComesFirst rank f a × ComesFirst rank f b
  unfolding earlier
  earlier-after f None b h = (tt, h)
  earlier-after f (Some a) None h = (h, tt)
  earlier-after f (Some a) (Some b) h =
      let both = both_after (nat_lt (rank b) (rank a)) b a (rank f) refl h in (both.1, both.0)

  comes_first : (o : Option F) → IfSome o (λ f. ComesFirst rank f o)
  comes_first None = tt
  comes_first (Some f) = omega arith

  pub earlier-keeps : (P : F → Type 0) (a b : Option F) → IfSome a P → IfSome b P → IfSome (earlier rank a b) P
  unfolding earlier
  earlier-keeps P None b p q = q
  earlier-keeps P (Some a) None p q = p
  earlier-keeps P (Some a) (Some b) p q = choose P (nat_lt (rank b) (rank a)) b a q p

-- ---- walks with any judge

module _ {J F : Type 0} (rank : F → ℕ) (violation : J → Data → ℕ → ℕ → Option F) (judge : J) (falls_back : Bool) (home : Data) where
  abbrev kept : Option F → Data → ℕ → ℕ → Option F
  kept first home c e = earlier rank first (violation judge home c e)

  -- a walk keeps the judge
  same_all : (c : ℕ) (o : Option F) (es : List ℕ) → after_all (judged rank violation) (judge, o) home c es ≡ (judge, after_all kept o home c es)
  same_all c o [] = refl
  same_all c o (e ∷ es) = same_all c (kept o home c e) es

  same_visits : (o : Option F) (visits : List CharVisit) → after_visits (judged rank violation) (judge, o) home visits ≡ (judge, after_visits kept o home visits)
  same_visits o [] = refl
  same_visits o (p ∷ visits) = same_visits (kept o home p.char p.entry) visits

  abbrev Judged : J × Option F → J × Option F → Type 0
  Judged = Walked (judged rank violation) falls_back home

  -- a walk of a judge is a walk of the violation that is kept
  kept_walk : (o : Option F) (s : J × Option F) → Judged (judge, o) s → Walked kept falls_back home o s.1
  kept_walk o s w = record { visits = w.visits; reach = w.reach; adds_up = ap (λ s. s.1) is; each = λ c e scalar has. each c e (w.each c e scalar has) }
    where
      is : s ≡ (judge, after_visits kept o home w.visits)
      is = w.adds_up ∙ same_visits o w.visits

      nothing : (c e : ℕ) (s : J × Option F) → s.0 ≡ judge → judged rank violation s home c e ≡ s → kept s.1 home c e ≡ s.1
      nothing c e s same h = subst (λ j. earlier rank s.1 (violation j home c e) ≡ s.1) same (ap (λ s. s.1) h)

      each : (c e : ℕ) → IsCovered w.visits c e ⊎ IsPassed (judged rank violation) home s c e → IsCovered w.visits c e ⊎ IsPassed kept home s.1 c e
      each c e (inl covered) = inl covered
      each c e (inr passed) = inr (record { implicit = passed.implicit; nothing = nothing c e s (ap (λ s. s.0) is) passed.nothing })

  -- none is found exactly if there is none
  abbrev Passes : ℕ → ℕ → Type 0
  Passes c e = violation judge home c e ≡ None

  none_at : (c e : ℕ) (o : Option F) → kept o home c e ≡ None → (o ≡ None) × Passes c e
  none_at c e o h = earlier-none rank o (violation judge home c e) h

  none_on : (c e : ℕ) → Passes c e → (o : Option F) → o ≡ None → kept o home c e ≡ None
  none_on c e p o h = earlier-nothing rank o (violation judge home c e) h p

  none_among : (c : ℕ) (es : List ℕ) (o : Option F) → (after_all kept o home c es ≡ None) ↔ ((o ≡ None) × AllByRecursion (Passes c) es)
  none_among c es o = (
    fold_back (λ o e. kept o home c e) (λ o. o ≡ None) (Passes c) es (all_of _ (none_at c) es) o,
    λ both. fold_keeps (λ o e. kept o home c e) (λ o. o ≡ None) es (weaker (Passes c) _ (none_on c) es both.1) o both.0,
  )

  abbrev IsAlike : Type 0
  IsAlike = (c d e f : ℕ) → AreAlike e f → violation judge home c e ≡ violation judge home d f

  none_reachable : IsAlike → (o end : Option F) → Walked kept falls_back home o end → (end ≡ None) ↔ ((o ≡ None) × EachReachable Passes falls_back home)
  none_reachable alike o end w = (
    walk_back kept falls_back home (λ o. o ≡ None) Passes none_at (λ c d e f same passes. sym (alike d c f e same) ∙ passes) o end w,
    λ both. walk_keeps kept falls_back home (λ o. o ≡ None) (λ c scalar. weaker (Passes c) _ (none_on c) (reachable_at falls_back home c) (both.1 c scalar)) o end w both.0,
  )

  -- a violation that is found is that of an entry
  abbrev Among : ℕ → List ℕ → F → Type 0
  Among c es = IsViolationAmong (violation judge) home c es

  found_at : (P : F → Type 0) (c : ℕ) (es : List ℕ) → ((f : F) → Among c es f → P f) → AllByRecursion (λ e. (o : Option F) → IfSome o P → IfSome (kept o home c e) P) es
  found_at P c es into =
      weaker (Contains es) (λ e. (o : Option F) → IfSome o P → IfSome (kept o home c e) P)
      (λ e reachable o p.
      let one : IfSome (violation judge home c e) P = weaker_some (λ f. violation judge home c e ≡ Some f) P (λ f found. into f (record { e = e; reachable = reachable; found = found })) (violation judge home c e) (some_itself (violation judge home c e)) in
      earlier-keeps rank P o (violation judge home c e) p one) es (all_members es)

  some_among : (c : ℕ) (es : List ℕ) (o : Option F) → IfSome (after_all kept o home c es) (λ f. (o ≡ Some f) ⊎ Among c es f)
  some_among c es o =
      let P : F → Type 0 = λ f. (o ≡ Some f) ⊎ Among c es f in
      fold_keeps (λ o e. kept o home c e) (λ o. IfSome o P) es (found_at P c es (λ f is. inr is)) o (weaker_some _ P (λ f is. inl is) o (some_itself o))

  some_reachable : (o end : Option F) → Walked kept falls_back home o end → IfSome end (λ f. (o ≡ Some f) ⊎ IsReachableViolation (violation judge) falls_back home f)
  some_reachable o end w =
      let P : F → Type 0 = λ f. (o ≡ Some f) ⊎ IsReachableViolation (violation judge) falls_back home f in
      walk_keeps kept falls_back home (λ o. IfSome o P)
      (λ c scalar. found_at P c (reachable_at falls_back home c) (λ f is. inr (record { c = c; scalar = scalar; among = is }))) o end w (weaker_some _ P (λ f is. inl is) o (some_itself o))

  -- none has a lesser rank than one that is found
  least_at : (f : F) (c e : ℕ) (o : Option F) → ComesFirst rank f (kept o home c e) → ComesFirst rank f o × ComesFirst rank f (violation judge home c e)
  least_at f c e o h = earlier-after rank f o (violation judge home c e) h

  abbrev After : F → ℕ → ℕ → Type 0
  After f c e = ComesFirst rank f (violation judge home c e)

  least_among : (c : ℕ) (es : List ℕ) (o : Option F) → IfSome (after_all kept o home c es) (λ f. ComesFirst rank f o × AllByRecursion (After f c) es)
  least_among c es o =
      let end = after_all kept o home c es in
      weaker_some (λ f. ComesFirst rank f end) _
      (λ f h. fold_back (λ o e. kept o home c e) (ComesFirst rank f) (After f c) es (all_of _ (least_at f c) es) o h) end (comes_first rank end)

  least_reachable : IsAlike → (o end : Option F) → Walked kept falls_back home o end → IfSome end (λ f. ComesFirst rank f o × EachReachable (After f) falls_back home)
  least_reachable alike o end w =
      weaker_some (λ f. ComesFirst rank f end) _
      (λ f h. walk_back kept falls_back home (ComesFirst rank f) (After f) (least_at f) (λ c d e g same first. subst (ComesFirst rank f) (alike d c g e same) first) o end w h) end (comes_first rank end)

  -- what a walk with this judge, which began with one violation, comes to
  pub record FirstAmong (c : ℕ) (es : List ℕ) (o found : Option F) : Type 0 where
    pub nothing : (found ≡ None) ↔ ((o ≡ None) × AllByRecursion (Passes c) es)
    pub some : IfSome found (λ f. (o ≡ Some f) ⊎ Among c es f)
    pub least : IfSome found (λ f. ComesFirst rank f o × AllByRecursion (After f c) es)

  pub first_among : (c : ℕ) (es : List ℕ) (o : Option F) (s : J × Option F) → s ≡ after_all (judged rank violation) (judge, o) home c es → FirstAmong c es o s.1
  first_among c es o s is =
      subst (λ (s : J × Option F). FirstAmong c es o s.1) (sym (is ∙ same_all c o es))
      (record { nothing = none_among c es o; some = some_among c es o; least = least_among c es o })

  pub record FirstReachable (o found : Option F) : Type 0 where
    pub nothing : (found ≡ None) ↔ ((o ≡ None) × EachReachable Passes falls_back home)
    pub some : IfSome found (λ f. (o ≡ Some f) ⊎ IsReachableViolation (violation judge) falls_back home f)
    pub least : IfSome found (λ f. ComesFirst rank f o × EachReachable (After f) falls_back home)

  pub first_reachable : IsAlike → (o : Option F) (s : J × Option F) → Judged (judge, o) s → FirstReachable o s.1
  first_reachable alike o s walked =
      let w = kept_walk o s walked in
      record { nothing = none_reachable alike o s.1 w; some = some_reachable o s.1 w; least = least_reachable alike o s.1 w }

-- where none was found before, one that is found is new
pub not_before : {F : Type 0} (f : F) (A : Type 0) → ((None ≡ Some f) ⊎ A) → A
not_before f A (inl is) = cc
not_before f A (inr new) = new

-- ---- a root or a tailoring alone

abbrev FirstPasses : Data → ℕ → ℕ → Type 0
FirstPasses home c e = first_failing home c e ≡ None

module _ (falls_back : Bool) (home : Data) where
  -- each condition of each entry, and each entry of each condition
  all_pass : (c : ℕ) (es : List ℕ) → ((condition : ReachableCondition) → AllByRecursion (λ e. IsTrue (meets condition home c e)) es) → AllByRecursion (FirstPasses home c) es
  all_pass c [] all = tt
  all_pass c (e ∷ es) all =
      (meets_passes home c e (λ condition. (all condition).0), all_pass c es (λ condition. (all condition).1))

  -- no entry fails a condition exactly if each meets each
  pub well_formed_data : EachReachable (λ c e. first_failing home c e ≡ None) falls_back home ↔ IsWellFormedData falls_back home
  well_formed_data = (
    λ each. record {
      each = λ condition c scalar. weaker (FirstPasses home c) _ (λ e p. passes_meets home c e p condition) (reachable_at falls_back home c) (each c scalar);
    },
    λ well_formed. λ c scalar. all_pass c (reachable_at falls_back home c) (λ condition. well_formed.each condition c scalar),
  )

  clash : (b : Bool) → b ≡ true → b ≡ false → ⊥
  clash true p q = cc
  clash false p q = cc

  -- a condition that a reachable entry fails isn't met by each
  pub refutes : (condition : ReachableCondition) → IsReachableViolation first_failing falls_back home condition → ¬ (EachMeets condition falls_back home)
  refutes condition is each =
      let among = is.among in
      let met : IsTrue (meets condition home is.c among.e) = of_member (λ e. IsTrue (meets condition home is.c e)) _ among.e (each is.c is.scalar) among.reachable in
      let fails : meets condition home is.c among.e ≡ false = subst (λ o. IfSome o (Fails home is.c among.e)) among.found (failing_fails home is.c among.e) in
      clash (meets condition home is.c among.e) met fails

  -- each condition that is reported before the first violation's is met
  pub met_before : (condition : ReachableCondition) → EachReachable (λ c e. ComesFirst condition_rank condition (first_failing home c e)) falls_back home
      → (other : ReachableCondition) → condition_rank other < condition_rank condition → EachMeets other falls_back home
  met_before condition least other less c scalar =
      weaker (λ e. ComesFirst condition_rank condition (first_failing home c e)) (λ e. IsTrue (meets other home c e))
      (λ e h. meets_before home c e condition other less h) (reachable_at falls_back home c) (least c scalar)
