-- A border's place among entries that stand in leaves.
use Rattle.std.proofs.Common.{◌≡◌, ℕ, zero, suc, ◌-◌, ◌<◌, ◌≤◌, Bool, true, false, not, List, [], ◌∷◌, ◌++◌, drop, filter, length, take, get_or, refl, sym, ap, subst, ◌∙◌, arith, append_assoc}
use Rattle.std.proofs.lemmas.List.{append-nil}
use Rattle.std.proofs.lemmas.List.Elements.{filter-append}
use Rattle.std.specs.Global.{Vec}
use Rattle.std.specs.List.{AllByRecursion, AllWithin}
use Rattle.std.specs.List.Sorted.{IsPartitionedBy, IsPartitionPoint}
use Rattle.icu_table_data.proofs.ListLemmas.{all_first, all_second}
use Rattle.icu_index_keys.specs.declared.name_entries.Entry.{Entry}
use Rattle.icu_index_keys.specs.inner.Leaves.{AreFilled, FailsAt, IsInside, IsParted, Parts, PassesBefore, entries_of, leaf_at, leaf_before}

-- ---- a list that a test parts

module _ {X : Type 0} (test : X → Bool) where
  abbrev Passes : X → Type 0
  Passes x = test x ≡ true

  abbrev Fails : X → Type 0
  Fails x = test x ≡ false

  abbrev fails : X → Bool
  fails x = not (test x)

  all_at : (P : X → Type 0) (xs : List X) → AllByRecursion P xs → (k : ℕ) (d : X) → k < length xs → P (get_or xs k d)
  all_at P [] h k d low = absurd (omega arith)
  all_at P (x ∷ xs) h zero d low = h.0
  all_at P (x ∷ xs) h (suc k) d low = all_at P xs h.1 k d (omega arith)

  passed_here : (b : Bool) (x : X) (xs : List X) → test x ≡ b → IsParted test (x ∷ xs) → (j : ℕ) (d : X) → j < length xs → test (get_or xs j d) ≡ true → test x ≡ true
  passed_here true x xs e parted j d low h = e
  passed_here false x xs e parted j d low h = let no = all_at Fails xs (parted.0 e) j d low in absurd (cc)

  pub parted_by : (xs : List X) → IsParted test xs → IsPartitionedBy test xs
  parted_by [] parted i j d le low h = absurd (omega arith)
  parted_by (x ∷ xs) parted zero zero d le low h = h
  parted_by (x ∷ xs) parted zero (suc j) d le low h = passed_here (test x) x xs refl parted j d (omega arith) h
  parted_by (x ∷ xs) parted (suc i) zero d le low h = absurd (omega arith)
  parted_by (x ∷ xs) parted (suc i) (suc j) d le low h = parted_by xs parted.1 i j d (omega arith) (omega arith) h

  -- an element that is there is read alike, whatever stands for one that isn't
  pub same_got : (xs : List X) (i : ℕ) (d e : X) → i < length xs → get_or xs i d ≡ get_or xs i e
  same_got [] i d e low = absurd (omega arith)
  same_got (x ∷ xs) zero d e low = refl
  same_got (x ∷ xs) (suc i) d e low = same_got xs i d e (omega arith)

  still_fails : (xs : List X) (i k : ℕ) (d : X) → IsParted test xs → i ≤ k → k < length xs → test (get_or xs i d) ≡ false → (b : Bool) → test (get_or xs k d) ≡ b → test (get_or xs k d) ≡ false
  still_fails xs i k d parted le low failed false e = e
  still_fails xs i k d parted le low failed true e = let passed = parted_by xs parted i k d le low e in absurd (cc)

  -- a place that an element which passes stands before, and one which fails behind
  pub point_here : (xs : List X) (i : ℕ) → IsParted test xs → i ≤ length xs → PassesBefore test xs i → FailsAt test xs i → IsPartitionPoint Passes Fails xs i
  point_here xs i parted low passes fail = (
    λ k d at below. parted_by xs parted k (i - 1) d (omega arith) (omega arith) (passes d (omega arith)),
    λ k d at below. still_fails xs i k d parted at below (fail d (omega arith)) (test (get_or xs k d)) refl,
  )

  -- ---- what it leaves of a list

  within_all : (P : X → Type 0) (xs : List X) → AllWithin P xs 0 (length xs) → AllByRecursion P xs
  within_all P [] h = tt
  within_all P (x ∷ xs) h = (h 0 x (omega arith) (omega arith), within_all P xs (λ k d low high. h (suc k) d (omega arith) (omega arith)))

  pub none_pass : (xs : List X) → AllByRecursion Fails xs → (filter test xs ≡ []) × (filter fails xs ≡ xs)
  none_pass [] h = (refl, refl)
  none_pass (x ∷ xs) h = let more = none_pass xs h.1 in let e = h.0 in (rw e more.0, rw e (ap (λ ys. x ∷ ys) more.1))

  pub all_pass : (xs : List X) → AllByRecursion Passes xs → (filter test xs ≡ xs) × (filter fails xs ≡ [])
  all_pass [] h = (refl, refl)
  all_pass (x ∷ xs) h = let more = all_pass xs h.1 in let e = h.0 in (rw e (ap (λ ys. x ∷ ys) more.0), rw e more.1)

  pub point_is : (xs : List X) (i : ℕ) → i ≤ length xs → IsPartitionPoint Passes Fails xs i → (take i xs ≡ filter test xs) × (drop i xs ≡ filter fails xs)
  point_is [] zero low h = (refl, refl)
  point_is [] (suc i) low h = (refl, refl)
  point_is (x ∷ xs) zero low h = let none = none_pass (x ∷ xs) (within_all Fails (x ∷ xs) h.1) in (sym none.0, sym none.1)
  point_is (x ∷ xs) (suc i) low h =
      let e = h.0 0 x (omega arith) (omega arith) in
      let more = point_is xs i (omega arith)
      (λ k d at below. h.0 (suc k) d (omega arith) (omega arith), λ k d at below. h.1 (suc k) d (omega arith) (omega arith)) in
      (rw e (ap (λ ys. x ∷ ys) more.0), rw e more.1)

  -- ---- what comes first

  pub parted_second : (xs ys : List X) → IsParted test (xs ++ ys) → IsParted test ys
  parted_second [] ys parted = parted
  parted_second (x ∷ xs) ys parted = parted_second xs ys parted.1

  passes_here : (b : Bool) (x y : X) (xs ys : List X) → test x ≡ b → IsParted test (x ∷ xs ++ y ∷ ys) → test y ≡ true → test x ≡ true
  passes_here true x y xs ys e parted h = e
  passes_here false x y xs ys e parted h = let no = all_second Fails xs (y ∷ ys) (parted.0 e) in let n = no.0 in absurd (cc)

  pub pass_before : (xs : List X) (y : X) (ys : List X) → IsParted test (xs ++ y ∷ ys) → test y ≡ true → AllByRecursion Passes xs
  pass_before [] y ys parted h = tt
  pass_before (x ∷ xs) y ys parted h = (passes_here (test x) x y xs ys refl parted h, pass_before xs y ys parted.1 h)

-- ---- leaves

module _ (test : Entry → Bool) where
  abbrev begins : Vec Entry → Bool
  begins l = leaf_before test l.items

  abbrev FailsHere : Entry → Type 0
  FailsHere e = test e ≡ false

  first_fails : (xs : List Entry) → 0 < length xs → AllByRecursion FailsHere xs → leaf_before test xs ≡ false
  first_fails [] some h = absurd (omega arith)
  first_fails (e ∷ es) some h = h.0

  none_begin : (ls : List (Vec Entry)) → AreFilled ls → AllByRecursion FailsHere (entries_of ls) → AllByRecursion (λ m. begins m ≡ false) ls
  none_begin [] filled h = tt
  none_begin (l ∷ ls) filled h =
      (first_fails l.items filled.0 (all_first FailsHere l.items (entries_of ls) h), none_begin ls filled.1 (all_second FailsHere l.items (entries_of ls) h))

  later_begin : (xs : List Entry) (ls : List (Vec Entry)) → 0 < length xs → AreFilled ls → IsParted test (xs ++ entries_of ls) → leaf_before test xs ≡ false
      → AllByRecursion (λ m. begins m ≡ false) ls
  later_begin [] ls some filled parted h = absurd (omega arith)
  later_begin (e ∷ es) ls some filled parted h = none_begin ls filled (all_second FailsHere es (entries_of ls) (parted.0 h))

  pub leaves_parted : (ls : List (Vec Entry)) → AreFilled ls → IsParted test (entries_of ls) → IsParted begins ls
  leaves_parted [] filled parted = tt
  leaves_parted (l ∷ ls) filled parted =
      (later_begin l.items ls filled.0 filled.1 parted, leaves_parted ls filled.1 (parted_second test l.items (entries_of ls) parted))

  -- entries of which the first fails
  from_failed : (xs ys : List Entry) → 0 < length xs → IsParted test (xs ++ ys) → leaf_before test xs ≡ false → AllByRecursion FailsHere (xs ++ ys)
  from_failed [] ys some parted h = absurd (omega arith)
  from_failed (e ∷ es) ys some parted h = (h, parted.0 h)

  before_passed : (xs ys zs : List Entry) → 0 < length ys → IsParted test (xs ++ (ys ++ zs)) → leaf_before test ys ≡ true → AllByRecursion (λ e. test e ≡ true) xs
  before_passed xs [] zs some parted h = absurd (omega arith)
  before_passed xs (y ∷ ys) zs some parted h = pass_before test xs y (ys ++ zs) parted h

  abbrev IsPoint : List Entry → ℕ → Type 0
  IsPoint xs j = IsPartitionPoint (λ e. test e ≡ true) (λ e. test e ≡ false) xs j

  abbrev IsLeafPoint : List (Vec Entry) → ℕ → Type 0
  IsLeafPoint ls i = IsPartitionPoint (λ l. begins l ≡ true) (λ l. begins l ≡ false) ls i

  abbrev other : Entry → Bool
  other e = not (test e)

  in_first : (l : Vec Entry) (ls : List (Vec Entry)) (j : ℕ) → AllByRecursion FailsHere (entries_of ls) → j ≤ length l.items → IsPoint l.items j → Parts test (l ∷ ls) 0 j
  in_first l ls j none low point =
      let is = point_is test l.items j low point in
      let rest = none_pass test (entries_of ls) none in
      record {
        passes = is.0 ∙ (sym (append-nil (filter test l.items)) ∙ (ap (λ ys. filter test l.items ++ ys) (sym rest.0) ∙ sym (filter-append test l.items (entries_of ls))));
        fails = ap (λ ys. ys ++ entries_of ls) is.1
            ∙ (ap (λ ys. filter other l.items ++ ys) (sym rest.1) ∙ sym (filter-append other l.items (entries_of ls)));
        within = low;
      }

  one_later : (l : Vec Entry) (ls : List (Vec Entry)) (i j : ℕ) → AllByRecursion (λ e. test e ≡ true) l.items → Parts test ls i j → Parts test (l ∷ ls) (suc i) j
  one_later l ls i j all parts =
      let is = all_pass test l.items all in
      record {
        passes = append_assoc l.items (entries_of (take i ls)) (take j (leaf_at ls i))
            ∙ (ap (λ ys. l.items ++ ys) parts.passes ∙ (ap (λ ys. ys ++ filter test (entries_of ls)) (sym is.0) ∙ sym (filter-append test l.items (entries_of ls))));
        fails = parts.fails ∙ (ap (λ ys. ys ++ filter other (entries_of ls)) (sym is.1) ∙ sym (filter-append other l.items (entries_of ls)));
        within = parts.within;
      }

  second_fails : (l m : Vec Entry) (ls : List (Vec Entry)) (i : ℕ) → i ≤ 1 → IsLeafPoint (l ∷ m ∷ ls) i → begins m ≡ false
  second_fails l m ls i low point = point.1 1 l (omega arith) (omega arith)

  abbrev one_less : ℕ → ℕ
  one_less zero = zero
  one_less (suc i) = i

  one_less_is : (i : ℕ) → i - 1 ≡ one_less i
  one_less_is zero = refl
  one_less_is (suc i) = omega arith

  parts_from : (ls : List (Vec Entry)) → AreFilled ls → IsParted test (entries_of ls) → (i : ℕ) → i ≤ length ls → IsLeafPoint ls i
      → (j : ℕ) → j ≤ length (leaf_at ls (one_less i)) → IsPoint (leaf_at ls (one_less i)) j → Parts test ls (one_less i) j
  parts_from [] filled parted zero low leaf zero inside point = record { passes = refl; fails = refl; within = omega arith }
  parts_from [] filled parted zero low leaf (suc j) inside point = absurd (omega arith)
  parts_from [] filled parted (suc i) low leaf j inside point = absurd (omega arith)
  parts_from (l ∷ []) filled parted zero low leaf j inside point = in_first l [] j tt inside point
  parts_from (l ∷ []) filled parted (suc zero) low leaf j inside point = in_first l [] j tt inside point
  parts_from (l ∷ []) filled parted (suc (suc i)) low leaf j inside point = absurd (omega arith)
  parts_from (l ∷ m ∷ ls) filled parted zero low leaf j inside point =
      in_first l (m ∷ ls) j (from_failed m.items (entries_of ls) filled.1.0 (parted_second test l.items (entries_of (m ∷ ls)) parted) (second_fails l m ls 0 (omega arith) leaf)) inside point
  parts_from (l ∷ m ∷ ls) filled parted (suc zero) low leaf j inside point =
      in_first l (m ∷ ls) j (from_failed m.items (entries_of ls) filled.1.0 (parted_second test l.items (entries_of (m ∷ ls)) parted) (second_fails l m ls 1 (omega arith) leaf)) inside point
  parts_from (l ∷ m ∷ ls) filled parted (suc (suc i)) low leaf j inside point =
      let all = before_passed l.items m.items (entries_of ls) filled.1.0 parted (leaf.0 1 l (omega arith) (omega arith)) in
      one_later l (m ∷ ls) i j all
      (parts_from (m ∷ ls) filled.1 (parted_second test l.items (entries_of (m ∷ ls)) parted) (suc i) (omega arith)
      (λ k d at below. leaf.0 (suc k) d (omega arith) (omega arith), λ k d at below. leaf.1 (suc k) d (omega arith) (omega arith)) j inside point)

  pub parts_at : (ls : List (Vec Entry)) → AreFilled ls → IsParted test (entries_of ls) → (i : ℕ) → i ≤ length ls → IsLeafPoint ls i → (n : ℕ) → n ≡ i - 1
      → (j : ℕ) → j ≤ length (leaf_at ls n) → IsPoint (leaf_at ls n) j → Parts test ls n j
  parts_at ls filled parted i low leaf n is j inside point =
      let e : n ≡ one_less i = is ∙ one_less_is i in
      subst (λ k. Parts test ls k j) (sym e)
      (parts_from ls filled parted i low leaf j (subst (λ k. j ≤ length (leaf_at ls k)) e inside) (subst (λ k. IsPoint (leaf_at ls k) j) e point))

-- ---- a leaf by its index

pub leaf_got : (ls : List (Vec Entry)) (i : ℕ) (d : Vec Entry) → i < length ls → leaf_at ls i ≡ (get_or ls i d).items
leaf_got [] i d low = absurd (omega arith)
leaf_got (l ∷ ls) zero d low = refl
leaf_got (l ∷ ls) (suc i) d low = leaf_got ls i d (omega arith)

pub leaf_none : (ls : List (Vec Entry)) (i : ℕ) → length ls ≤ i → leaf_at ls i ≡ []
leaf_none [] i low = refl
leaf_none (l ∷ ls) zero low = absurd (omega arith)
leaf_none (l ∷ ls) (suc i) low = leaf_none ls i (omega arith)

parted_first : {X : Type 0} (test : X → Bool) (xs ys : List X) → IsParted test (xs ++ ys) → IsParted test xs
parted_first test [] ys parted = tt
parted_first test (x ∷ xs) ys parted = (λ e. all_first (λ y. test y ≡ false) xs ys (parted.0 e), parted_first test xs ys parted.1)

pub leaf_parted : (test : Entry → Bool) (ls : List (Vec Entry)) (i : ℕ) → IsParted test (entries_of ls) → IsParted test (leaf_at ls i)
leaf_parted test [] i parted = tt
leaf_parted test (l ∷ ls) zero parted = parted_first test l.items (entries_of ls) parted
leaf_parted test (l ∷ ls) (suc i) parted = leaf_parted test ls i (parted_second test l.items (entries_of ls) parted)

-- ---- a place within a leaf

module _ (test : Entry → Bool) where
  abbrev HereFails : Entry → Type 0
  HereFails e = test e ≡ false

  fail_at : (ls : List (Vec Entry)) (i : ℕ) → AllByRecursion HereFails (entries_of ls) → AllByRecursion HereFails (leaf_at ls i)
  fail_at [] i h = tt
  fail_at (l ∷ ls) zero h = all_first HereFails l.items (entries_of ls) h
  fail_at (l ∷ ls) (suc i) h = fail_at ls i (all_second HereFails l.items (entries_of ls) h)

  fail_behind : (xs ys : List Entry) (j : ℕ) → IsParted test (xs ++ ys) → j < length xs → FailsAt test xs j → AllByRecursion HereFails ys
  fail_behind [] ys j parted low fail = absurd (omega arith)
  fail_behind (x ∷ xs) ys zero parted low fail = all_second HereFails xs ys (parted.0 (fail x (omega arith)))
  fail_behind (x ∷ xs) ys (suc j) parted low fail = fail_behind xs ys j parted.1 (omega arith) (λ d at. fail d (omega arith))

  not_all : (xs : List Entry) (j : ℕ) (d : Entry) → IsInside test xs j → AllByRecursion HereFails xs → ⊥
  not_all xs j d inside h =
      let failed = all_at test HereFails xs h (j - 1) d (omega (arith, inside.low, inside.some)) in
      let passed = inside.passes d inside.some in
      cc

  pass_here : (ls : List (Vec Entry)) (i j : ℕ) (x : Entry) (xs : List Entry) (b : Bool) → test x ≡ b → IsParted test (x ∷ xs ++ entries_of ls) → IsInside test (leaf_at ls i) j → test x ≡ true
  pass_here ls i j x xs true e parted inside = e
  pass_here ls i j x xs false e parted inside = absurd (not_all (leaf_at ls i) j x inside (fail_at ls i (all_second HereFails xs (entries_of ls) (parted.0 e))))

  pass_ahead : (xs : List Entry) (ls : List (Vec Entry)) (i j : ℕ) → IsParted test (xs ++ entries_of ls) → IsInside test (leaf_at ls i) j → AllByRecursion (λ e. test e ≡ true) xs
  pass_ahead [] ls i j parted inside = tt
  pass_ahead (x ∷ xs) ls i j parted inside = (pass_here ls i j x xs (test x) refl parted inside, pass_ahead xs ls i j parted.1 inside)

  pub parts_inside : (ls : List (Vec Entry)) (i j : ℕ) → IsParted test (entries_of ls) → IsInside test (leaf_at ls i) j → Parts test ls i j
  parts_inside [] i j parted inside = let low = inside.low in absurd (omega arith)
  parts_inside (l ∷ ls) zero j parted inside =
      let low : j ≤ length l.items = omega (arith, inside.low) in
      in_first test l ls j (fail_behind l.items (entries_of ls) j parted inside.low inside.fails) low
      (point_here test l.items j (parted_first test l.items (entries_of ls) parted) low inside.passes inside.fails)
  parts_inside (l ∷ ls) (suc i) j parted inside =
      one_later test l ls i j (pass_ahead l.items ls i j parted inside) (parts_inside ls i j (parted_second test l.items (entries_of ls) parted) inside)
