-- Runs of places that are settled one behind another.
use Rattle.std.proofs.Common.{◌≡◌, ◌≢◌, ℕ, ◌+◌, ◌<◌, Bool, false, List, [], ◌∷◌, ◌++◌, append-nil, append_assoc, drop, filter, length, length-drop, map, take, refl, sym, ap, ◌∙◌, arith, subst}
use Rattle.std.proofs.Math.Seq.{drop-drop}
use Rattle.std.proofs.lemmas.List.Elements.{filter-append}
use Rattle.std.proofs.lemmas.List.Sorted.{IsPermutation-append, IsPermutation-map, IsPermutation-refl, ranks_by}
use Rattle.std.proofs.lemmas.Slice.{drop-put_mid, take-put_mid}
use Rattle.std.specs.Cmp.{IsStrictWeakOrder}
use Rattle.std.specs.List.{AllByRecursion}
use Rattle.std.specs.List.Sorted.{IsPermutation, IsSorted, IsStable, ties}
use Rattle.std.specs.Ordering.{is_lt}
use Rattle.icu_order_levels.specs.beginnings.KeyBeginnings.{AreBytes}
use borrow.Rule.Slice.PartMut.{put_mid}
use Rattle.line_sorts.proofs.FrontOrderLemmas.{apart_behind, front_total, stands_behind}
use Rattle.line_sorts.proofs.LineOrderLemmas.{keyed_total}
use Rattle.line_sorts.proofs.LinePlaceLemmas.{second_order}
use Rattle.line_sorts.proofs.MappedOrderLemmas.{all_still, ascends_mapped, stable_mapped}
use Rattle.icu_table_data.proofs.ListLemmas.{all_append, all_first, all_second, weaker}
use Rattle.line_sorts.proofs.RunLemmas.{Follow, Rises, StartsOtherwise, are_alike, rises_across, rises_append, rises_back, rises_sorted, run_and_rest, run_has_some, run_is_some, sorted_rises, starts_otherwise}
use Rattle.line_sorts.specs.KeyBuffers.{LineView, place_pair, pairs_at}
use Rattle.line_sorts.specs.KeyedOrders.{keyed_order}
use Rattle.line_sorts.specs.declared.line_order.Direction.{Direction}
use Rattle.line_sorts.specs.declared.line_order.LineOrder.{LineOrder}
use Rattle.line_sorts.specs.declared.line_places.LinePlace.{LinePlace}
use Rattle.line_sorts.specs.inner.PlaceOrders.{IsLinePlace, front_order, place_order}
use Rattle.line_sorts.specs.inner.SettledPlaces.{IsPlaceOfRun, IsSecondPlace, Settles, first_run, front_of, second_place}

abbrev pub front_less : Direction → LinePlace → LinePlace → Bool
front_less d x y = is_lt (front_order d x y)

abbrev pub key_less : LineOrder → List ℕ × List ℕ → List ℕ × List ℕ → Bool
key_less o x y = is_lt (keyed_order o x y)

pairs_append : (k : LineView) (xs ys : List LinePlace) → pairs_at k (xs ++ ys) ≡ pairs_at k xs ++ pairs_at k ys
pairs_append k [] ys = refl
pairs_append k (x ∷ xs) ys = ap (λ ps. place_pair k x ∷ ps) (pairs_append k xs ys)

all_pairs : (k : LineView) (P : List ℕ × List ℕ → Type 0) (xs : List LinePlace) → AllByRecursion (λ x. P (place_pair k x)) xs → AllByRecursion P (pairs_at k xs)
all_pairs k P [] h = tt
all_pairs k P (x ∷ xs) h = (h.0, all_pairs k P xs h.1)

-- ---- a run stands apart from what follows

later_apart : (d : Direction) (r a : LinePlace) (ys : List LinePlace) → a.front ≢ r.front → front_less d a r ≡ false
    → AllByRecursion (λ y. front_less d y a ≡ false) ys → AllByRecursion (λ y. y.front ≢ r.front) ys
later_apart d r a [] apart h g = tt
later_apart d r a (y ∷ ys) apart h g = (apart_behind d r a y apart h g.0, later_apart d r a ys apart h g.1)

rest_apart : (d : Direction) (f : ℕ) (run after : List LinePlace) → AllByRecursion (λ p. p.front ≡ f) run → 0 < length run
    → StartsOtherwise f after → Rises (front_less d) (run ++ after) → AllByRecursion (λ y. y.front ≢ f) after
rest_apart d f [] after alike some otherwise rises = absurd (omega (arith, some))
rest_apart d f (r ∷ rs) [] alike some otherwise rises = tt
rest_apart d f (r ∷ rs) (a ∷ bs) alike some otherwise rises =
    let behind : front_less d a r ≡ false = (all_second (λ y. front_less d y r ≡ false) rs (a ∷ bs) rises.0).0 in
    let later = (rises_back (front_less d) rs (a ∷ bs) rises.1).0 in
    let apart : a.front ≢ r.front = λ e. otherwise (e ∙ alike.0) in
    (otherwise, weaker (λ y. y.front ≢ r.front) (λ y. y.front ≢ f) (λ y h e. h (e ∙ sym alike.0)) bs (later_apart d r a bs apart behind later))

module _ (k : LineView) (o : LineOrder) where
  weak_keys : IsStrictWeakOrder (key_less o)
  weak_keys = ranks_by (keyed_total o) (λ (x : List ℕ × List ℕ). x)

  weak_fronts : IsStrictWeakOrder (front_less o.direction)
  weak_fronts = ranks_by (front_total o.direction) (λ (p : LinePlace). p)

  behind_one : (f : ℕ) (x : LinePlace) → IsLinePlace k x → x.front ≡ f → (ys : List LinePlace) → AllByRecursion (IsLinePlace k) ys
      → AllByRecursion (λ y. front_less o.direction y x ≡ false) ys → AllByRecursion (λ y. y.front ≢ f) ys
      → AllByRecursion (λ y. key_less o y (place_pair k x) ≡ false) (pairs_at k ys)
  behind_one f x hx e [] right h apart = tt
  behind_one f x hx e (y ∷ ys) right h apart =
      (stands_behind k o y x right.0 hx h.0 (λ same. apart.0 (same ∙ e)), behind_one f x hx e ys right.1 h.1 apart.1)

  behind_run : (f : ℕ) (run after : List LinePlace) → AllByRecursion (IsLinePlace k) run → AllByRecursion (λ p. p.front ≡ f) run
      → AllByRecursion (IsLinePlace k) after → Follow (front_less o.direction) run after → AllByRecursion (λ y. y.front ≢ f) after
      → Follow (key_less o) (pairs_at k run) (pairs_at k after)
  behind_run f [] after hr alike ha follow apart = tt
  behind_run f (x ∷ xs) after hr alike ha follow apart =
      (behind_one f x hr.0 alike.0 after ha follow.0 apart, behind_run f xs after hr.1 alike.1 ha follow.1 apart)

  -- what was settled so far, and what is left
  pub record LeftToSettle (places settled rest : List LinePlace) : Type 0 where
    pub done : List LinePlace
    pub parts : places ≡ done ++ rest
    pub moved : IsPermutation (pairs_at k done) (pairs_at k settled)
    pub rises : Rises (key_less o) (pairs_at k settled)
    pub stable : IsStable (keyed_order o) (pairs_at k done) (pairs_at k settled)
    pub before : Follow (key_less o) (pairs_at k settled) (pairs_at k rest)
    pub right : AllByRecursion (IsLinePlace k) rest
    pub fronts : Rises (front_less o.direction) rest

  pub nothing_settled : (places : List LinePlace) → AllByRecursion (IsLinePlace k) places → IsSorted (front_order o.direction) places
      → LeftToSettle places [] places
  nothing_settled places right sorted = record {
    done = [];
    parts = refl;
    moved = IsPermutation-refl [];
    rises = tt;
    stable = λ z. refl;
    before = tt;
    right = right;
    fronts = sorted_rises (front_less o.direction) weak_fronts places sorted;
  }

  settled_whole : (places settled : List LinePlace) → LeftToSettle places settled [] → Settles k o places settled
  settled_whole places settled h =
      let whole : h.done ≡ places = sym (h.parts ∙ append-nil h.done) in
      record {
        moved = subst (λ (ps : List LinePlace). IsPermutation (pairs_at k ps) (pairs_at k settled)) whole h.moved;
        ascends = rises_sorted (key_less o) (pairs_at k settled) h.rises;
        stable = subst (λ (ps : List LinePlace). IsStable (keyed_order o) (pairs_at k ps) (pairs_at k settled)) whole h.stable;
      }

  pub all_settled : (places settled rest : List LinePlace) → length rest ≡ 0 → LeftToSettle places settled rest → Settles k o places settled
  all_settled places settled [] none h = settled_whole places settled h
  all_settled places settled (r ∷ rs) none h = absurd (omega (arith, none))

  one_more : (places settled run after ys : List LinePlace) (f : ℕ) → LeftToSettle places settled (run ++ after)
      → AllByRecursion (λ p. p.front ≡ f) run → 0 < length run → StartsOtherwise f after → Settles k o run ys
      → LeftToSettle places (settled ++ ys) after
  one_more places settled run after ys f h alike some otherwise s =
      let pair = pairs_append k in
      let less = key_less o in
      let apart = rest_apart o.direction f run after alike some otherwise h.fronts in
      let follow : Follow less (pairs_at k run) (pairs_at k after) =
      behind_run f run after (all_first (IsLinePlace k) run after h.right) alike (all_second (IsLinePlace k) run after h.right)
      (rises_across (front_less o.direction) run after h.fronts) apart in
      let behind : Follow less (pairs_at k settled) (pairs_at k run ++ pairs_at k after) =
      subst (λ (ps : List (List ℕ × List ℕ)). Follow less (pairs_at k settled) ps) (pair run after) h.before in
      record {
        done = h.done ++ run;
        parts = h.parts ∙ sym (append_assoc h.done run after);
        moved = subst (λ (ps : List (List ℕ × List ℕ)). IsPermutation ps (pairs_at k (settled ++ ys))) (sym (pair h.done run))
            (subst (λ (ps : List (List ℕ × List ℕ)). IsPermutation (pairs_at k h.done ++ pairs_at k run) ps) (sym (pair settled ys))
            (IsPermutation-append (pairs_at k h.done) (pairs_at k settled) (pairs_at k run) (pairs_at k ys) h.moved s.moved));
        rises = subst (λ (ps : List (List ℕ × List ℕ)). Rises less ps) (sym (pair settled ys))
            (rises_append less (pairs_at k settled) (pairs_at k ys) h.rises (sorted_rises less weak_keys (pairs_at k ys) s.ascends)
            (weaker (λ x. AllByRecursion (λ y. less y x ≡ false) (pairs_at k run ++ pairs_at k after)) (λ x. AllByRecursion (λ y. less y x ≡ false) (pairs_at k ys))
            (λ x g. all_still (λ y. less y x ≡ false) (pairs_at k run) (pairs_at k ys) s.moved (all_first (λ y. less y x ≡ false) (pairs_at k run) (pairs_at k after) g))
            (pairs_at k settled) behind));
        stable = λ z.
            let tie = ties less z in
            ap (filter tie) (pair settled ys)
            ∙ (filter-append tie (pairs_at k settled) (pairs_at k ys)
            ∙ (ap (λ ps. ps ++ filter tie (pairs_at k ys)) (h.stable z)
            ∙ (ap (λ ps. filter tie (pairs_at k h.done) ++ ps) (s.stable z)
            ∙ (sym (filter-append tie (pairs_at k h.done) (pairs_at k run))
            ∙ ap (filter tie) (sym (pair h.done run))))));
        before = subst (λ (ps : List (List ℕ × List ℕ)). Follow less ps (pairs_at k after)) (sym (pair settled ys))
            (all_append (λ x. AllByRecursion (λ y. less y x ≡ false) (pairs_at k after)) (pairs_at k settled) (pairs_at k ys)
            (weaker (λ x. AllByRecursion (λ y. less y x ≡ false) (pairs_at k run ++ pairs_at k after)) (λ x. AllByRecursion (λ y. less y x ≡ false) (pairs_at k after))
            (λ x g. all_second (λ y. less y x ≡ false) (pairs_at k run) (pairs_at k after) g) (pairs_at k settled) behind)
            (all_still (λ x. AllByRecursion (λ y. less y x ≡ false) (pairs_at k after)) (pairs_at k run) (pairs_at k ys) s.moved follow));
        right = all_second (IsLinePlace k) run after h.right;
        fronts = rises_back (front_less o.direction) run after h.fronts;
      }

  -- a run more
  pub run_more : (places settled rest ys : List LinePlace) (n : ℕ) → n ≡ first_run rest → 0 < length rest
      → LeftToSettle places settled rest → Settles k o (take n rest) ys → LeftToSettle places (settled ++ ys) (drop n rest)
  run_more places settled rest ys n e some h s =
      let f = front_of rest in
      let long : 0 < n = subst (λ m. 0 < m) (sym e) (run_is_some rest some) in
      one_more places settled (take n rest) (drop n rest) ys f
      (subst (λ (ps : List LinePlace). LeftToSettle places settled ps) (sym (run_and_rest n rest)) h)
      (subst (λ m. AllByRecursion (λ p. p.front ≡ f) (take m rest)) (sym e) (are_alike f rest))
      (run_has_some n rest long some)
      (subst (λ m. StartsOtherwise f (drop m rest)) (sym e) (starts_otherwise f rest)) s

  -- a run more, which stands where it stood
  pub run_in_place : (places now ys : List LinePlace) (done n m size : ℕ) → n ≡ first_run (drop done now) → done < length now
      → m ≡ done + n → size ≡ n → length ys ≡ n → LeftToSettle places (take done now) (drop done now) → Settles k o (take n (drop done now)) ys
      → LeftToSettle places (take m (put_mid done size now ys)) (drop m (put_mid done size now ys))
  run_in_place places now ys done n m size e some at long len h s =
      let more = run_more places (take done now) (drop done now) ys n e (omega (arith, length-drop done now)) h s in
      let front : take m (put_mid done size now ys) ≡ take done now ++ ys = take-put_mid done size now ys m (omega arith) (omega arith) in
      let back : drop m (put_mid done size now ys) ≡ drop n (drop done now) =
      drop-put_mid done size now ys m (omega arith) (omega arith) (omega arith) ∙ (ap (λ i. drop i now) at ∙ sym (drop-drop n done now)) in
      subst (λ (ps : List LinePlace). LeftToSettle places ps (drop m (put_mid done size now ys))) (sym front)
      (subst (λ (ps : List LinePlace). LeftToSettle places (take done now ++ ys) ps) (sym back) more)

  both_hold : (f : ℕ) (ps : List LinePlace) → AllByRecursion (IsLinePlace k) ps → AllByRecursion (λ p. p.front ≡ f) ps → AllByRecursion (IsPlaceOfRun k f) ps
  both_hold f [] h g = tt
  both_hold f (p ∷ ps) h g = (record { right = h.0; alike = g.0 }, both_hold f ps h.1 g.1)

  -- the places of the first run begin alike
  pub run_is_right : (places settled rest : List LinePlace) (n : ℕ) → n ≡ first_run rest → LeftToSettle places settled rest
      → (f : ℕ) × AllByRecursion (IsPlaceOfRun k f) (take n rest)
  run_is_right places settled rest n e h =
      let f = front_of rest in
      let right : AllByRecursion (IsLinePlace k) (take n rest ++ drop n rest) =
      subst (λ (ps : List LinePlace). AllByRecursion (IsLinePlace k) ps) (sym (run_and_rest n rest)) h.right in (
        f,
        both_hold f (take n rest) (all_first (IsLinePlace k) (take n rest) (drop n rest) right)
            (subst (λ m. AllByRecursion (λ p. p.front ≡ f) (take m rest)) (sym e) (are_alike f rest)),
      )

  -- ---- a run

  pub short_run : (run : List LinePlace) → length run < 2 → Settles k o run run
  short_run run short = record {
    moved = IsPermutation-refl (pairs_at k run);
    ascends = rises_sorted (key_less o) (pairs_at k run) (few run short);
    stable = λ z. refl;
  } where
    few : (ps : List LinePlace) → length ps < 2 → Rises (key_less o) (pairs_at k ps)
    few [] h = tt
    few (p ∷ []) h = (tt, tt)
    few (p ∷ q ∷ ps) h = absurd (omega (arith, h))

  abbrev HasBytes : LinePlace → Type 0
  HasBytes p = AreBytes (place_pair k p).0

  seconds_are : (f : ℕ) (run : List LinePlace) → AllByRecursion (IsPlaceOfRun k f) run → AllByRecursion HasBytes (map (second_place k) run)
      → AllByRecursion (IsSecondPlace k f) (map (second_place k) run)
  seconds_are f [] h g = tt
  seconds_are f (p ∷ ps) h g =
      (record { second = refl; begins = sym h.0.right.begins ∙ h.0.alike; bytes = g.0 }, seconds_are f ps h.1 g.1)

  same_pairs : (run : List LinePlace) → pairs_at k (map (second_place k) run) ≡ pairs_at k run
  same_pairs [] = refl
  same_pairs (p ∷ ps) = ap (λ qs. place_pair k p ∷ qs) (same_pairs ps)

  pub sorted_run : (f : ℕ) (run seconds ys : List LinePlace) → AllByRecursion (IsPlaceOfRun k f) run → seconds ≡ map (second_place k) run
      → AllByRecursion (λ p. AreBytes (place_pair k p).0) seconds → IsPermutation seconds ys → IsSorted (place_order k o) ys → IsStable (place_order k o) seconds ys → Settles k o run ys
  sorted_run f run seconds ys right e bytes moved sorted stable =
      let pairs : pairs_at k seconds ≡ pairs_at k run = ap (pairs_at k) e ∙ same_pairs run in
      let are : AllByRecursion (IsSecondPlace k f) seconds =
      subst (λ (ps : List LinePlace). AllByRecursion (IsSecondPlace k f) ps) (sym e)
      (seconds_are f run right (subst (λ (ps : List LinePlace). AllByRecursion HasBytes ps) e bytes)) in
      let still = all_still (IsSecondPlace k f) seconds ys moved are in
      record {
        moved = subst (λ (ps : List (List ℕ × List ℕ)). IsPermutation ps (pairs_at k ys)) pairs (IsPermutation-map (place_pair k) seconds ys moved);
        ascends = ascends_mapped (place_pair k) (place_order k o) (keyed_order o) (IsSecondPlace k f) (second_order k o f) ys still sorted;
        stable = subst (λ (ps : List (List ℕ × List ℕ)). IsStable (keyed_order o) ps (pairs_at k ys)) pairs
            (stable_mapped (place_pair k) (place_order k o) (keyed_order o) (IsSecondPlace k f) (second_order k o f) (keyed_total o) seconds ys are still moved stable);
      }
