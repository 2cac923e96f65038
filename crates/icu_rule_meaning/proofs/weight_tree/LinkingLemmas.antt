-- Links in a map.
use Rattle.std.proofs.Common.{◌≡◌, ℕ, suc, ◌+◌, ◌<◌, ◌≤◌, ◌^◌, Bool, true, false, ◌||◌, List, [], ◌∷◌, length, if◌then◌else◌, inl, inr, take_while, unwrap_or, Option, Some, None, refl, ap, sym, ◌∙◌, subst, arith}
use Rattle.std.proofs.lemmas.Bool.{cases_Bool, both_ways, or_parts, or_cases}
use Rattle.std.specs.Cmp.{unsigned_tied}
use Rattle.std.specs.Ordering.{is_gt, nat_cmp}
use Rattle.std.specs.declared.cmp.Ordering.{Ordering}
use Rattle.std.specs.declared.cmp.Ordering.TheVariants.{Less, Equal, Greater}
use Rattle.std.specs.declared.ops.Bound.TheVariants.{Excluded, Unbounded}
use Rattle.std.proofs.lemmas.Bool.{lt-ltb}
use Rattle.std.proofs.lemmas.Cmp.{ranked}
use Rattle.std.specs.BTreeMap.{BTreeMap, is_at}
use Rattle.std.specs.BTreeMap.Range.{IsRangeOf, IsEntryInRange, IsInRange, IsLeBy}
use Rattle.std.specs.List.{slice_get}
use Rattle.std.specs.Option.{is_some, IsSome, IfSome}
use Rattle.std.specs.Bool.{OnTrue}
use Rattle.icu_rule_meaning.specs.SymbolicElements.{has_tailored_weight}
use Rattle.icu_rule_meaning.specs.WeightTrees.{with_behind, directly_before, put_behind}
use Rattle.icu_rule_meaning.specs.RootPositions.{last_weight}
use Rattle.icu_rule_meaning.specs.weight_tree.inner.TailoredSiblings.{first_weight}
use Rattle.icu_rule_meaning.specs.declared.symbolic.SymbolicWeight.{SymbolicWeight}
use Rattle.icu_rule_meaning.specs.declared.symbolic.SymbolicWeight.TheVariants as weights
use Rattle.icu_rule_meaning.proofs.TreeLemmas.{same_weight_is}
use Rattle.icu_rule_meaning.specs.weight_tree.inner.SiblingPlaces.{number_in}
use Rattle.icu_rule_meaning.specs.declared.weight_tree.stop.Stop.{Stop}
use Rattle.icu_rule_meaning.specs.declared.weight_tree.stop.Stop.TheVariants.{End, Rooted, Tailored}
use Rattle.icu_rule_meaning.specs.declared.weight_tree.links.Links.{Links}
use Rattle.icu_rule_meaning.specs.weight_tree.inner.LinkStops.{stop_at, stop_weight, standing_weight, rooted_or_end, is_stop, stands, in_front, rooted_above}
use Rattle.icu_rule_meaning.specs.weight_tree.inner.LinkedOrders.{stop_order, LinkList, links_at, next_or_end, prev_or_end, next_in, prev_in, is_linked, linked_weights, AreLinked, StandOnce, RootedAscend, IsChain, SetsNext, SetsPrev, LinksBetween}
use Rattle.icu_rule_meaning.proofs.weight_tree.LinkStopLemmas.{same_stop, same_from, other_way, not_end, stands_in_front, apart_in_front, length_in_front, weight_is, above_found, above_none, ascends_behind_all}
use Rattle.icu_rule_meaning.proofs.weight_tree.LinkLemmas.{walk_is, next_of_prev, prev_of_next_at, next_stands, prev_stands, linked_in_front, behind_in_front, before_is, before_absent, behind_is, behind_absent, last_is, last_behind_is}

-- ---- places in a map

pub both_same : (s t : Stop) → is_stop s t ≡ is_stop t s
both_same s t = elim (cases_Bool (is_stop s t)) [
  | inl e ↦ e ∙ sym (same_from t s (sym (same_stop s t e)))
  | inr e ↦ e ∙ sym (other_way s t e)
]

-- a map takes places as the same that are so
pub at_is : (s q : Stop) → is_at (stop_order s) q ≡ is_stop s q
at_is End End = refl
at_is End (Rooted w) = refl
at_is End (Tailored k) = refl
at_is (Rooted w) End = refl
at_is (Rooted w) (Rooted v) = unsigned_tied w v ∙ both_same (Rooted v) (Rooted w)
at_is (Rooted w) (Tailored k) = refl
at_is (Tailored k) End = refl
at_is (Tailored k) (Rooted w) = refl
at_is (Tailored k) (Tailored j) = unsigned_tied k j ∙ both_same (Tailored j) (Tailored k)

pub if_map : {A B : Type 0} (f : A → B) (b : Bool) (x y : A) → f (if b then x else y) ≡ (if b then f x else f y)
if_map f true x y = refl
if_map f false x y = refl

written : {B : Type 0} (f : Option Links → B) (before after : LinkList) (s : Stop) (l : Links)
    → ((q : Stop) → links_at after q ≡ (if is_at (stop_order s) q then Some l else links_at before q))
    → (q : Stop) → f (links_at after q) ≡ (if is_stop s q then f (Some l) else f (links_at before q))
written f before after s l w q =
    ap f (w q) ∙ (if_map f (is_at (stop_order s) q) (Some l) (links_at before q)
    ∙ ap (λ b. if b then f (Some l) else f (links_at before q)) (at_is s q))

pub one_more : {m n : ℕ} (o : Option Links) → is_some o ≡ false → n ≡ m + (if is_some o then 0 else 1) → n ≡ suc m
one_more {m} {n} o none is =
    let more : m + (if is_some o then 0 else 1) ≡ m + 1 = ap (λ b. m + (if b then 0 else 1)) none in
    omega arith

or_if : (b c : Bool) → (if b then true else c) ≡ (b || c)
or_if true c = refl
or_if false c = refl

pub joined : (es fs gs hs : LinkList) (p new s : Stop)
    → ((q : Stop) → links_at fs q ≡ (if is_at (stop_order new) q then Some (record { prev = p; next = s }) else links_at es q))
    → length fs ≡ suc (length es) → SetsNext fs gs p new → SetsPrev gs hs s new → LinksBetween es hs p new s
joined es fs gs hs p new s w len n m =
    let l : Links = record { prev = p; next = s } in
    record {
      next = λ q. m.next q ∙ (n.next q
          ∙ ap (λ t. if is_stop p q then new else t) (written next_or_end es fs new l w q));
      prev = λ q. m.prev q ∙ ap (λ t. if is_stop s q then new else t) (n.prev q ∙ written prev_or_end es fs new l w q);
      stands = λ q. m.stands q ∙ (n.stands q ∙ (written (λ o. is_some o) es fs new l w q
          ∙ (or_if (is_stop new q) (is_linked es q) ∙ ap (λ b. b || is_linked es q) (both_same new q))));
      len = m.len ∙ (n.len ∙ len);
    }

-- the place that is linked is there
pub linked_at : (es fs : LinkList) (new q : Stop) (l : Links)
    → ((r : Stop) → links_at fs r ≡ (if is_at (stop_order new) r then Some l else links_at es r))
    → is_linked es q ≡ true → is_linked fs q ≡ true
linked_at es fs new q l w there =
    written (λ o. is_some o) es fs new l w q ∙ kept (is_stop new q)
  where
    kept : (b : Bool) → (if b then true else is_linked es q) ≡ true
    kept true = refl
    kept false = there

-- ---- chains

-- links are those of an order, as the walk along them finds it
pub chain_of : (es : LinkList) (xs : List SymbolicWeight) → AreLinked (next_in es) (prev_in es) End xs → StandOnce xs
    → RootedAscend xs → ((s : Stop) → is_linked es s ≡ stands s xs)
    → ((v : SymbolicWeight) → stands (stop_at v) xs ≡ true → number_in v < 2 ^ 32) → length xs < length es
    → (linked_weights es ≡ xs) × IsChain es
chain_of es xs linked apart ascends there small len =
    let is : linked_weights es ≡ xs = walk_is (next_in es) (prev_in es) End xs (length es) linked (omega arith) in (
      is,
      record {
        linked = subst (AreLinked (next_in es) (prev_in es) End) (sym is) linked;
        apart = subst StandOnce (sym is) apart;
        ascends = subst RootedAscend (sym is) ascends;
        known = λ s. there s ∙ ap (stands s) (sym is);
        small = subst (λ ys. (v : SymbolicWeight) → stands (stop_at v) ys ≡ true → number_in v < 2 ^ 32) (sym is) small;
        len = subst (λ ys. length ys < length es) (sym is) len;
      },
    )

-- one place alone, the end
pub alone_chain : (es : LinkList) → es ≡ (End, record { prev = End; next = End }) ∷ [] → (linked_weights es ≡ []) × IsChain es
alone_chain es is = subst (λ (fs : LinkList). (linked_weights fs ≡ []) × IsChain fs) (sym is)
    (chain_of ((End, record { prev = End; next = End }) ∷ []) [] (refl, refl) tt tt there none (omega arith))
  where
    there : (s : Stop) → is_linked ((End, record { prev = End; next = End }) ∷ []) s ≡ stands s []
    there End = refl
    there (Rooted w) = refl
    there (Tailored k) = refl

    none : (v : SymbolicWeight) → stands (stop_at v) [] ≡ true → number_in v < 2 ^ 32
    none v a = absurd (both_ways (is_stop (stop_at v) End) (not_end v) a)

pub weight_of_stop : (w : SymbolicWeight) → standing_weight (stop_at w) ≡ w
weight_of_stop (weights.Rooted w) = refl
weight_of_stop (weights.Tailored k) = refl

pub weight_back : (new : Stop) → is_stop new End ≡ false → stop_at (standing_weight new) ≡ new
weight_back End e = cc
weight_back (Rooted w) e = refl
weight_back (Tailored k) e = refl

new_is_weight : (new : Stop) (xs : List SymbolicWeight) → stands new xs ≡ false → is_stop new End ≡ false
new_is_weight new [] e = e
new_is_weight new (v ∷ xs) e = new_is_weight new xs (or_parts (is_stop new (stop_at v)) (stands new xs) e).1

-- one more weight directly before a place
pub joined_chain : (es fs : LinkList) (new s : Stop) → IsChain es → stands s (linked_weights es) ≡ true
    → stands new (linked_weights es) ≡ false → RootedAscend (in_front s (standing_weight new) (linked_weights es)) → number_in (standing_weight new) < 2 ^ 32 → LinksBetween es fs (prev_in es s) new s
    → (linked_weights fs ≡ in_front s (standing_weight new) (linked_weights es)) × IsChain fs
joined_chain es fs new s c there fresh ascends few j =
    let xs = linked_weights es in
    let w : SymbolicWeight = standing_weight new in
    let p : Stop = prev_in es s in
    let not_last : is_stop new End ≡ false = new_is_weight new xs fresh in
    let is : stop_at w ≡ new = weight_back new not_last in
    let newer : stands (stop_at w) xs ≡ false = ap (λ q. stands q xs) is ∙ fresh in
    let behind : next_in es p ≡ s = next_of_prev (next_in es) (prev_in es) End s xs c.linked there in
    let nexts : (q : Stop) → next_in fs q ≡ (if is_stop p q then stop_at w else (if is_stop (stop_at w) q then s else next_in es q)) =
    λ q. subst (λ t. next_in fs q ≡ (if is_stop p q then t else (if is_stop t q then s else next_in es q))) (sym is) (j.next q) in
    let prevs : (q : Stop) → prev_in fs q ≡ (if is_stop s q then stop_at w else (if is_stop (stop_at w) q then p else prev_in es q)) =
    λ q. subst (λ t. prev_in fs q ≡ (if is_stop s q then t else (if is_stop t q then p else prev_in es q))) (sym is) (j.prev q) in
    let linked : AreLinked (next_in fs) (prev_in fs) End (in_front s w xs) =
    linked_in_front (next_in es) (prev_in es) (next_in fs) (prev_in fs) p s w nexts prevs behind End xs c.linked c.apart (not_end w) newer there refl in
    let all : (q : Stop) → is_linked fs q ≡ stands q (in_front s w xs) =
    λ q. j.stands q ∙ (ap (λ b. is_stop q new || b) (c.known q) ∙ (ap (λ t. is_stop q t || stands q xs) (sym is)
    ∙ sym (stands_in_front q s w xs))) in
    let small : (v : SymbolicWeight) → stands (stop_at v) (in_front s w xs) ≡ true → number_in v < 2 ^ 32 =
    λ v a. elim (or_cases (is_stop (stop_at v) (stop_at w)) (stands (stop_at v) xs) (sym (stands_in_front (stop_at v) s w xs) ∙ a)) [
      | inl same ↦ subst (λ u. number_in u < 2 ^ 32) (same_weight_is w v (sym (weight_is v w) ∙ same)) few
      | inr old ↦ c.small v old
    ] in
    let longer = length_in_front s w xs in
    chain_of fs (in_front s w xs) linked (apart_in_front s w xs c.apart newer) ascends all small (omega (arith, longer, j.len, c.len))

-- the end is where nothing is linked
no_prev : (o : Option Links) → is_some o ≡ false → prev_or_end o ≡ End
no_prev None e = refl
no_prev (Some l) e = cc

no_next : (o : Option Links) → is_some o ≡ false → next_or_end o ≡ End
no_next None e = refl
no_next (Some l) e = cc

module _ (es : LinkList) (c : IsChain es) where
  pub before_found : (w : SymbolicWeight) → stop_weight (prev_in es (stop_at w)) ≡ directly_before w (linked_weights es)
  before_found w = elim (cases_Bool (stands (stop_at w) (linked_weights es))) [
    | inl e ↦ before_is (next_in es) (prev_in es) End w (linked_weights es) c.linked e
    | inr e ↦
        ap stop_weight (no_prev (links_at es (stop_at w)) (c.known (stop_at w) ∙ e)) ∙ sym (before_absent None w (linked_weights es) e)
  ]

  -- a weight whose number is too great isn't there
  far : (w : SymbolicWeight) → 2 ^ 32 ≤ number_in w → stands (stop_at w) (linked_weights es) ≡ false
  far w most = elim (cases_Bool (stands (stop_at w) (linked_weights es))) [
    | inl e ↦ (let small = c.small w e in absurd (omega arith))
    | inr e ↦ e
  ]

  pub before_far : (w : SymbolicWeight) → 2 ^ 32 ≤ number_in w → None ≡ directly_before w (linked_weights es)
  before_far w most = sym (before_absent None w (linked_weights es) (far w most))

  pub behind_found : (w : SymbolicWeight) → stop_weight (next_in es (stop_at w)) ≡ first_weight (put_behind w (linked_weights es))
  behind_found w = elim (cases_Bool (stands (stop_at w) (linked_weights es))) [
    | inl e ↦ behind_is (next_in es) (prev_in es) End w (linked_weights es) c.linked e
    | inr e ↦
        ap stop_weight (no_next (links_at es (stop_at w)) (c.known (stop_at w) ∙ e))
        ∙ ap first_weight (sym (behind_absent w (linked_weights es) e))
  ]

  pub behind_far : (w : SymbolicWeight) → 2 ^ 32 ≤ number_in w → None ≡ first_weight (put_behind w (linked_weights es))
  behind_far w most = ap first_weight (sym (behind_absent w (linked_weights es) (far w most)))

  pub last_found : (other : SymbolicWeight) → unwrap_or (stop_weight (prev_in es End)) other ≡ last_weight other (linked_weights es)
  last_found other = last_is (next_in es) (prev_in es) other other End (linked_weights es) c.linked refl

  pub last_behind_found : (n : ℕ) → stands (Rooted n) (linked_weights es) ≡ true
      → unwrap_or (stop_weight (prev_in es (rooted_above n (linked_weights es)))) (weights.Rooted n)
      ≡ last_weight (weights.Rooted n) (take_while has_tailored_weight (put_behind (weights.Rooted n) (linked_weights es)))
  last_behind_found n there = last_behind_is (next_in es) (prev_in es) End n (linked_weights es) c.linked c.ascends there

  -- directly behind a weight is before the one behind it
  pub put_behind_is : (at : Stop) (new : SymbolicWeight) → is_stop at End ≡ false → stands at (linked_weights es) ≡ true
      → in_front (next_in es at) new (linked_weights es) ≡ with_behind (standing_weight at) new (linked_weights es)
  put_behind_is at new other there =
      let w : SymbolicWeight = standing_weight at in
      let is : stop_at w ≡ at = weight_back at other in
      let here : stands (stop_at w) (linked_weights es) ≡ true = ap (λ q. stands q (linked_weights es)) is ∙ there in
      let back : prev_in es (next_in es (stop_at w)) ≡ stop_at w =
      prev_of_next_at (next_in es) (prev_in es) End w (linked_weights es) c.linked here in
      ap (λ q. in_front (next_in es q) new (linked_weights es)) (sym is)
      ∙ behind_in_front (next_in es) (prev_in es) End w new (linked_weights es) c.linked c.apart back (not_end w) here

  pub next_is_there : (at : Stop) → is_stop at End ≡ false → stands at (linked_weights es) ≡ true → stands (next_in es at) (linked_weights es) ≡ true
  next_is_there at other there =
      let w : SymbolicWeight = standing_weight at in
      let is : stop_at w ≡ at = weight_back at other in
      subst (λ q. stands (next_in es q) (linked_weights es) ≡ true) is
      (next_stands (next_in es) (prev_in es) End w (linked_weights es) c.linked (ap (λ q. stands q (linked_weights es)) is ∙ there))

  pub prev_is_linked : (s : Stop) → stands s (linked_weights es) ≡ true → is_linked es (prev_in es s) ≡ true
  prev_is_linked s there =
      c.known (prev_in es s) ∙ prev_stands (next_in es) (prev_in es) s (linked_weights es) c.linked there

pub none_behind : (n : ℕ) (xs : List SymbolicWeight) → stands (Rooted n) xs ≡ false
    → weights.Rooted n ≡ last_weight (weights.Rooted n) (take_while has_tailored_weight (put_behind (weights.Rooted n) xs))
none_behind n xs fresh =
    ap (λ ys. last_weight (weights.Rooted n) (take_while has_tailored_weight ys)) (sym (behind_absent (weights.Rooted n) xs fresh))

-- ---- the next weight of the root in a map

less_than : (v w : ℕ) → nat_cmp v w ≡ Less → v < w
less_than v w e = ranked v w Less (sym e)

at_most : (v w : ℕ) → is_gt (nat_cmp v w) ≡ false → v ≤ w
at_most v w e = at_most_by (nat_cmp v w) refl e
  where
    at_most_by : (r : Ordering) → r ≡ nat_cmp v w → is_gt r ≡ false → v ≤ w
    at_most_by Less is f = (let less : v < w = ranked v w Less is in omega arith)
    at_most_by Equal is f = (let same : v ≡ w = ranked v w Equal is in omega arith)
    at_most_by Greater is f = cc

less_cmp : (v w : ℕ) → v < w → nat_cmp v w ≡ Less
less_cmp v w less = rw (lt-ltb v w less) refl

not_none : (o : Option Links) → is_some o ≡ true → o ≡ None → ⊥
not_none None e f = cc
not_none (Some l) e f = cc

module _ (m : BTreeMap Stop Links) (c : IsChain m.entries) (n : ℕ) (r : List (Stop × Links))
    (in_range : IsRangeOf stop_order (Excluded (Rooted n)) Unbounded m r) where
  pub above_none_found : r ≡ [] → End ≡ rooted_above n (linked_weights m.entries)
  above_none_found is = above_none n (linked_weights m.entries) (λ u there more.
      not_none (links_at m.entries (Rooted u)) (c.known (Rooted u) ∙ there)
      (in_range.5 is (Rooted u) (less_cmp n u more, tt)))

  pub above_first_found : (s : Stop) (l : Links) (rest : List (Stop × Links)) → r ≡ (s, l) ∷ rest
      → rooted_or_end s ≡ rooted_above n (linked_weights m.entries)
  above_first_found s l rest is =
      by_stop s
      (subst (λ (es : List (Stop × Links)). IfSome (slice_get es 0) (IsEntryInRange stop_order (Excluded (Rooted n)) Unbounded m)) is in_range.1)
      (λ q a b. subst (λ (es : List (Stop × Links)). IfSome (slice_get es 0) (λ e. IsLeBy stop_order e.0 q)) is (in_range.2 q a b))
    where
      by_stop : (t : Stop) → IsEntryInRange stop_order (Excluded (Rooted n)) Unbounded m (t, l)
          → ((q : Stop) → IsInRange stop_order (Excluded (Rooted n)) Unbounded q → IsSome (links_at m.entries q) → IsLeBy stop_order t q)
          → rooted_or_end t ≡ rooted_above n (linked_weights m.entries)
      by_stop End first least = cc first.0.0
      by_stop (Rooted v) first least =
          above_found n v (linked_weights m.entries) c.ascends (sym (c.known (Rooted v)) ∙ ap (λ o. is_some o) first.1)
          (less_than n v first.0.0)
          (λ u there more. at_most v u (least (Rooted u) (less_cmp n u more, tt)
          (c.known (Rooted u) ∙ there)))
      by_stop (Tailored k) first least = above_none n (linked_weights m.entries) (λ u there more.
          cc (least (Rooted u) (less_cmp n u more, tt) (c.known (Rooted u) ∙ there)))

-- ---- a weight behind all others

pub may_push_rooted : (n : ℕ) (xs : List SymbolicWeight) (b : Bool) → b ≡ is_stop (rooted_above n xs) End → stands (Rooted n) xs ≡ false
    → RootedAscend xs → OnTrue b ((stands (Rooted n) xs ≡ false) × RootedAscend (in_front End (weights.Rooted n) xs))
may_push_rooted n xs false e fresh s = tt
may_push_rooted n xs true e fresh s = (fresh, ascends_behind_all n xs fresh s (same_stop (rooted_above n xs) End (sym e)))

pub pushed : (b : Bool) (xs ys : List SymbolicWeight) → b ≡ true → OnTrue b (xs ≡ ys) → xs ≡ ys
pushed true xs ys e is = is
pushed false xs ys e is = cc
