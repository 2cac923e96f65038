-- Weights that are linked, and another one between them.
use Rattle.std.proofs.Common.{◌≡◌, ℕ, zero, suc, ◌<◌, ◌≤◌, true, false, ◌==◌, List, [], ◌∷◌, length, take_while, if◌then◌else◌, inl, inr, ◌⊎◌, Option, Some, None, unwrap_or, refl, ap, sym, ◌∙◌, subst, arith}
use Rattle.std.proofs.lemmas.Bool.{both_ways, cases_Bool, eqb-true, or_parts}
use Rattle.std.proofs.lemmas.List.Sums.{take_while-cons}
use Rattle.icu_rule_meaning.specs.declared.symbolic.SymbolicWeight.{SymbolicWeight}
use Rattle.icu_rule_meaning.specs.declared.symbolic.SymbolicWeight.TheVariants as weights
use Rattle.icu_rule_meaning.specs.SymbolicElements.{is_same_weight, has_tailored_weight}
use Rattle.icu_rule_meaning.specs.WeightTrees.{with_behind, before_from, put_behind}
use Rattle.icu_rule_meaning.specs.RootPositions.{last_weight}
use Rattle.icu_rule_meaning.proofs.TreeLemmas.{same_weight_is}
use Rattle.icu_rule_meaning.specs.declared.weight_tree.stop.Stop.{Stop}
use Rattle.icu_rule_meaning.specs.declared.weight_tree.stop.Stop.TheVariants.{End, Rooted, Tailored}
use Rattle.icu_rule_meaning.specs.weight_tree.inner.LinkStops.{stop_at, stop_weight, is_stop, stands, in_front, rooted_above}
use Rattle.icu_rule_meaning.specs.weight_tree.inner.LinkedOrders.{walk, AreLinked, StandOnce, RootedAscend}
use Rattle.icu_rule_meaning.specs.weight_tree.inner.TailoredSiblings.{first_weight}
use Rattle.icu_rule_meaning.proofs.weight_tree.LinkStopLemmas.{same_stop, itself, same_from, other_way, weight_is, not_end, end_not, stands_first, stands_later, stands_rest, end_stands, less_test, most_test, above_met, above_passed}

-- the walk along links comes by the weights that are linked
pub walk_is : (next prev : Stop → Stop) (o : Stop) (xs : List SymbolicWeight) (n : ℕ) → AreLinked next prev o xs
    → length xs ≤ n → walk n next (next o) ≡ xs
walk_is next prev o [] zero l most = refl
walk_is next prev o [] (suc n) l most = rw l.0 refl
walk_is next prev o (v ∷ xs) zero l most = absurd (omega arith)
walk_is next prev o (weights.Rooted w ∷ xs) (suc n) l most =
    rw l.0 (ap (λ ys. weights.Rooted w ∷ ys) (walk_is next prev (Rooted w) xs n l.2 (omega arith)))
walk_is next prev o (weights.Tailored k ∷ xs) (suc n) l most =
    rw l.0 (ap (λ ys. weights.Tailored k ∷ ys) (walk_is next prev (Tailored k) xs n l.2 (omega arith)))

-- ---- there and back

pub next_of_prev : (next prev : Stop → Stop) (o s : Stop) (xs : List SymbolicWeight) → AreLinked next prev o xs
    → stands s xs ≡ true → next (prev s) ≡ s
next_of_prev next prev o s [] l there =
    let end : s ≡ End = same_stop s End there in
    rw end (rw l.1 l.0)
next_of_prev next prev o s (v ∷ xs) l there = elim (cases_Bool (is_stop s (stop_at v))) [
  | inl e ↦
      let is : s ≡ stop_at v = same_stop s (stop_at v) e in
      rw is (rw l.1 l.0)
  | inr e ↦ next_of_prev next prev (stop_at v) s xs l.2 (stands_rest s v xs e there)
]

pub prev_of_next : (next prev : Stop → Stop) (o : Stop) (xs : List SymbolicWeight) → AreLinked next prev o xs → prev (next o) ≡ o
prev_of_next next prev o [] l = rw l.0 l.1
prev_of_next next prev o (v ∷ xs) l = rw l.0 l.1

pub prev_of_next_at : (next prev : Stop → Stop) (o : Stop) (w : SymbolicWeight) (xs : List SymbolicWeight)
    → AreLinked next prev o xs → stands (stop_at w) xs ≡ true → prev (next (stop_at w)) ≡ stop_at w
prev_of_next_at next prev o w [] l there = absurd (both_ways (is_stop (stop_at w) End) (not_end w) there)
prev_of_next_at next prev o w (v ∷ xs) l there = elim (cases_Bool (is_stop (stop_at w) (stop_at v))) [
  | inl e ↦
      subst (λ q. prev (next q) ≡ q) (sym (same_stop (stop_at w) (stop_at v) e)) (prev_of_next next prev (stop_at v) xs l.2)
  | inr e ↦ prev_of_next_at next prev (stop_at v) w xs l.2 (stands_rest (stop_at w) v xs e there)
]

next_stands_first : (next prev : Stop → Stop) (o : Stop) (xs : List SymbolicWeight) → AreLinked next prev o xs → stands (next o) xs ≡ true
next_stands_first next prev o [] l = rw l.0 refl
next_stands_first next prev o (v ∷ xs) l = stands_first (next o) v xs (same_from (next o) (stop_at v) l.0)

pub next_stands : (next prev : Stop → Stop) (o : Stop) (w : SymbolicWeight) (xs : List SymbolicWeight)
    → AreLinked next prev o xs → stands (stop_at w) xs ≡ true → stands (next (stop_at w)) xs ≡ true
next_stands next prev o w [] l there = absurd (both_ways (is_stop (stop_at w) End) (not_end w) there)
next_stands next prev o w (v ∷ xs) l there = elim (cases_Bool (is_stop (stop_at w) (stop_at v))) [
  | inl e ↦
      stands_later (next (stop_at w)) v xs
      (subst (λ q. stands (next q) xs ≡ true) (sym (same_stop (stop_at w) (stop_at v) e)) (next_stands_first next prev (stop_at v) xs l.2))
  | inr e ↦ stands_later (next (stop_at w)) v xs (next_stands next prev (stop_at v) w xs l.2 (stands_rest (stop_at w) v xs e there))
]

-- what is before a place is where they begin, or stands among them
prev_is_there : (next prev : Stop → Stop) (o s : Stop) (xs : List SymbolicWeight) → AreLinked next prev o xs
    → stands s xs ≡ true → (prev s ≡ o) ⊎ (stands (prev s) xs ≡ true)
prev_is_there next prev o s [] l there = inl (ap prev (same_stop s End there) ∙ l.1)
prev_is_there next prev o s (v ∷ xs) l there = elim (cases_Bool (is_stop s (stop_at v))) [
  | inl e ↦ inl (ap prev (same_stop s (stop_at v) e) ∙ l.1)
  | inr e ↦ (elim (prev_is_there next prev (stop_at v) s xs l.2 (stands_rest s v xs e there)) [
    | inl is ↦ inr (stands_first (prev s) v xs (same_from (prev s) (stop_at v) is))
    | inr later ↦ inr (stands_later (prev s) v xs later)
  ])
]

pub prev_stands : (next prev : Stop → Stop) (s : Stop) (xs : List SymbolicWeight) → AreLinked next prev End xs
    → stands s xs ≡ true → stands (prev s) xs ≡ true
prev_stands next prev s xs l there = elim (prev_is_there next prev End s xs l there) [
  | inl is ↦ subst (λ q. stands q xs ≡ true) (sym is) (end_stands xs)
  | inr later ↦ later
]

-- ---- one more between two places

module _ (next prev next' prev' : Stop → Stop) (p s : Stop) (w : SymbolicWeight)
    (nexts : (q : Stop) → next' q ≡ (if is_stop p q then stop_at w else (if is_stop (stop_at w) q then s else next q)))
    (prevs : (q : Stop) → prev' q ≡ (if is_stop s q then stop_at w else (if is_stop (stop_at w) q then p else prev q)))
    (behind : next p ≡ s) where
  next_kept : (q : Stop) → is_stop p q ≡ false → is_stop (stop_at w) q ≡ false → next' q ≡ next q
  next_kept q a b = nexts q ∙ rw (a, b) refl

  prev_kept : (q : Stop) → is_stop s q ≡ false → is_stop (stop_at w) q ≡ false → prev' q ≡ prev q
  prev_kept q a b = prevs q ∙ rw (a, b) refl

  next_put : (q : Stop) → p ≡ q → next' q ≡ stop_at w
  next_put q e = nexts q ∙ rw (same_from p q e) refl

  prev_put : (q : Stop) → s ≡ q → prev' q ≡ stop_at w
  prev_put q e = prevs q ∙ rw (same_from s q e) refl

  next_new : is_stop p (stop_at w) ≡ false → next' (stop_at w) ≡ s
  next_new a = nexts (stop_at w) ∙ rw (a, itself (stop_at w)) refl

  prev_new : is_stop s (stop_at w) ≡ false → prev' (stop_at w) ≡ p
  prev_new a = prevs (stop_at w) ∙ rw (a, itself (stop_at w)) refl

  -- it isn't behind a place whose next one is another
  not_behind : (o q : Stop) → next o ≡ q → is_stop s q ≡ false → is_stop p o ≡ false
  not_behind o q at other = elim (cases_Bool (is_stop p o)) [
    | inl e ↦ absurd (both_ways (is_stop s q) other (same_from s q (sym behind ∙ (ap next (same_stop p o e) ∙ at))))
    | inr e ↦ e
  ]

  -- weights behind both places stay linked
  frame : (o : Stop) (xs : List SymbolicWeight) → AreLinked next prev o xs → is_stop (stop_at w) o ≡ false
      → stands (stop_at w) xs ≡ false → stands s xs ≡ false → AreLinked next' prev' o xs
  frame o [] l other fresh past =
      (next_kept o (not_behind o End l.0 past) other ∙ l.0, prev_kept End past (not_end w) ∙ l.1)
  frame o (v ∷ xs) l other fresh past =
      let news = or_parts (is_stop (stop_at w) (stop_at v)) (stands (stop_at w) xs) fresh in
      let pasts = or_parts (is_stop s (stop_at v)) (stands s xs) past in (
        next_kept o (not_behind o (stop_at v) l.0 pasts.0) other ∙ l.0,
        prev_kept (stop_at v) pasts.0 news.0 ∙ l.1,
        frame (stop_at v) xs l.2 news.0 news.1 pasts.1,
      )

  pub linked_in_front : (o : Stop) (xs : List SymbolicWeight) → AreLinked next prev o xs → StandOnce xs → is_stop (stop_at w) o ≡ false
      → stands (stop_at w) xs ≡ false → stands s xs ≡ true → prev s ≡ p → AreLinked next' prev' o (in_front s w xs)
  linked_in_front o [] l apart other fresh there before =
      let end : s ≡ End = same_stop s End there in
      let first : p ≡ o = sym before ∙ (ap prev end ∙ l.1) in
      let old : is_stop p (stop_at w) ≡ false = subst (λ q. is_stop q (stop_at w) ≡ false) (sym first) (other_way (stop_at w) o other) in
      let last : is_stop s (stop_at w) ≡ false = subst (λ q. is_stop q (stop_at w) ≡ false) (sym end) (end_not w) in
      (next_put o first, prev_new last ∙ first, (next_new old ∙ end, prev_put End end))
  linked_in_front o (v ∷ xs) l apart other fresh there before =
      let news = or_parts (is_stop (stop_at w) (stop_at v)) (stands (stop_at w) xs) fresh in
      elim (cases_Bool (is_stop s (stop_at v))) [
        | inl e ↦
            let is : s ≡ stop_at v = same_stop s (stop_at v) e in
            let first : p ≡ o = sym before ∙ (ap prev is ∙ l.1) in
            let old : is_stop p (stop_at w) ≡ false = subst (λ q. is_stop q (stop_at w) ≡ false) (sym first) (other_way (stop_at w) o other) in
            let last : is_stop s (stop_at w) ≡ false =
            subst (λ q. is_stop q (stop_at w) ≡ false) (sym is) (other_way (stop_at w) (stop_at v) news.0) in
            let past : stands s xs ≡ false = subst (λ q. stands q xs ≡ false) (sym is) apart.0 in
            rw e (
              next_put o first,
              prev_new last ∙ first,
              (
                next_new old ∙ is,
                prev_put (stop_at v) is,
                frame (stop_at v) xs l.2 news.0 news.1 past,
              ),
            )
        | inr e ↦
            rw e (
              next_kept o (not_behind o (stop_at v) l.0 e) other ∙ l.0,
              prev_kept (stop_at v) e news.0 ∙ l.1,
              linked_in_front (stop_at v) xs l.2 apart.1 news.0 news.1 (stands_rest s v xs e there) before,
            )
      ]

-- ---- directly behind a weight

head_in_front : (next prev : Stop → Stop) (o : Stop) (new : SymbolicWeight) (xs : List SymbolicWeight) → AreLinked next prev o xs
    → in_front (next o) new xs ≡ new ∷ xs
head_in_front next prev o new [] l = refl
head_in_front next prev o new (v ∷ xs) l = rw (same_from (next o) (stop_at v) l.0) refl

head_is_other : (next prev : Stop → Stop) (v : SymbolicWeight) (xs : List SymbolicWeight) → AreLinked next prev (stop_at v) xs
    → stands (stop_at v) xs ≡ false → is_stop (next (stop_at v)) (stop_at v) ≡ false
head_is_other next prev v [] l apart = rw l.0 (end_not v)
head_is_other next prev v (u ∷ xs) l apart =
    let parts = or_parts (is_stop (stop_at v) (stop_at u)) (stands (stop_at v) xs) apart in
    subst (λ q. is_stop q (stop_at v) ≡ false) (sym l.0) (other_way (stop_at v) (stop_at u) parts.0)

-- directly behind a weight is before the one behind it
pub behind_in_front : (next prev : Stop → Stop) (o : Stop) (w new : SymbolicWeight) (xs : List SymbolicWeight)
    → AreLinked next prev o xs → StandOnce xs → prev (next (stop_at w)) ≡ stop_at w → is_stop (stop_at w) o ≡ false
    → stands (stop_at w) xs ≡ true → in_front (next (stop_at w)) new xs ≡ with_behind w new xs
unfolding with_behind
behind_in_front next prev o w new [] l apart back other there = absurd (both_ways (is_stop (stop_at w) End) (not_end w) there)
behind_in_front next prev o w new (v ∷ xs) l apart back other there = elim (cases_Bool (is_stop (stop_at w) (stop_at v))) [
  | inl e ↦
      let same : is_same_weight v w ≡ true = sym (weight_is w v) ∙ e in
      let is : v ≡ w = same_weight_is v w same in
      let further : is_stop (next (stop_at w)) (stop_at v) ≡ false =
      subst (λ u. is_stop (next (stop_at u)) (stop_at v) ≡ false) is (head_is_other next prev v xs l.2 apart.0) in
      let rest : in_front (next (stop_at w)) new xs ≡ new ∷ xs =
      subst (λ u. in_front (next (stop_at u)) new xs ≡ new ∷ xs) is (head_in_front next prev (stop_at v) new xs l.2) in
      rw (same, further) (ap (λ ys. v ∷ ys) rest)
  | inr e ↦
      let same : is_same_weight v w ≡ false = sym (weight_is w v) ∙ e in
      let further : is_stop (next (stop_at w)) (stop_at v) ≡ false = elim (cases_Bool (is_stop (next (stop_at w)) (stop_at v))) [
        | inl t ↦
            absurd (both_ways (is_stop (stop_at w) o) other
            (same_from (stop_at w) o (sym back ∙ (ap prev (same_stop (next (stop_at w)) (stop_at v) t) ∙ l.1))))
        | inr f ↦ f
      ] in
      rw (same, further) (ap (λ ys. v ∷ ys)
      (behind_in_front next prev (stop_at v) w new xs l.2 apart.1 back e (stands_rest (stop_at w) v xs e there)))
]

-- ---- neighbours

weight_there : (u : SymbolicWeight) → stop_weight (stop_at u) ≡ Some u
weight_there (weights.Rooted n) = refl
weight_there (weights.Tailored k) = refl

pub before_is : (next prev : Stop → Stop) (o : Stop) (w : SymbolicWeight) (xs : List SymbolicWeight) → AreLinked next prev o xs
    → stands (stop_at w) xs ≡ true → stop_weight (prev (stop_at w)) ≡ before_from (stop_weight o) w xs
unfolding before_from
before_is next prev o w [] l there = absurd (both_ways (is_stop (stop_at w) End) (not_end w) there)
before_is next prev o w (v ∷ xs) l there = elim (cases_Bool (is_stop (stop_at w) (stop_at v))) [
  | inl e ↦
      let same : is_same_weight v w ≡ true = sym (weight_is w v) ∙ e in
      rw same (ap stop_weight (ap prev (same_stop (stop_at w) (stop_at v) e) ∙ l.1))
  | inr e ↦
      let same : is_same_weight v w ≡ false = sym (weight_is w v) ∙ e in
      rw same (before_is next prev (stop_at v) w xs l.2 (stands_rest (stop_at w) v xs e there)
      ∙ ap (λ last. before_from last w xs) (weight_there v))
]

pub before_absent : (last : Option SymbolicWeight) (w : SymbolicWeight) (xs : List SymbolicWeight) → stands (stop_at w) xs ≡ false
    → before_from last w xs ≡ None
unfolding before_from
before_absent last w [] fresh = refl
before_absent last w (v ∷ xs) fresh =
    let parts = or_parts (is_stop (stop_at w) (stop_at v)) (stands (stop_at w) xs) fresh in
    rw (sym (weight_is w v) ∙ parts.0) (before_absent (Some v) w xs parts.1)

first_is : (next prev : Stop → Stop) (o : Stop) (xs : List SymbolicWeight) → AreLinked next prev o xs
    → stop_weight (next o) ≡ first_weight xs
first_is next prev o [] l = ap stop_weight l.0
first_is next prev o (v ∷ xs) l = ap stop_weight l.0 ∙ weight_there v

pub behind_is : (next prev : Stop → Stop) (o : Stop) (w : SymbolicWeight) (xs : List SymbolicWeight) → AreLinked next prev o xs
    → stands (stop_at w) xs ≡ true → stop_weight (next (stop_at w)) ≡ first_weight (put_behind w xs)
unfolding put_behind
behind_is next prev o w [] l there = absurd (both_ways (is_stop (stop_at w) End) (not_end w) there)
behind_is next prev o w (v ∷ xs) l there = elim (cases_Bool (is_stop (stop_at w) (stop_at v))) [
  | inl e ↦
      rw (sym (weight_is w v) ∙ e) (ap (λ q. stop_weight (next q)) (same_stop (stop_at w) (stop_at v) e)
      ∙ first_is next prev (stop_at v) xs l.2)
  | inr e ↦ rw (sym (weight_is w v) ∙ e) (behind_is next prev (stop_at v) w xs l.2 (stands_rest (stop_at w) v xs e there))
]

pub behind_absent : (w : SymbolicWeight) (xs : List SymbolicWeight) → stands (stop_at w) xs ≡ false → put_behind w xs ≡ []
unfolding put_behind
behind_absent w [] fresh = refl
behind_absent w (v ∷ xs) fresh =
    let parts = or_parts (is_stop (stop_at w) (stop_at v)) (stands (stop_at w) xs) fresh in
    rw (sym (weight_is w v) ∙ parts.0) (behind_absent w xs parts.1)

-- the last weight
pub last_is : (next prev : Stop → Stop) (v other : SymbolicWeight) (o : Stop) (xs : List SymbolicWeight) → AreLinked next prev o xs
    → unwrap_or (stop_weight o) other ≡ v → unwrap_or (stop_weight (prev End)) other ≡ last_weight v xs
last_is next prev v other o [] l at = ap (λ q. unwrap_or (stop_weight q) other) l.1 ∙ at
last_is next prev v other o (u ∷ xs) l at =
    last_is next prev u other (stop_at u) xs l.2 (ap (λ q. unwrap_or q other) (weight_there u))

-- the last of what was tailored directly behind, before the next greater weight of the root
run_end : (next prev : Stop → Stop) (n : ℕ) (v other : SymbolicWeight) (xs : List SymbolicWeight) → AreLinked next prev (stop_at v) xs
    → ((u : ℕ) → stands (Rooted u) xs ≡ true → n < u)
    → unwrap_or (stop_weight (prev (rooted_above n xs))) other ≡ last_weight v (take_while has_tailored_weight xs)
run_end next prev n v other [] l greater = ap (λ q. unwrap_or (stop_weight q) other) l.1 ∙ ap (λ q. unwrap_or q other) (weight_there v)
run_end next prev n v other (weights.Tailored k ∷ xs) l greater =
    run_end next prev n (weights.Tailored k) other xs l.2 (λ u a. greater u (stands_later (Rooted u) (weights.Tailored k) xs a))
    ∙ ap (last_weight v) (sym (take_while-cons has_tailored_weight (weights.Tailored k) xs))
run_end next prev n v other (weights.Rooted u ∷ xs) l greater =
    let more : n < u = greater u (stands_first (Rooted u) (weights.Rooted u) xs (itself (Rooted u))) in
    ap (λ q. unwrap_or (stop_weight (prev q)) other) (above_met n u xs (less_test n u more))
    ∙ (ap (λ q. unwrap_or (stop_weight q) other) l.1 ∙ (ap (λ q. unwrap_or q other) (weight_there v)
    ∙ ap (last_weight v) (sym (take_while-cons has_tailored_weight (weights.Rooted u) xs))))

pub last_behind_is : (next prev : Stop → Stop) (o : Stop) (n : ℕ) (xs : List SymbolicWeight) → AreLinked next prev o xs
    → RootedAscend xs → stands (Rooted n) xs ≡ true
    → unwrap_or (stop_weight (prev (rooted_above n xs))) (weights.Rooted n)
    ≡ last_weight (weights.Rooted n) (take_while has_tailored_weight (put_behind (weights.Rooted n) xs))
unfolding put_behind
last_behind_is next prev o n [] l s there = cc
last_behind_is next prev o n (weights.Tailored k ∷ xs) l s there = last_behind_is next prev (Tailored k) n xs l.2 s there
last_behind_is next prev o n (weights.Rooted v ∷ xs) l s there = elim (cases_Bool (v == n)) [
  | inl e ↦
      let is : v ≡ n = eqb-true v n e in
      let rest : put_behind (weights.Rooted n) (weights.Rooted v ∷ xs) ≡ xs = rw e refl in
      ap (λ q. unwrap_or (stop_weight (prev q)) (weights.Rooted n)) (above_passed n v xs (most_test n v (omega arith)))
      ∙ (run_end next prev n (weights.Rooted v) (weights.Rooted n) xs l.2 (λ u a. let more = s.0 u a in omega arith)
      ∙ (ap (λ u. last_weight (weights.Rooted u) (take_while has_tailored_weight xs)) is
      ∙ ap (λ ys. last_weight (weights.Rooted n) (take_while has_tailored_weight ys)) (sym rest)))
  | inr e ↦
      let further : stands (Rooted n) xs ≡ true = stands_rest (Rooted n) (weights.Rooted v) xs e there in
      let less : v < n = s.0 n further in
      let rest : put_behind (weights.Rooted n) (weights.Rooted v ∷ xs) ≡ put_behind (weights.Rooted n) xs = rw e refl in
      ap (λ q. unwrap_or (stop_weight (prev q)) (weights.Rooted n)) (above_passed n v xs (most_test n v (omega arith)))
      ∙ (last_behind_is next prev (Rooted v) n xs l.2 s.1 further
      ∙ ap (λ ys. last_weight (weights.Rooted n) (take_while has_tailored_weight ys)) (sym rest))
]
