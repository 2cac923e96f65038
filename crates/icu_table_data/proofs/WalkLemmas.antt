-- A walk over characters: what each of its visits keeps it keeps, and what its end says goes back to each entry that is
-- reachable.
use Rattle.std.proofs.Common.{◌≡◌, ℕ, Bool, true, false, ◌==◌, ◌&&◌, List, [], ◌∷◌, if◌then◌else◌, refl, sym, ap, ◌∙◌, subst, arith, fold, Result, Ok, Err, OnOk, inl, inr, ◌⊎◌}
use Rattle.std.proofs.lemmas.Bool.Decides.{nat_tests}
use Rattle.std.specs.List.{AllByRecursion, Contains}
use Rattle.icu_table_data.specs.Data.{Data}
use Rattle.icu_table_entries.specs.declared.entry.EntryKind.{EntryKind}
use Rattle.icu_table_entries.specs.declared.entry.EntryKind.TheVariants.{Fallback, Implicit}
use Rattle.icu_table_entries.specs.Entries.{kind_of}
use Rattle.icu_table_data.specs.Reachable.{AreAlike, reachable_digit, reachable_contraction, reachable_from, reachable_at, EachReachable}
use Rattle.icu_table_data.specs.Walks.{CharVisit, visit_of, IsReachableVisit, IsCovered, IsPassed, Walked}
use Rattle.icu_table_data.proofs.ListLemmas.{all_of, all_members, of_member, weaker}

-- ---- what a fold keeps, and what its end says of each step

module _ {S X : Type 0} (step : S → X → S) where
  pub fold_keeps : (I : S → Type 0) (xs : List X) → AllByRecursion (λ x. (s : S) → I s → I (step s x)) xs → (s : S) → I s → I (fold step s xs)
  fold_keeps I [] all s i = i
  fold_keeps I (x ∷ xs) all s i = fold_keeps I xs all.1 (step s x) (all.0 s i)

  pub fold_back : (J : S → Type 0) (Q : X → Type 0) (xs : List X) → AllByRecursion (λ x. (s : S) → J (step s x) → J s × Q x) xs → (s : S) → J (fold step s xs) → J s × AllByRecursion Q xs
  fold_back J Q [] all s j = (j, tt)
  fold_back J Q (x ∷ xs) all s j =
      let later = fold_back J Q xs all.1 (step s x) j in let here = all.0 s later.0 in (here.0, (here.1, later.1))

-- ---- an entry for an implicit weight leads to nothing else

fallback_kind : kind_of 0xC0 ≡ Fallback
unfolding kind_of
fallback_kind = refl

pub isnt_fallback : (k : EntryKind) (e : ℕ) → (Fallback ≡ k → ⊥) → kind_of e ≡ k → (e == 0xC0) ≡ false
isnt_fallback k e differ is = by_test (e == 0xC0) refl
  where
    same : (e : ℕ) → (e == 0xC0) ≡ true → e ≡ 0xC0
    same e h = grind (arith, nat_tests)

    by_test : (b : Bool) → (e == 0xC0) ≡ b → b ≡ false
    by_test false h = refl
    by_test true h = absurd (differ (sym fallback_kind ∙ ap kind_of (sym (same e h)) ∙ is))

digit_alone : (home : Data) (e : ℕ) → kind_of e ≡ Implicit → reachable_digit home e ≡ e ∷ []
unfolding reachable_digit
digit_alone home e is = rw (is, reachable_digit) refl

contraction_alone : (home : Data) (e : ℕ) → kind_of e ≡ Implicit → reachable_contraction home e ≡ e ∷ []
unfolding reachable_contraction
contraction_alone home e is = rw (is, reachable_contraction) (digit_alone home e is)

alone : (home : Data) (e : ℕ) → kind_of e ≡ Implicit → reachable_from home e ≡ e ∷ []
unfolding reachable_from
alone home e is = rw (is, reachable_from) (contraction_alone home e is)

not_implicit : Fallback ≡ Implicit → ⊥
not_implicit h = cc

pub kept : (a b : Bool) (e : ℕ) (es : List ℕ) → b ≡ false → (if a && b then [] else es) ≡ es
kept true b e es h = rw h refl
kept false b e es h = refl

pub implicit_alone : (falls_back : Bool) (home : Data) (c : ℕ) → kind_of (home.value c) ≡ Implicit → reachable_at falls_back home c ≡ home.value c ∷ []
implicit_alone falls_back home c is = kept falls_back (home.value c == 0xC0) (home.value c) (reachable_from home (home.value c)) (isnt_fallback Implicit (home.value c) not_implicit is) ∙ alone home (home.value c) is

-- ---- the same of a walk

module _ {S : Type 0} (after : S → Data → ℕ → ℕ → S) (falls_back : Bool) (home : Data) where
  pub walk_keeps : (I : S → Type 0) → EachReachable (λ c e. (s : S) → I s → I (after s home c e)) falls_back home → (s t : S) → Walked after falls_back home s t → I s → I t
  walk_keeps I each s t w i =
      subst I (sym w.adds_up)
      (fold_keeps (λ s (p : CharVisit). after s home p.char p.entry) I w.visits
      (weaker (IsReachableVisit falls_back home) (λ (p : CharVisit). (s : S) → I s → I (after s home p.char p.entry))
      (λ p r. of_member (λ e. (s : S) → I s → I (after s home p.char e)) (reachable_at falls_back home p.char) p.entry (each p.char r.scalar) r.reachable) w.visits w.reach) s i)

  pub walk_back : (J : S → Type 0) (Q : ℕ → ℕ → Type 0) → ((c e : ℕ) (s : S) → J (after s home c e) → J s × Q c e)
      → ((c d e f : ℕ) → AreAlike f e → Q d f → Q c e) → (s t : S) → Walked after falls_back home s t → J t → J s × EachReachable Q falls_back home
  walk_back J Q turn alike s t w j =
      let both : J s × AllByRecursion (λ (p : CharVisit). Q p.char p.entry) w.visits =
      fold_back (λ s (p : CharVisit). after s home p.char p.entry) J (λ (p : CharVisit). Q p.char p.entry) w.visits
      (all_of (λ (p : CharVisit). (s : S) → J (after s home p.char p.entry) → J s × Q p.char p.entry) (λ p. turn p.char p.entry) w.visits) s (subst J w.adds_up j) in
      (both.0, λ c scalar. weaker (Contains (reachable_at falls_back home c)) (Q c) (λ e has. covered_or_passed both.1 c e (w.each c e scalar has)) (reachable_at falls_back home c) (all_members (reachable_at falls_back home c)))
    where
      covered_or_passed : AllByRecursion (λ (p : CharVisit). Q p.char p.entry) w.visits → (c e : ℕ) → IsCovered w.visits c e ⊎ IsPassed after home t c e → Q c e
      covered_or_passed all c e (inl (inl shared)) =
          alike c shared.other.char e shared.other.entry shared.alike (of_member (λ (p : CharVisit). Q p.char p.entry) w.visits shared.other all shared.among)
      covered_or_passed all c e (inl (inr exact)) = of_member (λ (p : CharVisit). Q p.char p.entry) w.visits (visit_of c e) all exact
      covered_or_passed all c e (inr passed) = (turn c e t (subst J (sym passed.nothing) j)).1

-- what follows where a call ends well
pub on_ok : {X E : Type 0} (A B : Type 0) → (A → B) → (r : Result X E) → OnOk r A → OnOk r B
on_ok A B f (Ok x) h = f h
on_ok A B f (Err e) h = tt
