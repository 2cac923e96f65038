-- A walk of two visitors is a walk of each.
use Rattle.std.proofs.Common.{◌≡◌, ℕ, zero, suc, ◌+◌, Bool, true, false, List, [], ◌∷◌, Result, Ok, Err, OnOk, IfOk, refl, sym, ap, ◌∙◌, arith, inl, inr, ◌⊎◌}
use Rattle.icu_table_data.specs.Data.{Data}
use Rattle.icu_table_data.specs.Walks.{CharVisit, after_visits, after_run, after_both, EachOfBlock, IsCovered, IsPassed, Walked}
use Rattle.icu_table_data.proofs.CharacterWalkLemmas.{same_run}

module _ {V W : Type 0} (f : V → Data → ℕ → ℕ → V) (g : W → Data → ℕ → ℕ → W) (falls_back : Bool) (home : Data) where
  visits_of_both : (v : V) (w : W) (visits : List CharVisit) → after_visits (after_both f g) (v, w) home visits ≡ (after_visits f v home visits, after_visits g w home visits)
  visits_of_both v w [] = refl
  visits_of_both v w (p ∷ visits) = visits_of_both (f v home p.char p.entry) (g w home p.char p.entry) visits

  first_each : (visits : List CharVisit) (t : V × W) (c e : ℕ) → IsCovered visits c e ⊎ IsPassed (after_both f g) home t c e → IsCovered visits c e ⊎ IsPassed f home t.0 c e
  first_each visits t c e (inl covered) = inl covered
  first_each visits t c e (inr passed) = inr (record { implicit = passed.implicit; nothing = ap (λ s. s.0) passed.nothing })

  second_each : (visits : List CharVisit) (t : V × W) (c e : ℕ) → IsCovered visits c e ⊎ IsPassed (after_both f g) home t c e → IsCovered visits c e ⊎ IsPassed g home t.1 c e
  second_each visits t c e (inl covered) = inl covered
  second_each visits t c e (inr passed) = inr (record { implicit = passed.implicit; nothing = ap (λ s. s.1) passed.nothing })

  pub first_walked : (v : V) (w : W) (t : V × W) → Walked (after_both f g) falls_back home (v, w) t → Walked f falls_back home v t.0
  first_walked v w t walked = record {
    visits = walked.visits;
    reach = walked.reach;
    adds_up = ap (λ s. s.0) (walked.adds_up ∙ visits_of_both v w walked.visits);
    each = λ c e scalar has. first_each walked.visits t c e (walked.each c e scalar has);
  }

  pub second_walked : (v : V) (w : W) (t : V × W) → Walked (after_both f g) falls_back home (v, w) t → Walked g falls_back home w t.1
  second_walked v w t walked = record {
    visits = walked.visits;
    reach = walked.reach;
    adds_up = ap (λ s. s.1) (walked.adds_up ∙ visits_of_both v w walked.visits);
    each = λ c e scalar has. second_each walked.visits t c e (walked.each c e scalar has);
  }

  -- a walk of two visitors that may fail is a walk of each
  pub on_first : {X E : Type 0} (r : Result X E) (v : V) (w : W) (t : V × W) → OnOk r (Walked (after_both f g) falls_back home (v, w) t) → OnOk r (Walked f falls_back home v t.0)
  on_first (Ok x) v w t walked = first_walked v w t walked
  on_first (Err e) v w t walked = tt

  pub on_second : {X E : Type 0} (r : Result X E) (v : V) (w : W) (t : V × W) → OnOk r (Walked (after_both f g) falls_back home (v, w) t) → OnOk r (Walked g falls_back home w t.1)
  on_second (Ok x) v w t walked = second_walked v w t walked
  on_second (Err e) v w t walked = tt

-- ---- one entry with characters in a row

module _ {V W : Type 0} (f : V → Data → ℕ → ℕ → V) (g : W → Data → ℕ → ℕ → W) (home : Data) (first e : ℕ) where
  run_of_both : (v : V) (w : W) (n : ℕ) → after_run (after_both f g) (v, w) home first e n ≡ (after_run f v home first e n, after_run g w home first e n)
  unfolding after_run
  run_of_both v w zero = refl
  run_of_both v w (suc n) = ap (λ s. after_both f g s home (first + n) e) (run_of_both v w n)

  -- where visits change nothing of the second, the first one visits alone
  pub run_by_first : {X : Type 0} (r : Result Bool X) (v t : V) (w : W) → EachOfBlock first (λ c. g w home c e ≡ w) → IfOk r (λ done. done ≡ true → t ≡ after_run f v home first e 64)
      → IfOk r (λ done. done ≡ true → (t, w) ≡ after_run (after_both f g) (v, w) home first e 64)
  run_by_first (Ok done) v t w passes visits = λ is.
      ap (λ x. (x, w)) (visits is) ∙ ap (λ y. (after_run f v home first e 64, y)) (sym (same_run g false home w first e 64 passes (omega arith))) ∙ sym (run_of_both v w 64)
  run_by_first (Err x) v t w passes visits = tt

  -- where they change nothing of the first, the second one does
  pub run_by_second : {X : Type 0} (r : Result Bool X) (v : V) (w u : W) → EachOfBlock first (λ c. f v home c e ≡ v) → IfOk r (λ done. done ≡ true → u ≡ after_run g w home first e 64)
      → IfOk r (λ done. done ≡ true → (v, u) ≡ after_run (after_both f g) (v, w) home first e 64)
  run_by_second (Ok done) v w u passes visits = λ is.
      ap (λ y. (v, y)) (visits is) ∙ ap (λ x. (x, after_run g w home first e 64)) (sym (same_run f false home v first e 64 passes (omega arith))) ∙ sym (run_of_both v w 64)
  run_by_second (Err x) v w u passes visits = tt

-- what is left as it was, of both
module _ {V W : Type 0} where
  pub left_by_first : {X : Type 0} (r : Result Bool X) (v t : V) (w : W) → IfOk r (λ done. done ≡ false → t ≡ v) → IfOk r (λ done. done ≡ false → ◌≡◌ {A = V × W} (t, w) (v, w))
  left_by_first (Ok done) v t w leaves = λ is. ap (λ x. (x, w)) (leaves is)
  left_by_first (Err x) v t w leaves = tt

  pub left_by_second : {X : Type 0} (r : Result Bool X) (v : V) (w u : W) → IfOk r (λ done. done ≡ false → u ≡ w) → IfOk r (λ done. done ≡ false → ◌≡◌ {A = V × W} (v, u) (v, w))
  left_by_second (Ok done) v w u leaves = λ is. ap (λ y. (v, y)) (leaves is)
  left_by_second (Err x) v w u leaves = tt
