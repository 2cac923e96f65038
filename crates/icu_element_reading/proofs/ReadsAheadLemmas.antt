-- Reading ahead in steps.
use Rattle.std.proofs.Common.{◌≡◌, ◌⊎◌, ◌≤◌, ◌<◌, not, if◌then◌else◌, length-append, ℕ, zero, suc, Bool, true, false, length, drop, Some, None, IsTrue, arith, List, [], ◌∷◌, ◌++◌, Option, is_some, refl, sym, ap, subst, ◌∙◌, append_assoc, append-nil, inl, inr}
use Rattle.std.specs.Prelude.{⊤, option_to_list}
use Rattle.std.specs.List.{list_any}
use Rattle.std.proofs.lemmas.Bool.{false≢true, or_left, or_right}
use Rattle.icu_element_reading.specs.declared.decomposed_source.DecomposedSource.{DecomposedSource}
use Rattle.icu_element_reading.specs.inner.Iterating.{StillReads}
use Rattle.icu_element_reading.specs.inner.ReadsAhead.{ReadsTo, ReadsMore, ReadsOne, IsBegun}

no_tail : (xs ys : List ℕ) → [] ≡ xs ++ ys → ys ≡ []
no_tail [] ys h = sym h
no_tail (x ∷ xs) ys h = cc

either_end : (Was Is : List ℕ → Type 0) (middle more longer left before : List ℕ) → ((more : List ℕ) → Was middle → Was (middle ++ more)) → longer ≡ middle ++ more → before ≡ more ++ left
    → Was middle ⊎ (before ≡ []) → Is longer ⊎ (left ≡ []) → (Was longer × Is longer) ⊎ (left ≡ [])
either_end Was Is middle more longer left before stays grown split (inl was) (inl is) = inl (subst Was (sym grown) (stays more was), is)
either_end Was Is middle more longer left before stays grown split (inr none) (inl is) = inr (no_tail more left (sym none ∙ split))
either_end Was Is middle more longer left before stays grown split w (inr none) = inr none

-- a character that is appended stands behind those that there were
any_pushed : (p : ℕ → Bool) (n : ℕ) (xs : List ℕ) (c : ℕ) → n ≤ length xs → p c ≡ true → list_any p (drop n (xs ++ c ∷ [])) ≡ true
any_pushed p zero [] c inside is = or_left (p c) false is
any_pushed p (suc n) [] c inside is = absurd (omega (arith, inside))
any_pushed p zero (x ∷ xs) c inside is = or_right (p x) _ (any_pushed p zero xs c (omega arith) is)
any_pushed p (suc n) (x ∷ xs) c inside is = any_pushed p n xs c (omega (arith, inside)) is

module _ {I : Type 0} (steps : I → Option ℕ → I → Type 0) where
  -- nothing was read
  pub ReadsTo-none : (Is : List ℕ → Type 0) (s : DecomposedSource I) (text : List ℕ) → Is text → ReadsTo steps Is s text s text
  ReadsTo-none Is s text is = record { more = []; grown = sym (append-nil text); at = λ cs h. (cs, refl, h, inl is) }

  -- one character was read
  pub ReadsMore-one : (old new : DecomposedSource I) (text longer : List ℕ) (c : ℕ) → longer ≡ text ++ c ∷ []
      → ((cs : List ℕ) → StillReads steps old cs → (rest : List ℕ) × (cs ≡ c ∷ rest) × StillReads steps new rest) → ReadsMore steps old text new longer
  ReadsMore-one old new text longer c pushed came = record {
    more = c ∷ [];
    grown = pushed;
    at = λ cs h. let next = came cs h in (next.0, next.1, next.2, inl tt);
  }

  -- where a fact implies a weaker one, so does reading on until it holds
  pub ReadsTo-weaker : (Is Was : List ℕ → Type 0) (old new : DecomposedSource I) (text longer : List ℕ) → (Was longer → Is longer) → ReadsTo steps Was old text new longer → ReadsTo steps Is old text new longer
  ReadsTo-weaker Is Was old new text longer f reads = record {
    more = reads.more;
    grown = reads.grown;
    at = λ cs h.
        let to = reads.at cs h in (
          to.0,
          to.1,
          to.2,
          elim to.3 [
            | inl was ↦ inl (f was)
            | inr none ↦ inr none
          ],
        );
  }

  -- first so far, and then further
  pub ReadsTo-then : (Is Was : List ℕ → Type 0) (old mid new : DecomposedSource I) (text middle longer : List ℕ) → ((more : List ℕ) → Was middle → Was (middle ++ more))
      → ReadsTo steps Was old text mid middle → ReadsTo steps Is mid middle new longer → ReadsTo steps (λ l. Was l × Is l) old text new longer
  ReadsTo-then Is Was old mid new text middle longer stays first second = record {
    more = first.more ++ second.more;
    grown = second.grown ∙ ap (λ l. l ++ second.more) first.grown ∙ append_assoc text first.more second.more;
    at = λ cs h.
        let to = first.at cs h in
        let on = second.at to.0 to.2 in (
          on.0,
          to.1 ∙ ap (λ l. first.more ++ l) on.1 ∙ sym (append_assoc first.more second.more on.0),
          on.2,
          either_end Was Is middle second.more longer on.0 to.0 stays second.grown on.1 to.3 on.3,
        );
  }

-- ---- one character

pub one_came : {I : Type 0} (steps : I → Option ℕ → I → Type 0) (old new : DecomposedSource I) (text longer : List ℕ) (c : ℕ) → longer ≡ text ++ c ∷ []
    → ((cs : List ℕ) → StillReads steps old cs → (rest : List ℕ) × (cs ≡ c ∷ rest) × StillReads steps new rest) → ReadsOne steps (Some c) old text new longer
one_came steps old new text longer c pushed came =
    (ReadsTo-weaker steps (λ _. IsTrue true) (λ _. ⊤) old new text longer (λ _. refl) (ReadsMore-one steps old new text longer c pushed came), pushed)

pub none_came : {I : Type 0} (steps : I → Option ℕ → I → Type 0) (old new : DecomposedSource I) (text : List ℕ)
    → ((cs : List ℕ) → StillReads steps old cs → (cs ≡ []) × StillReads steps new []) → ReadsOne steps None old text new text
none_came steps old new text ended = (
  record {
    more = [];
    grown = sym (append-nil text);
    at = λ cs h. let end = ended cs h in ([], end.0, end.1, inr refl);
  },
  sym (append-nil text),
)

-- the text has not become shorter
pub ReadsTo-longer : {I : Type 0} (steps : I → Option ℕ → I → Type 0) (Is : List ℕ → Type 0) (old new : DecomposedSource I) (text longer : List ℕ) → ReadsTo steps Is old text new longer → length text ≤ length longer
ReadsTo-longer steps Is old new text longer reads = omega (arith, ap length reads.grown, length-append text reads.more)

-- ---- a loop that reads on

-- the text is as it is to be
pub so_far_is : {I : Type 0} (steps : I → Option ℕ → I → Type 0) (old now : DecomposedSource I) (text middle : List ℕ) (Is : List ℕ → Type 0) → ReadsMore steps old text now middle → Is middle → ReadsTo steps Is old text now middle
so_far_is steps old now text middle Is so_far is = ReadsTo-weaker steps Is (λ _. ⊤) old now text middle (λ _. is) so_far

module _ {I : Type 0} (steps : I → Option ℕ → I → Type 0) (old now new : DecomposedSource I) (text middle longer : List ℕ) (so_far : ReadsMore steps old text now middle) where
  -- it was read on to what it is to be
  pub so_far_to : (Is : List ℕ → Type 0) → ReadsTo steps Is now middle new longer → ReadsTo steps Is old text new longer
  so_far_to Is reads =
      ReadsTo-weaker steps Is (λ l. ⊤ × Is l) old new text longer (λ both. both.1)
      (ReadsTo-then steps Is (λ _. ⊤) old now new text middle longer (λ more t. t) so_far reads)

  -- so it was, where the source had no more
  pub so_far_all : (Is : List ℕ → Type 0) (found : Option ℕ) → found ≡ None → ReadsOne steps found now middle new longer → ReadsTo steps Is old text new longer
  so_far_all Is found none reads =
      so_far_to Is (ReadsTo-weaker steps Is (λ _. IsTrue (is_some found)) now new middle longer (λ some. absurd (false≢true (sym (ap is_some none) ∙ some))) reads.0)

  -- one more came
  pub so_far_more : (found : Option ℕ) → ReadsOne steps found now middle new longer → ReadsMore steps old text new longer
  so_far_more found reads = so_far_to (λ _. ⊤) (ReadsTo-weaker steps (λ _. ⊤) (λ _. IsTrue (is_some found)) now new middle longer (λ _. tt) reads.0)

  -- one that passes came, behind so many
  pub so_far_found : (p : ℕ → Bool) (from : ℕ) (found : Option ℕ) (c : ℕ) → found ≡ Some c → ReadsOne steps found now middle new longer → from ≤ length middle → p c ≡ true → ReadsTo steps (λ l. list_any p (drop from l) ≡ true) old text new longer
  so_far_found p from found c some reads inside is =
      let pushed : longer ≡ middle ++ c ∷ [] = reads.1 ∙ ap (λ o. middle ++ option_to_list o) some in
      so_far_is steps old new text longer (λ l. list_any p (drop from l) ≡ true) (so_far_more found reads)
      (subst (λ l. list_any p (drop from l) ≡ true) (sym pushed) (any_pushed p from middle c inside is))

-- ---- what a character that came says

some_begins : (found : Option ℕ) (text longer : List ℕ) → longer ≡ text ++ option_to_list found → IsTrue (is_some found) → 0 < length longer
some_begins (Some c) text longer is came = omega (arith, ap length is, length-append text (c ∷ []))
some_begins None text longer is came = absurd (false≢true came)

pub ReadsTo-begun : {I : Type 0} (steps : I → Option ℕ → I → Type 0) (old new : DecomposedSource I) (text longer : List ℕ) (found : Option ℕ) → ReadsOne steps found old text new longer → ReadsTo steps IsBegun old text new longer
ReadsTo-begun steps old new text longer found reads =
    ReadsTo-weaker steps IsBegun (λ _. IsTrue (is_some found)) old new text longer (some_begins found text longer reads.1) reads.0

pub no_digit_there : (continues : Bool) (o : Option ℕ) (d : ℕ) → o ≡ (if continues then Some d else None) → o ≡ None → not continues ≡ true
no_digit_there true o d is none = let clash : Some d ≡ None = sym is ∙ none in cc
no_digit_there false o d is none = refl
