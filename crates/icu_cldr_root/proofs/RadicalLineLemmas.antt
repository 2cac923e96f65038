-- Ideographs of a radical, character by character.
use Rattle.std.proofs.Common.{◌≡◌, ◌≢◌, ℕ, List, [], ◌∷◌, ◌++◌, refl, sym, ap, subst, ◌∙◌, inl, inr, append_assoc}
use Rattle.std.specs.Prelude.{IfOk, Result, Ok, Err}
use Rattle.std.proofs.lemmas.List.{append-nil}
use Rattle.icu_cldr_root.specs.RadicalLines.{WriteIdeographs}
use Rattle.icu_cldr_root.specs.inner.RadicalParts.{Continues, Ends, begun_chars}
use Rattle.icu_cldr_root.specs.declared.ideographs.CharRange.{CharRange}
use Rattle.icu_cldr_root.specs.declared.radical_line.Begun.{Begun}
use Rattle.icu_cldr_root.specs.declared.radical_line.Begun.TheVariants.{Nothing, First, Joined}

-- nothing was read
pub continues_same : (old new : List CharRange) (front left : List ℕ) → new ≡ old → left ≡ front → Continues old front new left
continues_same old new front left same is rest more h = (
  [],
  same ∙ sym (append-nil old),
  subst (λ cs. WriteIdeographs (cs ++ rest) more) is h,
)

-- a character by itself was read, and another one that is no `-` is left
pub continues_one : (old new : List CharRange) (r : CharRange) (first c : ℕ) → r.first ≡ first → r.last ≡ first → c ≢ 45
    → new ≡ old ++ r ∷ [] → Continues old (first ∷ c ∷ []) new (c ∷ [])
unfolding WriteIdeographs
continues_one old new r first c begins ends other adds rest more h = (
  r ∷ [],
  adds,
  (c ∷ rest, inr (ap (λ x. x ∷ c ∷ rest) (sym begins), ends ∙ sym begins, λ behind is. other (head_of c 45 rest behind is)), h),
) where
  head_of : (a b : ℕ) (xs ys : List ℕ) → a ∷ xs ≡ b ∷ ys → a ≡ b
  head_of a b xs ys is = cc

-- two characters with `-` between were read
pub continues_range : (old new : List CharRange) (r : CharRange) (first last : ℕ) → r.first ≡ first → r.last ≡ last
    → new ≡ old ++ r ∷ [] → Continues old (first ∷ 45 ∷ last ∷ []) new []
unfolding WriteIdeographs
continues_range old new r first last begins ends adds rest more h = (
  r ∷ [],
  adds,
  (rest, inl (ap (λ x. x ∷ 45 ∷ last ∷ rest) (sym begins) ∙ ap (λ x. r.first ∷ 45 ∷ x ∷ rest) (sym ends)), h),
)

-- a character behind the first one of a range
pub read_first : (old new : List CharRange) (begun : Begun) (first c : ℕ) → begun ≡ First first → c ≢ 45
    → ((r : CharRange) × (r.first ≡ first) × (r.last ≡ first) × (new ≡ old ++ r ∷ []))
    → Continues old (begun_chars begun ++ c ∷ []) new (c ∷ [])
read_first old new begun first c is other (r, begins, ends, adds) =
    subst (λ (b : Begun). Continues old (begun_chars b ++ c ∷ []) new (c ∷ [])) (sym is) (continues_one old new r first c begins ends other adds)

-- a character behind `-`
pub read_joined : (old new : List CharRange) (begun : Begun) (first c : ℕ) → begun ≡ Joined first
    → ((r : CharRange) × (r.first ≡ first) × (r.last ≡ c) × (new ≡ old ++ r ∷ []))
    → Continues old (begun_chars begun ++ c ∷ []) new []
read_joined old new begun first c is (r, begins, ends, adds) =
    subst (λ (b : Begun). Continues old (begun_chars b ++ c ∷ []) new []) (sym is) (continues_range old new r first c begins ends adds)

-- a character by itself was read, and none is left
pub ends_one : (old new : List CharRange) (r : CharRange) (first : ℕ) → r.first ≡ first → r.last ≡ first
    → new ≡ old ++ r ∷ [] → Ends old (first ∷ []) new
unfolding WriteIdeographs
ends_one old new r first begins ends adds = (
  r ∷ [],
  adds,
  ([], inr (ap (λ x. x ∷ []) (sym begins), ends ∙ sym begins, λ behind is. cc), refl),
)

-- none was left
pub ends_none : (old new : List CharRange) → new ≡ old → Ends old [] new
unfolding WriteIdeographs
ends_none old new same = ([], same ∙ sym (append-nil old), refl)

-- no range is begun
pub ends_nothing : (old : List CharRange) (begun : Begun) → begun ≡ Nothing → Ends old (begun_chars begun) old
ends_nothing old begun is = subst (λ (b : Begun). Ends old (begun_chars b) old) (sym is) (ends_none old old refl)

-- a range of one character is begun, and it is pushed unless there is no memory
pub ends_first : {T E : Type 0} (result : Result T E) (old new : List CharRange) (begun : Begun) (first : ℕ) → begun ≡ First first
    → IfOk result (λ _. (r : CharRange) × (r.first ≡ first) × (r.last ≡ first) × (new ≡ old ++ r ∷ []))
    → IfOk result (λ _. Ends old (begun_chars begun) new)
ends_first (Err e) old new begun first is pushed = tt
ends_first (Ok x) old new begun first is (r, begins, ends, adds) =
    subst (λ (b : Begun). Ends old (begun_chars b) new) (sym is) (ends_one old new r first begins ends adds)

module _ (cs front : List ℕ) (old : List CharRange) where
  -- one character more
  pub reads_more : (new : List CharRange) (left rest : List ℕ) (c : ℕ) (steps : List ℕ) → steps ≡ c ∷ rest → Continues old (front ++ c ∷ []) new left
      → ((more : List CharRange) → WriteIdeographs (front ++ steps) more → WriteIdeographs cs (old ++ more))
      → (more : List CharRange) → WriteIdeographs (left ++ rest) more → WriteIdeographs cs (new ++ more)
  reads_more new left rest c steps is continues reads more h =
      let found = continues rest more h in
      let here : WriteIdeographs (front ++ steps) (found.0 ++ more) =
      subst (λ xs. WriteIdeographs xs (found.0 ++ more)) (append_assoc front (c ∷ []) rest ∙ ap (λ xs. front ++ xs) (sym is)) found.2 in
      subst (WriteIdeographs cs) (sym (ap (λ rs. rs ++ more) found.1 ∙ append_assoc old found.0 more)) (reads (found.0 ++ more) here)

  -- no character is left
  pub reads_end : (new : List CharRange) (steps : List ℕ) → steps ≡ [] → Ends old front new
      → ((more : List CharRange) → WriteIdeographs (front ++ steps) more → WriteIdeographs cs (old ++ more)) → WriteIdeographs cs new
  reads_end new steps none (added, is, writes) reads =
      subst (WriteIdeographs cs) (sym is)
      (reads added (subst (λ xs. WriteIdeographs xs added) (sym (ap (λ xs. front ++ xs) none ∙ append-nil front)) writes))
