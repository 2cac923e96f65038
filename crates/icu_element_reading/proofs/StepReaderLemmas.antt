-- What a reader of steps has left, where more is read ahead and where a step is taken.
use Rattle.std.proofs.Common.{◌≡◌, ◌⊎◌, ℕ, ◌+◌, ◌-◌, List, [], ◌∷◌, ◌++◌, length, Option, refl, sym, ap, subst, ◌∙◌, append_assoc, length-append, arith, inl, inr}
use Rattle.std.specs.Prelude.{slice_get}
use Rattle.icu_element_reading.specs.declared.decomposed_source.DecomposedSource.{DecomposedSource}
use Rattle.icu_table_entries.specs.Elements.{Element}
use Rattle.icu_element_reading.specs.declared.step_reader.StepReader.{StepReader}
use Rattle.icu_element_reading.specs.TextElements.{Step, step, consumed, last_two}
use Rattle.icu_element_reading.specs.ReadAhead.{HasWholeStep}
use Rattle.icu_element_reading.specs.StepReaders.{reading_in, elements_given, HasLeft, TakesStep}
use Rattle.icu_element_reading.specs.inner.Iterating.{StillReads}
use Rattle.icu_element_reading.specs.inner.Positions.{consumed_last, unread_at, IsStep}
use Rattle.icu_element_reading.specs.inner.ReadsAhead.{ReadsTo, IsBegun}
use Rattle.icu_element_reading.proofs.StepLemmas.{Rests-step}
use Rattle.icu_element_reading.proofs.StreamLemmas.{enough_or_ended}

-- ---- reading ahead

-- So much of a text was read, and the source has what is left of it: nothing, unless what was read is as it is to be.
pub record IsAhead {I : Type 0} (steps : I → Option ℕ → I → Type 0) (Is : List ℕ → Type 0) (source : DecomposedSource I) (text whole : List ℕ) : Type 0 where
  pub left : List ℕ
  pub still : StillReads steps source left
  pub whole_is : whole ≡ text ++ left
  pub enough : Is text ⊎ (left ≡ [])

pub read_on : {I : Type 0} (steps : I → Option ℕ → I → Type 0) (Is : List ℕ → Type 0) (old new : DecomposedSource I) (text longer whole more : List ℕ)
    → ReadsTo steps Is old text new longer → StillReads steps old more → whole ≡ text ++ more → IsAhead steps Is new longer whole
read_on steps Is old new text longer whole more came source is =
    let at = came.at more source in
    record {
      left = at.0;
      still = at.2;
      whole_is =
          is ∙ ap (λ (l : List ℕ). text ++ l) at.1 ∙ sym (append_assoc text came.more at.0)
          ∙ ap (λ (l : List ℕ). l ++ at.0) (sym came.grown);
      enough = at.3;
    }

nothing_more : (text left : List ℕ) → text ≡ [] → IsBegun text ⊎ (left ≡ []) → left ≡ []
nothing_more text left none (inl some) = absurd (omega (arith, some, ap length none))
nothing_more text left none (inr ended) = ended

-- none came, so none is left
pub none_came : {I : Type 0} (steps : I → Option ℕ → I → Type 0) (source : DecomposedSource I) (text whole : List ℕ) → IsAhead steps IsBegun source text whole → text ≡ [] → whole ≡ []
none_came steps source text whole h none = h.whole_is ∙ ap (λ (l : List ℕ). l ++ h.left) none ∙ nothing_more text h.left none h.enough

first_came : (text left : List ℕ) → IsBegun text ⊎ (left ≡ []) → slice_get text 0 ≡ slice_get (text ++ left) 0
first_came [] left (inl some) = absurd (omega (arith, some))
first_came [] left (inr ended) = ap (λ (l : List ℕ). slice_get l 0) (sym ended)
first_came (c ∷ cs) left h = refl

-- the first that was read is the first of all
pub first_of_all : {I : Type 0} (steps : I → Option ℕ → I → Type 0) (source : DecomposedSource I) (text whole : List ℕ) → IsAhead steps IsBegun source text whole → slice_get text 0 ≡ slice_get whole 0
first_of_all steps source text whole h = first_came text h.left h.enough ∙ ap (λ (l : List ℕ). slice_get l 0) (sym h.whole_is)

-- ---- a step

module _ {I : Type 0} (steps : I → Option ℕ → I → Type 0) (old new : StepReader I) (c n : ℕ) (es : List Element) where
  taken : (whole longer left : List ℕ) → whole ≡ c ∷ (longer ++ left) → StillReads steps new.source left
      → step (reading_in old) (consumed_last old.position) c (longer ++ left) ≡ record (step (reading_in old) (consumed_last old.position) c longer) { rest = (step (reading_in old) (consumed_last old.position) c longer).rest ++ left }
      → es ≡ [] → IsStep (step (reading_in old) (consumed_last old.position) c longer) c (consumed_last old.position) es (elements_given new) new.position
      → n ≡ length longer - length (unread_at new.position)
      → TakesStep steps old (consumed_last old.position) whole n new
  taken whole longer left is source same none h counted =
      let before = consumed_last old.position in
      let s = step (reading_in old) before c longer in
      record {
        char = c;
        later = longer ++ left;
        text_is = is;
        elements = h.elements ∙ ap (λ (l : List Element). l ++ s.elements) none ∙ ap (λ (s : Step). s.elements) (sym same);
        left = record {
          more = left;
          source = source;
          before_is = h.recent ∙ ap (λ (s : Step). last_two before (consumed c s)) (sym same);
          text_is = ap (λ (s : Step). s.rest) same ∙ ap (λ (l : List ℕ). l ++ left) (sym h.rest);
        };
        count_is =
            let rests : length (step (reading_in old) before c (longer ++ left)).rest ≡ length s.rest + length left = ap (λ (s : Step). length s.rest) same ∙ length-append s.rest left in
            let fits = (Rests-step (reading_in old) before c longer).fits in
            omega (arith, counted, rests, fits, ap length h.rest, length-append longer left);
      }

  -- a character came, so much more was read ahead, and a step was taken
  pub TakesStep-read : (mid : DecomposedSource I) (text middle longer : List ℕ) → (before whole : List ℕ) → HasLeft steps old before whole
      → ReadsTo steps IsBegun old.source (unread_at old.position) mid text → text ≡ c ∷ middle
      → ReadsTo steps (HasWholeStep (reading_in old) (consumed_last old.position) c) mid middle new.source longer
      → es ≡ [] → IsStep (step (reading_in old) (consumed_last old.position) c longer) c (consumed_last old.position) es (elements_given new) new.position
      → n ≡ length longer - length (unread_at new.position)
      → TakesStep steps old before whole n new
  TakesStep-read mid text middle longer before whole h came split ahead none stepped counted =
      let first = read_on steps IsBegun old.source mid (unread_at old.position) text whole h.more came h.source h.text_is in
      let second = read_on steps (HasWholeStep (reading_in old) (consumed_last old.position) c) mid new.source middle longer (middle ++ first.left) first.left ahead first.still refl in
      let is : whole ≡ c ∷ (longer ++ second.left) =
      first.whole_is ∙ ap (λ (l : List ℕ). l ++ first.left) split ∙ ap (λ (l : List ℕ). c ∷ l) second.whole_is in
      subst (λ (b : List ℕ). TakesStep steps old b whole n new) h.before_is
      (taken whole longer second.left is second.still
      (enough_or_ended (reading_in old) (consumed_last old.position) c longer second.left second.enough) none stepped counted)
