-- Reading a text that comes from a source.
use Rattle.std.proofs.Common.{◌≡◌, ◌⊎◌, ℕ, ◌-◌, ◌<◌, ◌≤◌, length-drop, List, [], ◌∷◌, ◌++◌, length, Option, Some, None, is_some, true, false, unwrap_or, refl, sym, ap, ap₂, subst, ◌∙◌, append_assoc, arith, inl, inr}
use Rattle.std.specs.Prelude.{option_to_list}
use Rattle.std.proofs.lemmas.Bool.{false≢true, true≢false}
use Rattle.std.proofs.Math.ListN.{drop_of_length-le}
use Rattle.icu_element_reading.specs.declared.decomposed_source.DecomposedSource.{DecomposedSource}
use Rattle.icu_table_entries.specs.Elements.{Element, end_element}
use Rattle.icu_element_reading.specs.declared.element_reader.ElementReader.{ElementReader}
use Rattle.icu_element_reading.specs.declared.text_reading.TextReading.{TextReading}
use Rattle.icu_element_reading.specs.declared.reader.position.Position.{Position}
use Rattle.icu_element_reading.specs.CollationElements.{first_of, rest_of}
use Rattle.icu_element_reading.specs.ReadAhead.{IsEnough, HasWholeStep}
use Rattle.icu_element_reading.specs.TextElements.{Reading, step, consumed, last_two, elements_after, elements_of}
use Rattle.icu_element_reading.specs.inner.Positions.{consumed_last, unread_at, IsStep}
use Rattle.icu_element_reading.specs.Reading.{reading_of}
use Rattle.icu_element_reading.specs.inner.Iterating.{GivesChar, StillReads}
use Rattle.icu_element_reading.specs.inner.ReadyElements.{ready_elements}
use Rattle.icu_element_reading.specs.inner.StepsTaken.{TakesChar, HasElementsAt, LooksAhead, TakesStepAt, StepsOrLooks}
use Rattle.icu_element_reading.specs.inner.Streams.{elements_before, HasElements}
use Rattle.icu_element_reading.proofs.EnoughLemmas.{IsEnough-ended, elements_after-ahead}
use Rattle.icu_element_reading.proofs.CollationElementsLemmas.{first_given}
use Rattle.icu_element_reading.proofs.StepLemmas.{elements_after_nil}

-- nothing was read yet
pub fresh : (r : ElementReader) (left : List ℕ) → ready_elements r ≡ [] → consumed_last r.position ≡ [] → unread_at r.position ≡ []
    → elements_of (reading_of r.reading) left ≡ ready_elements r ++ elements_before r.reading r.position left
fresh r left ready before unread =
    sym (ap (λ (l : List Element). l ++ elements_before r.reading r.position left) ready
    ∙ ap₂ (λ (b t : List ℕ). elements_after (reading_of r.reading) b (t ++ left)) before unread)

pub fresh_by : (r : ElementReader) (reading : TextReading) (left : List ℕ) → r.reading ≡ reading → ready_elements r ≡ [] → consumed_last r.position ≡ [] → unread_at r.position ≡ []
    → elements_of (reading_of reading) left ≡ ready_elements r ++ elements_before r.reading r.position left
fresh_by r reading left is ready before unread = ap (λ (t : TextReading). elements_of (reading_of t) left) (sym is) ∙ fresh r left ready before unread

-- ---- a step

-- what was read ahead is enough, or nothing more comes
pub enough_or_ended : (reading : Reading) (before : List ℕ) (c : ℕ) (text left : List ℕ) → HasWholeStep reading before c text ⊎ (left ≡ []) → IsEnough reading before c text left
enough_or_ended reading before c text left (inl whole) = whole left
enough_or_ended reading before c text left (inr none) = subst (IsEnough reading before c text) (sym none) (IsEnough-ended reading before c text)

-- the elements of a step, and those of what it leaves
stepped : (reading : Reading) (before : List ℕ) (c : ℕ) (text left whole : List ℕ) (es fs : List Element) (p : Position) → whole ≡ c ∷ (text ++ left) → IsEnough reading before c text left
    → IsStep (step reading before c text) c before es fs p
    → es ++ elements_after reading before whole ≡ fs ++ elements_after reading (consumed_last p) (unread_at p ++ left)
stepped reading before c text left whole es fs p is enough h =
    let s = step reading before c text in
    let after : List ℕ = last_two before (consumed c s) in
    ap (λ (t : List ℕ). es ++ elements_after reading before t) is
    ∙ ap (λ (l : List Element). es ++ l) (elements_after-ahead reading before c text left enough)
    ∙ sym (append_assoc es s.elements (elements_after reading after (s.rest ++ left)))
    ∙ ap₂ (λ (l : List Element) (b : List ℕ). l ++ elements_after reading b (s.rest ++ left)) (sym h.elements) (sym h.recent)
    ∙ ap (λ (r : List ℕ). fs ++ elements_after reading (consumed_last p) (r ++ left)) (sym h.rest)

module _ {I : Type 0} (steps : I → Option ℕ → I → Type 0) (reading : TextReading) (old new : DecomposedSource I) (at p : Position) (all : List Element) where
  -- a character was taken off the text
  pub taken_off : (c : ℕ) → TakesChar steps (Some c) old (unread_at at) new (unread_at p) → consumed_last p ≡ consumed_last at
      → HasElements steps reading old at [] all → HasElementsAt steps reading new p c all
  taken_off c took same h =
      let t = took h.left h.source in
      record {
        left = t.0;
        source = t.1;
        elements =
            h.elements
            ∙ ap (elements_after (reading_of reading) (consumed_last at)) t.2
            ∙ ap (λ (b : List ℕ). elements_after (reading_of reading) b (c ∷ (unread_at p ++ t.0))) (sym same);
      }

  -- none was there to be taken
  pub none_came : TakesChar steps None old (unread_at at) new (unread_at p) → HasElements steps reading old at [] all → (all ≡ []) × HasElements steps reading new p [] []
  none_came took h =
      let t = took h.left h.source in
      let nothing : unread_at p ++ t.0 ≡ [] = t.3 refl in (
        h.elements
            ∙ ap (elements_after (reading_of reading) (consumed_last at)) (t.2 ∙ nothing)
            ∙ elements_after_nil (reading_of reading) (consumed_last at),
        record {
          left = t.0;
          source = t.1;
          elements = sym (ap (elements_after (reading_of reading) (consumed_last p)) nothing ∙ elements_after_nil (reading_of reading) (consumed_last p));
        },
      )

  -- more was read
  pub looked_on : (c : ℕ) → LooksAhead steps old at new p → HasElementsAt steps reading old at c all → HasElementsAt steps reading new p c all
  looked_on c looks h =
      let t = looks.ahead.at h.left h.source in
      let same : unread_at at ++ h.left ≡ unread_at p ++ t.0 =
      ap (λ (l : List ℕ). unread_at at ++ l) t.1
      ∙ sym (append_assoc (unread_at at) looks.ahead.more t.0)
      ∙ ap (λ (l : List ℕ). l ++ t.0) (sym looks.ahead.grown) in
      record {
        left = t.0;
        source = t.2;
        elements = h.elements ∙ ap₂ (λ (b l : List ℕ). elements_after (reading_of reading) b (c ∷ l)) (sym looks.before) same;
      }

  -- a step was taken
  pub step_given : (c : ℕ) (es fs : List Element) → TakesStepAt steps (reading_of reading) c old at new p es fs → HasElementsAt steps reading old at c all → HasElements steps reading new p fs (es ++ all)
  step_given c es fs s h =
      let t = s.ahead.at h.left h.source in
      let whole : c ∷ (unread_at at ++ h.left) ≡ c ∷ (s.text ++ t.0) =
      ap (λ (l : List ℕ). c ∷ (unread_at at ++ l)) t.1
      ∙ ap (λ (l : List ℕ). c ∷ l) (sym (append_assoc (unread_at at) s.ahead.more t.0))
      ∙ ap (λ (l : List ℕ). c ∷ (l ++ t.0)) (sym s.ahead.grown) in
      record {
        left = t.0;
        source = t.2;
        elements =
            ap (λ (l : List Element). es ++ l) h.elements
            ∙ stepped (reading_of reading) (consumed_last at) c s.text t.0 (c ∷ (unread_at at ++ h.left)) es fs p whole
            (enough_or_ended (reading_of reading) (consumed_last at) c s.text t.0 t.3) s.taken;
      }

-- ---- an element that stands ready

-- where all that stood ready were taken, none does
pub cleared : {I : Type 0} (steps : I → Option ℕ → I → Type 0) (source : DecomposedSource I) (r : ElementReader) (none es : List Element) → length r.ready.elements.items ≤ r.next → none ≡ []
    → HasElements steps r.reading source r.position (ready_elements r) es → HasElements steps r.reading source r.position none es
cleared steps source r none es past empty h = record {
  left = h.left;
  source = h.source;
  elements = h.elements ∙ ap (λ (l : List Element). l ++ elements_before r.reading r.position h.left) (drop_of_length-le r.ready.elements.items past ∙ sym empty);
}

pub some_ready : (r : ElementReader) → r.next < length r.ready.elements.items → ready_elements r ≡ [] → ⊥
some_ready r inside none =
    let counted : length (ready_elements r) ≡ length r.ready.elements.items - r.next = length-drop r.next r.ready.elements.items in
    let nothing : length (ready_elements r) ≡ 0 = ap length none in omega (arith, inside, counted, nothing)

-- where one that stood ready was taken, the others are left
pub taken_ready : {I : Type 0} (steps : I → Option ℕ → I → Type 0) (es : List Element) (source : DecomposedSource I) (r s : ElementReader) (o : Option Element)
    → HasElements steps r.reading source r.position (ready_elements r) es → ready_elements r ≡ option_to_list o ++ ready_elements s → (o ≡ None → es ≡ []) → s.position ≡ r.position → s.reading ≡ r.reading
    → (unwrap_or o end_element ≡ first_of es) × HasElements steps s.reading source s.position (ready_elements s) (rest_of es)
taken_ready steps es source r s o h split end same same_reading =
    let given = first_given es (ready_elements r) (ready_elements s) (elements_before r.reading r.position h.left) o h.elements split end in (
      given.0,
      record {
        left = h.left;
        source = h.source;
        elements =
            given.1
            ∙ ap₂ (λ (t : TextReading) (p : Position). ready_elements s ++ elements_before t p h.left) (sym same_reading) (sym same);
      },
    )

-- where one that stood ready was taken, or none, it and the others come
pub listed : {I : Type 0} (steps : I → Option ℕ → I → Type 0) (es : List Element) (source : DecomposedSource I) (r s : ElementReader) (o : Option Element)
    → HasElements steps r.reading source r.position (ready_elements r) es → ready_elements r ≡ option_to_list o ++ ready_elements s → s.position ≡ r.position → s.reading ≡ r.reading
    → HasElements steps s.reading source s.position (option_to_list o ++ ready_elements s) es
listed steps es source r s o h same same_position same_reading = record {
  left = h.left;
  source = h.source;
  elements =
      h.elements
      ∙ ap (λ (l : List Element). l ++ elements_before r.reading r.position h.left) same
      ∙ ap₂ (λ (t : TextReading) (p : Position). (option_to_list o ++ ready_elements s) ++ elements_before t p h.left) (sym same_reading) (sym same_position);
}

-- where none was taken, none stands ready
pub none_stands : (r s : ElementReader) (o : Option Element) → ready_elements r ≡ option_to_list o ++ ready_elements s → (o ≡ None → ready_elements r ≡ []) → o ≡ None → ready_elements s ≡ []
none_stands r s (Some e) split end none = cc
none_stands r s None split end none = sym split ∙ end refl

-- an element that is given is the first, and the others are left
pub first_came : {I : Type 0} (steps : I → Option ℕ → I → Type 0) (reading : TextReading) (source : DecomposedSource I) (p : Position) (o : Option Element) (ready es : List Element) → is_some o ≡ true
    → HasElements steps reading source p (option_to_list o ++ ready) es → (unwrap_or o end_element ≡ first_of es) × HasElements steps reading source p ready (rest_of es)
first_came steps reading source p (Some e) ready es some h = (
  sym (ap first_of h.elements),
  record { left = h.left; source = h.source; elements = ap rest_of h.elements },
)
first_came steps reading source p None ready es some h = absurd (false≢true some)

-- where nothing is left, the end element is the first
pub none_left_to_come : {I : Type 0} (steps : I → Option ℕ → I → Type 0) (reading : TextReading) (source : DecomposedSource I) (p : Position) (ready es : List Element) → ready ≡ [] → es ≡ []
    → HasElements steps reading source p [] [] → (end_element ≡ first_of es) × HasElements steps reading source p ready (rest_of es)
none_left_to_come steps reading source p ready es none ended h = (
  sym (ap first_of ended),
  subst (λ (l : List Element). HasElements steps reading source p l (rest_of es)) (sym none)
      (subst (λ (l : List Element). HasElements steps reading source p [] l) (sym (ap rest_of ended)) h),
)

-- other elements that are the same come
pub same_ready : {I : Type 0} (steps : I → Option ℕ → I → Type 0) (reading : TextReading) (source : DecomposedSource I) (p : Position) (ready others es : List Element) → ready ≡ others
    → HasElements steps reading source p ready es → HasElements steps reading source p others es
same_ready steps reading source p ready others es same h = subst (λ (l : List Element). HasElements steps reading source p l es) same h

-- ---- a character that was taken off a text

module _ {I : Type 0} (steps : I → Option ℕ → I → Type 0) (old new : DecomposedSource I) (text rest : List ℕ) (none : text ≡ []) (still : rest ≡ []) where
  -- neither the text nor its source had one
  pub none_taken_off : ((cs : List ℕ) → StillReads steps old cs → (cs ≡ []) × StillReads steps new []) → TakesChar steps None old text new rest
  none_taken_off ended = λ cs h.
      let end = ended cs h in (
        [],
        end.1,
        ap₂ (λ (a b : List ℕ). a ++ b) none end.0 ∙ sym (ap (λ (l : List ℕ). l ++ []) still),
        λ _. ap (λ (l : List ℕ). l ++ []) still,
      )

  -- its source had one
  pub one_taken_off : (c : ℕ) → ((cs : List ℕ) → StillReads steps old cs → (left : List ℕ) × (cs ≡ c ∷ left) × StillReads steps new left) → TakesChar steps (Some c) old text new rest
  one_taken_off c came = λ cs h.
      let next = came cs h in (
        next.0,
        next.2,
        ap₂ (λ (a b : List ℕ). a ++ b) none next.1 ∙ sym (ap (λ (l : List ℕ). c ∷ (l ++ next.0)) still),
        λ other. cc,
      )

  -- its source gave its next
  pub next_taken_off : (found : Option ℕ) → GivesChar steps found old new → TakesChar steps found old text new rest
  next_taken_off None gives = none_taken_off gives
  next_taken_off (Some c) gives = one_taken_off c gives

-- ---- a step without a list

module _ {I : Type 0} (steps : I → Option ℕ → I → Type 0) (reading : TextReading) (old new : DecomposedSource I) (at p : Position) (c : ℕ) (es : List Element) where
  -- one was taken, and nothing stands ready
  pub lone_given : (o : Option Element) (ready : List Element) → is_some o ≡ true → ready ≡ [] → StepsOrLooks steps (reading_of reading) c old at new p o → HasElementsAt steps reading old at c es
      → HasElements steps reading new p (option_to_list o ++ ready) es
  lone_given (Some e) ready some none s h =
      subst (λ (l : List Element). HasElements steps reading new p (e ∷ l) es) (sym none) (step_given steps reading old new at p es c [] (e ∷ []) s h)
  lone_given None ready some none s h = absurd (false≢true some)

  -- none was
  pub only_looked : (o : Option Element) → is_some o ≡ false → StepsOrLooks steps (reading_of reading) c old at new p o → HasElementsAt steps reading old at c es → HasElementsAt steps reading new p c es
  only_looked (Some e) none s h = absurd (true≢false none)
  only_looked None none s h = looked_on steps reading old new at p es c s h

  -- one was taken whose elements came to an empty list
  pub listed_given : (list fs : List Element) → list ≡ [] → TakesStepAt steps (reading_of reading) c old at new p list fs → HasElementsAt steps reading old at c es → HasElements steps reading new p fs es
  listed_given list fs empty s h =
      subst (λ (l : List Element). HasElements steps reading new p fs (l ++ es)) empty (step_given steps reading old new at p es c list fs s h)
