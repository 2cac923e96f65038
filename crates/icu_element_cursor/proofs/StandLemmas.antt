-- Characters that are read by themselves, and the runs of marks that they stand before.
use Rattle.std.proofs.Common.{◌≡◌, ◌≢◌, ℕ, zero, suc, ◌<◌, ◌≤◌, Bool, true, false, ◌&&◌, ◌||◌, nat_le, List, [], ◌∷◌, ◌++◌, length, get_or, flat_map, Option, Some, None, IfSome, refl, sym, ap, subst, ◌∙◌, append-nil, append_assoc, arith, zero-le}
use Rattle.std.proofs.lemmas.Bool.{and_parts, and_from, not-true, eqb-true, eq-eqb, ne_eqb, le-leb}
use Rattle.ucd_normal.specs.CanonicalCombiningClass.{canonical_combining_class as class_of}
use Rattle.ucd_normal.specs.declared.forms.Form.TheVariants.{Nfd}
use Rattle.unicode_normalization.specs.Decompose.{decompose}
use Rattle.unicode_normalization.specs.Order.{is_starter, is_nonstarter}
use Rattle.unicode_normalization.specs.Forms.{nfd}
use Rattle.unicode_normalization.proofs.DecomposeLemmas.{decompose-final}
use Rattle.unicode_normalization.proofs.FormsLemmas.{is_final-Nfd, quick_check-below}
use Rattle.unicode_normalization.proofs.TableFacts.{class_of_latin}
use Rattle.icu_element_reading.specs.TextElements.{Reading, elements_after}
use Rattle.icu_element_reading.proofs.boundaries.CutPartLemmas.{may_be_cut, parted}
use Rattle.icu_table_entries.specs.Elements.{Element}
use Rattle.std.proofs.Props.{props}
use Rattle.std.proofs.Math.Logic.{∥∥₁_elim}
use mathlib.Core.List.{is_set}
use Rattle.icu_element_reading.specs.boundaries.Alone.{context_after, elements_of_char, stays_first, all_stay, rises_from}
use Rattle.icu_element_reading.proofs.boundaries.AloneLemmas.{letter_of_starters, letter_that_stays}
use Rattle.icu_element_reading.proofs.boundaries.NfdLemmas.{stays_first-rises}
use Rattle.icu_element_facts.specs.declared.char_facts.CharFacts.{CharFacts}
use Rattle.icu_element_facts.specs.declared.few_elements.FewElements.{FewElements}
use Rattle.icu_element_facts.specs.FewElements.{few_elements}
use Rattle.icu_element_facts.specs.KeptFacts.{char_elements, IsOwn, StandsAlone, HasStarters, IsMarkedStarter, IsLoneMark, StandByThemselves, rises_to}
use Rattle.icu_element_reading.specs.boundaries.Places.{BeginsAtBoundary}
use Rattle.icu_element_cursor.specs.inner.MarkRuns.{Rises, EndsRuns, IsInRun, IsMarkItself}
use Rattle.icu_element_cursor.specs.inner.Standing.{StandsBefore, StandsAnywhere}

-- ---- runs of marks

-- a run ends at a starter
pub ends_runs : (c first : ℕ) (more : List ℕ) → decompose Nfd c ≡ first ∷ more → is_starter first ≡ true → EndsRuns c
unfolding rises_from
ends_runs c first more split starter = λ least text. ap (λ l. rises_from least (l ++ flat_map (decompose Nfd) text)) split ∙ rw starter refl

-- as an ASCII character is, which stands for itself
pub low_ends_runs : (c : ℕ) → c < 0x80 → EndsRuns c
low_ends_runs c low =
    ends_runs c c [] (decompose-final Nfd c (is_final-Nfd c (quick_check-below Nfd c (omega (arith, low))))) (class_of_latin c zero-le (omega (arith, low)))

-- it goes on with a mark whose class isn't below
goes_on : (c first : ℕ) → decompose Nfd c ≡ first ∷ [] → class_of first ≢ 0 → (least : ℕ) (text : List ℕ) → least ≤ class_of first → Rises (class_of first) text → Rises least (c ∷ text)
unfolding rises_from
goes_on c first split mark least text fits rest =
    let other : is_starter first ≡ false = ne_eqb (class_of first) 0 mark in
    let up : nat_le least (class_of first) ≡ true = le-leb least (class_of first) fits in
    ap (λ l. rises_from least (l ++ flat_map (decompose Nfd) text)) split ∙ rw (other, up) rest

-- a character that decomposes to one
pub one_in_run : (c first : ℕ) → decompose Nfd c ≡ first ∷ [] → IsInRun c (class_of first)
one_in_run c first split = record {
  ends = λ lowest. ends_runs c first [] split (eq-eqb (class_of first) 0 lowest);
  goes_on = goes_on c first split;
}

-- a mark that decomposes to itself
pub mark_in_run : (c class : ℕ) → IsMarkItself c class → IsInRun c class
mark_in_run c class h = subst (λ k. IsInRun c k) h.class (one_in_run c c h.itself)

-- one whose decomposition begins with a starter
pub starter_in_run : (c : ℕ) → EndsRuns c → IsInRun c 0
starter_in_run c ends = record { ends = λ _. ends; goes_on = λ other. absurd (other refl) }

-- one of them goes on before a run that rises from it
pub run_goes_on : (c class : ℕ) → IsInRun c class → (least : ℕ) (text : List ℕ) → least ≤ class → Rises class text → Rises least (c ∷ text)
run_goes_on c zero h least text fits rise = h.ends refl least text
run_goes_on c (suc k) h least text fits rise = h.goes_on (λ none. absurd (omega (arith, none))) least text fits rise

-- so does a mark that decomposes to itself
pub mark_goes_on : (all : List ℕ) (c class least : ℕ) (text : List ℕ) → all ≡ c ∷ text → IsMarkItself c class → least ≤ class → Rises class text → Rises least all
mark_goes_on all c class least text is mark fits rise = subst (Rises least) (sym is) (run_goes_on c class (mark_in_run c class mark) least text fits rise)

-- ---- characters

-- marks in order before a run that rises from the last of them
marks_stay : (least last : ℕ) (ms text : List ℕ) → rises_to least ms last ≡ true → rises_from last text ≡ true
    → (all_stay ms text ≡ true) × (rises_from least (ms ++ text) ≡ true)
unfolding rises_to rises_from all_stay
marks_stay least last [] text h rise = (refl, ap (λ k. rises_from k text) (eqb-true least last h) ∙ rise)
marks_stay least last (m ∷ ms) text h rise =
    let parts = and_parts (is_nonstarter m && nat_le least (class_of m)) _ h in
    let both = and_parts (is_nonstarter m) _ parts.0 in
    let mark : is_starter m ≡ false = not-true _ both.0 in
    let others = marks_stay (class_of m) last ms text parts.1 rise in
    let stays : stays_first m (ms ++ text) ≡ true = stays_first-rises m (ms ++ text) others.1 in
    (rw (mark, stays) others.0, rw (mark, both.1) others.1)

pub or_true : (b : Bool) → ((b || true) && true) ≡ true
or_true true = refl
or_true false = refl

-- starters that stand alone
pub themselves_stand : (reading : Reading) (c : ℕ) (es : List Element) (text : List ℕ) → StandByThemselves reading (decompose Nfd c) es → StandsBefore reading c es text
themselves_stand reading c es text h = λ before.
    letter_of_starters reading before c (decompose Nfd c) text refl h.starters h.alone
    ∙ ap (λ fs. fs ++ elements_after reading (context_after before (decompose Nfd c)) (nfd text)) (sym h.elements)

module _ (reading : Reading) (c : ℕ) (l : CharFacts) (text : List ℕ) where
  pub starters_stand : HasStarters reading c l → StandsBefore reading c (char_elements l) text
  starters_stand h = themselves_stand reading c (char_elements l) text (record { alone = h.stands.alone; starters = h.starters; elements = h.stands.elements })

  stays_alone : StandsAlone reading c l → all_stay (decompose Nfd c) (flat_map (decompose Nfd) text) ≡ true → StandsBefore reading c (char_elements l) text
  stays_alone h stay = λ before.
      letter_that_stays reading before c (decompose Nfd c) text refl stay h.alone
      ∙ ap (λ es. es ++ elements_after reading (context_after before (decompose Nfd c)) (nfd text)) (sym h.elements)

  pub marked_stand : IsMarkedStarter reading c l → Rises l.class text → StandsBefore reading c (char_elements l) text
  unfolding all_stay
  marked_stand h rise =
      let rest = flat_map (decompose Nfd) text in
      let marks = marks_stay 0 l.class h.marks rest h.in_order rise in
      let stay : all_stay (h.base ∷ h.marks) rest ≡ true = rw h.starter marks.0 in
      stays_alone h.stands (ap (λ ds. all_stay ds rest) h.decomposes ∙ stay)

  pub marks_stand : IsLoneMark reading c l → Rises l.class text → StandsBefore reading c (char_elements l) text
  unfolding all_stay
  marks_stand h rise =
      let rest = flat_map (decompose Nfd) text in
      let stays : stays_first c rest ≡ true = stays_first-rises c rest (ap (λ k. rises_from k rest) h.class ∙ rise) in
      let stay : all_stay (c ∷ []) rest ≡ true = rw stays (or_true (is_starter c)) in
      stays_alone h.stands (ap (λ ds. all_stay ds rest) h.itself ∙ stay)

-- before a text that may be cut it gives what it gives before the first part
pub cut_stands : (reading : Reading) (c : ℕ) (es : List Element) (text front rest : List ℕ) → text ≡ front ++ rest → BeginsAtBoundary reading rest
    → StandsBefore reading c es front → StandsBefore reading c es text
cut_stands reading c es text front rest parts boundary stands = λ before.
    let after = context_after before (decompose Nfd c) in
    let left = elements_after reading after (nfd rest) in
    ap (λ (t : List ℕ). elements_after reading before (nfd (c ∷ t))) parts
    ∙ parted reading before after (c ∷ front) rest boundary
    ∙ ap (λ (fs : List Element). fs ++ left) (stands before)
    ∙ append_assoc es (elements_after reading after (nfd front)) left
    ∙ ap (λ (fs : List Element). es ++ fs) (sym (parted reading after after front rest boundary))
    ∙ ap (λ (t : List ℕ). es ++ elements_after reading after (nfd t)) (sym parts)

-- a character that stands alone gives the elements of its entry
pub own_serves : (reading : Reading) (c : ℕ) → IsOwn reading c → StandsAnywhere reading c
own_serves reading c h = record {
  stands = λ text before.
      letter_of_starters reading before c (c ∷ []) text h.itself (and_from _ _ h.boundary.starter refl) (and_from _ _ h.alone refl)
      ∙ ap (λ es. es ++ elements_after reading (context_after before (c ∷ [])) (nfd text)) (append-nil (elements_of_char reading.tables c))
      ∙ ap (λ ds. elements_of_char reading.tables c ++ elements_after reading (context_after before ds) (nfd text)) (sym h.itself);
  ends = ends_runs c c [] h.itself h.boundary.starter;
  boundary = may_be_cut reading c (record { first = c; more = []; decomposes = h.itself; boundary = h.boundary });
}

-- ---- what is kept is hidden in a collator's tables

pub elements_set : IsSet (List Element)
elements_set = is_set (hlevel props)

pub characters_set : IsSet (List ℕ)
characters_set = is_set (hlevel props)

pub few_stand-prop : (reading : Reading) (c : ℕ) (few : FewElements) → IsProp ((text : List ℕ) → StandsBefore reading c (few_elements few) text)
few_stand-prop reading c few = hlevel (props, elements_set)

-- what is found there serves
pub found : {A X : Type 0} → ∥ A ∥₁ → (o : Option X) (P Q : X → Type 0) → ((x : X) → IsProp (Q x)) → ((x : X) → P x → Q x) → (A → IfSome o P) → IfSome o Q
found kept None P Q prop turn h = tt
found kept (Some x) P Q prop turn h = ∥∥₁_elim kept (prop x) (λ a. turn x (h a))

-- ---- what a character decomposes to

pub first_item : (xs : List ℕ) (x d : ℕ) → 1 ≤ length xs → x ≡ get_or xs 0 d → (more : List ℕ) × (xs ≡ x ∷ more)
first_item [] x d some is = absurd (omega arith)
first_item (y ∷ ys) x d some is = (ys, ap (λ z. z ∷ ys) (sym is))

-- a text that ended has no marks
pub nothing_rises : (class : ℕ) → Rises class []
unfolding rises_from
nothing_rises class = refl
