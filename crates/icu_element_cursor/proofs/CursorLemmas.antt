-- What a cursor still gives, as it goes on.
use Rattle.std.proofs.Common.{◌≡◌, ℕ, ◌≤◌, arith, List, [], ◌∷◌, ◌++◌, length, take, get_or, Option, Some, None, IfSome, refl, sym, ap, subst, ◌∙◌, append_assoc}
use Rattle.std.specs.Prelude.{option_to_list}
use Rattle.ucd_normal.specs.declared.forms.Form.TheVariants.{Nfd}
use Rattle.unicode_normalization.specs.Decompose.{decompose}
use Rattle.unicode_normalization.specs.Forms.{nfd}
use Rattle.icu_table_entries.specs.Elements.{Element}
use Rattle.icu_element_reading.specs.TextElements.{Reading, elements_after}
use Rattle.icu_element_reading.specs.boundaries.Alone.{context_after}
use Rattle.icu_element_facts.specs.declared.char_facts.CharFacts.{CharFacts}
use Rattle.icu_element_facts.specs.KeptFacts.{char_elements}
use Rattle.icu_element_cursor.specs.declared.facts_cursor.FactsCursor.{FactsCursor}
use Rattle.icu_element_cursor.specs.FactsCursors.{facts_give, facts_reading, GivesNextOrEnds, GoesOn}
use Rattle.icu_element_cursor.specs.inner.NumberElements.{IsNumberPiece}
use Rattle.icu_element_reading.specs.boundaries.Places.{IsPiece}
use Rattle.icu_element_cursor.specs.inner.Pieces.{IsPieceBegun}
use Rattle.icu_element_cursor.specs.inner.Standing.{BothStandBefore, StandsBefore}
use Rattle.icu_element_reading.proofs.boundaries.CutPartLemmas.{nothing, pieces_part}

-- where no element stands ready
pub nothing_ready : (ready rest : List Element) → ready ≡ [] → ready ++ rest ≡ rest
nothing_ready ready rest none = ap (λ (es : List Element). es ++ rest) none

-- the first of those that stand ready
pub ready_taken : (first before after rest : List Element) → before ≡ first ++ after → before ++ rest ≡ first ++ (after ++ rest)
ready_taken first before after rest is = ap (λ (es : List Element). es ++ rest) is ∙ append_assoc first after rest

first_alone : (xs : List Element) (e d : Element) → 1 ≤ length xs → e ≡ get_or xs 0 d → take 1 xs ≡ e ∷ []
first_alone [] e d some is = absurd (omega arith)
first_alone (x ∷ xs) e d some is = ap (λ y. y ∷ []) (sym is)

-- the first of a character's
pub one_taken : (l : CharFacts) (e d : Element) → l.count ≡ 1 → 1 ≤ length l.elements → e ≡ get_or l.elements 0 d → char_elements l ≡ e ∷ []
one_taken l e d one some is = ap (λ n. take n l.elements) one ∙ first_alone l.elements e d some is

-- a character of one element that is read with the next one
both_stand : (reading : Reading) (c x : ℕ) (e : Element) (es : List Element) (rest text : List ℕ) → StandsBefore reading c (e ∷ []) rest → rest ≡ x ∷ text → StandsBefore reading x es text
    → (before : List ℕ) → elements_after reading before (nfd (c ∷ rest)) ≡ e ∷ (es ++ elements_after reading (context_after (context_after before (decompose Nfd c)) (decompose Nfd x)) (nfd text))
both_stand reading c x e es rest text one goes other = λ before.
    let mid = context_after before (decompose Nfd c) in
    one before
    ∙ ap (λ (t : List ℕ). e ∷ elements_after reading mid (nfd t)) goes
    ∙ ap (λ (fs : List Element). e ∷ fs) (other mid)

module _ (reading : Reading) (ready : List Element) (before : List ℕ) (none : ready ≡ []) where
  -- a text that ended gives nothing
  pub all_read : (text : List ℕ) → text ≡ [] → ready ++ elements_after reading before (nfd text) ≡ []
  all_read text ends =
      nothing_ready ready _ none ∙ ap (λ t. elements_after reading before (nfd t)) ends ∙ nothing reading before

  -- a character is read by itself
  pub char_read : (c : ℕ) (own : List Element) (all text after : List ℕ) (es : List Element) → all ≡ c ∷ text → StandsBefore reading c own text → es ≡ own → after ≡ context_after before (decompose Nfd c)
      → es ++ elements_after reading after (nfd text) ≡ ready ++ elements_after reading before (nfd all)
  char_read c own all text after es is stands given remembered =
      ap (λ (fs : List Element). fs ++ elements_after reading after (nfd text)) given
      ∙ ap (λ b. own ++ elements_after reading b (nfd text)) remembered
      ∙ sym (stands before)
      ∙ ap (λ t. elements_after reading before (nfd t)) (sym is)
      ∙ sym (nothing_ready ready _ none)

  -- its first element is given, and the others are kept
  pub facts_begun : (c : ℕ) (own : List Element) (all text after : List ℕ) (first others : List Element) → all ≡ c ∷ text → StandsBefore reading c own text → own ≡ first ++ others
      → after ≡ context_after before (decompose Nfd c)
      → ready ++ elements_after reading before (nfd all) ≡ first ++ (others ++ elements_after reading after (nfd text))
  facts_begun c own all text after first others is stands given remembered =
      sym (char_read c own all text after own is stands refl remembered) ∙ ready_taken first own others _ given

  -- two characters that are joined are read together
  pub pair_begun : (c x : ℕ) (own : List Element) (all more text mid after : List ℕ) (first others : List Element) → all ≡ c ∷ more → more ≡ x ∷ text → BothStandBefore reading c x own text → own ≡ first ++ others
      → mid ≡ context_after before (decompose Nfd c) → after ≡ context_after mid (decompose Nfd x)
      → ready ++ elements_after reading before (nfd all) ≡ first ++ (others ++ elements_after reading after (nfd text))
  pair_begun c x own all more text mid after first others is goes pair given near far =
      nothing_ready ready _ none
      ∙ ap (λ t. elements_after reading before (nfd t)) (is ∙ ap (λ (t : List ℕ). c ∷ t) goes)
      ∙ pair before
      ∙ ap (λ b. own ++ elements_after reading (context_after b (decompose Nfd x)) (nfd text)) (sym near)
      ∙ ap (λ b. own ++ elements_after reading b (nfd text)) (sym far)
      ∙ ap (λ (es : List Element). es ++ elements_after reading after (nfd text)) given
      ∙ append_assoc first others _

  -- a character of one element is read with the next one, whose elements are kept
  pub both_begun : (c x : ℕ) (l : CharFacts) (e d : Element) (es kept : List Element) (all rest text mid after : List ℕ) → all ≡ c ∷ rest → rest ≡ x ∷ text
      → StandsBefore reading c (char_elements l) rest → StandsBefore reading x es text → kept ≡ es → l.count ≡ 1 → 1 ≤ length l.elements → e ≡ get_or l.elements 0 d
      → mid ≡ context_after before (decompose Nfd c) → after ≡ context_after mid (decompose Nfd x)
      → ready ++ elements_after reading before (nfd all) ≡ e ∷ (kept ++ elements_after reading after (nfd text))
  both_begun c x l e d es kept all rest text mid after is goes stands other given one some first near far =
      nothing_ready ready _ none
      ∙ ap (λ t. elements_after reading before (nfd t)) is
      ∙ both_stand reading c x e es rest text (subst (λ (own : List Element). StandsBefore reading c own rest) (one_taken l e d one some first) stands) goes other before
      ∙ ap (λ b. e ∷ (es ++ elements_after reading (context_after b (decompose Nfd x)) (nfd text))) (sym near)
      ∙ ap (λ b. e ∷ (es ++ elements_after reading b (nfd text))) (sym far)
      ∙ ap (λ (fs : List Element). e ∷ (fs ++ elements_after reading after (nfd text))) (sym given)

  -- so is one of one element, which is given at once
  pub one_read : (c : ℕ) (own : List Element) (all text after : List ℕ) (e : Element) → all ≡ c ∷ text → StandsBefore reading c own text → after ≡ context_after before (decompose Nfd c)
      → own ≡ e ∷ [] → ready ++ elements_after reading before (nfd all) ≡ e ∷ (ready ++ elements_after reading after (nfd text))
  one_read c own all text after e is stands remembered one =
      sym (char_read c own all text after own is stands refl remembered)
      ∙ ap (λ (es : List Element). es ++ elements_after reading after (nfd text)) one
      ∙ ap (λ (es : List Element). e ∷ (es ++ elements_after reading after (nfd text))) (sym none)

  -- as where facts are kept of it
  pub lone_read : (c : ℕ) (l : CharFacts) (all text after : List ℕ) (e d : Element) → all ≡ c ∷ text → StandsBefore reading c (char_elements l) text → after ≡ context_after before (decompose Nfd c)
      → l.count ≡ 1 → 1 ≤ length l.elements → e ≡ get_or l.elements 0 d
      → ready ++ elements_after reading before (nfd all) ≡ e ∷ (ready ++ elements_after reading after (nfd text))
  lone_read c l all text after e d is stands remembered one some first =
      one_read c (char_elements l) all text after e is stands remembered (one_taken l e d one some first)

  -- a piece is begun
  pub piece_begun : (all part rest : List ℕ) (es : List Element) → IsPiece reading all part rest → es ≡ elements_after reading before (nfd part)
      → es ++ elements_after reading before (nfd rest) ≡ ready ++ elements_after reading before (nfd all)
  piece_begun all part rest es h given =
      ap (λ (fs : List Element). fs ++ elements_after reading before (nfd rest)) given
      ∙ sym (pieces_part reading before before all part rest h)
      ∙ sym (nothing_ready ready _ none)

  -- a piece is begun where another one ended
  pub next_piece_begun : (all part rest : List ℕ) (old es : List Element) → old ≡ [] → IsPiece reading all part rest → es ≡ elements_after reading before (nfd part)
      → es ++ (ready ++ elements_after reading before (nfd rest)) ≡ old ++ (ready ++ elements_after reading before (nfd all))
  next_piece_begun all part rest old es ended h given =
      ap (λ (fs : List Element). es ++ (fs ++ elements_after reading before (nfd rest))) none
      ∙ piece_begun all part rest es h given
      ∙ ap (λ (fs : List Element). fs ++ (ready ++ elements_after reading before (nfd all))) (sym ended)

  -- a piece is read: its first element is given, and the others are kept
  pub piece_read : (all part rest : List ℕ) (es first others : List Element) → IsPiece reading all part rest → es ≡ elements_after reading before (nfd part) → es ≡ first ++ others
      → ready ++ elements_after reading before (nfd all) ≡ first ++ (others ++ elements_after reading before (nfd rest))
  piece_read all part rest es first others h given is =
      sym (piece_begun all part rest es h given) ∙ ready_taken first es others _ is

  -- as where it is begun first
  pub begun_first : (all whole rest : List ℕ) (es : List Element) → all ≡ whole → IsPieceBegun reading before whole es rest
      → ready ++ elements_after reading before (nfd all) ≡ es ++ elements_after reading before (nfd rest)
  begun_first all whole rest es is h =
      sym (piece_begun all h.piece rest es (record { parts = is ∙ h.is.parts; boundary = h.is.boundary }) h.elements)

  -- so is a number
  pub number_read : (all whole rest : List ℕ) (es first others : List Element) → all ≡ whole → IsNumberPiece reading whole rest es → es ≡ first ++ others
      → ready ++ elements_after reading before (nfd all) ≡ first ++ (others ++ elements_after reading before (nfd rest))
  number_read all whole rest es first others is h given =
      piece_read all h.piece rest es first others (record { parts = is ∙ h.parts; boundary = h.boundary }) (h.elements before) given

-- ---- characters alone

-- an element that stands ready comes first
pub ready_goes_on : (reading : Reading) (text : List ℕ) (ready others : List Element) (e : Element) → ready ≡ e ∷ others
    → (reading ≡ reading) × ((before : List ℕ) → (after : List ℕ) × (ready ++ elements_after reading before (nfd text) ≡ e ∷ (others ++ elements_after reading after (nfd text))))
ready_goes_on reading text ready others e is = (
  refl,
  λ before.
      (before, ap (λ (es : List Element). es ++ elements_after reading before (nfd text)) is),
)

-- where none does, the first of the next character
pub facts_goes_on : (reading : Reading) (ready others : List Element) (c : ℕ) (own : List Element) (all text : List ℕ) (found : Option Element) → ready ≡ [] → all ≡ c ∷ text
    → StandsBefore reading c own text → own ≡ option_to_list found ++ others
    → IfSome found (λ e. (reading ≡ reading) × ((before : List ℕ) → (after : List ℕ) × (ready ++ elements_after reading before (nfd all) ≡ e ∷ (others ++ elements_after reading after (nfd text)))))
facts_goes_on reading ready others c own all text None none is stands given = tt
facts_goes_on reading ready others c own all text (Some e) none is stands given = (
  refl,
  λ before.
      let after = context_after before (decompose Nfd c) in (
        after,
        ap (λ (es : List Element). es ++ elements_after reading before (nfd all)) none
            ∙ ap (λ t. elements_after reading before (nfd t)) is
            ∙ stands before
            ∙ ap (λ (es : List Element). es ++ elements_after reading after (nfd text)) given,
      ),
)

-- as of two characters that are joined
pub pair_goes_on : (reading : Reading) (ready others : List Element) (c x : ℕ) (own : List Element) (all more text : List ℕ) (found : Option Element) → ready ≡ [] → all ≡ c ∷ more → more ≡ x ∷ text
    → BothStandBefore reading c x own text → own ≡ option_to_list found ++ others
    → IfSome found (λ e. (reading ≡ reading) × ((before : List ℕ) → (after : List ℕ) × (ready ++ elements_after reading before (nfd all) ≡ e ∷ (others ++ elements_after reading after (nfd text)))))
pair_goes_on reading ready others c x own all more text None none is goes pair given = tt
pair_goes_on reading ready others c x own all more text (Some e) none is goes pair given = (
  refl,
  λ before.
      let after = context_after (context_after before (decompose Nfd c)) (decompose Nfd x) in (
        after,
        ap (λ (es : List Element). es ++ elements_after reading before (nfd all)) none
            ∙ ap (λ t. elements_after reading before (nfd t)) (is ∙ ap (λ (t : List ℕ). c ∷ t) goes)
            ∙ pair before
            ∙ ap (λ (es : List Element). es ++ elements_after reading after (nfd text)) given,
      ),
)

-- as of a character of one element that is read with the next one, whose elements are kept
pub both_go_on : (reading : Reading) (ready kept : List Element) (c x : ℕ) (l : CharFacts) (e d : Element) (es : List Element) (all rest text : List ℕ) → ready ≡ [] → all ≡ c ∷ rest → rest ≡ x ∷ text
    → StandsBefore reading c (char_elements l) rest → StandsBefore reading x es text → kept ≡ es → l.count ≡ 1 → 1 ≤ length l.elements → e ≡ get_or l.elements 0 d
    → (reading ≡ reading) × ((before : List ℕ) → (after : List ℕ) × (ready ++ elements_after reading before (nfd all) ≡ e ∷ (kept ++ elements_after reading after (nfd text))))
both_go_on reading ready kept c x l e d es all rest text none is goes stands other given one some first = (
  refl,
  λ before.
      let mid = context_after before (decompose Nfd c) in (
        context_after mid (decompose Nfd x),
        both_begun reading ready before none c x l e d es kept all rest text mid _ is goes stands other given one some first refl refl,
      ),
)

-- where none does, and the text has ended, nothing comes
pub nothing_goes_on : (reading : Reading) (ready : List Element) (text : List ℕ) → ready ≡ [] → text ≡ []
    → (reading ≡ reading) × ((before : List ℕ) → ready ++ elements_after reading before (nfd text) ≡ [])
nothing_goes_on reading ready text none ends = (
  refl,
  λ before.
      ap (λ (es : List Element). es ++ elements_after reading before (nfd text)) none ∙ ap (λ t. elements_after reading before (nfd t)) ends ∙ nothing reading before,
)

-- what comes first of a cursor that gives the same comes first
pub given_same : {T : Type 0} (text : T → List ℕ) (old mid new : FactsCursor T) (found : Option (Option Element)) → facts_reading mid ≡ facts_reading old → ((before : List ℕ) → facts_give text old before ≡ facts_give text mid before)
    → IfSome found (λ next. GivesNextOrEnds text mid next new) → IfSome found (λ next. GivesNextOrEnds text old next new)
given_same text old mid new None alike same h = tt
given_same text old mid new (Some None) alike same h = (h.0 ∙ alike, λ before. same before ∙ h.1 before)
given_same text old mid new (Some (Some e)) alike same h = (h.0 ∙ alike, λ before. let next = h.1 before in (next.0, same before ∙ next.1))

-- an element that comes first
pub element_goes_on : {T : Type 0} (text : T → List ℕ) (old new : FactsCursor T) (next : Option Element) → GivesNextOrEnds text old next new → IfSome next (λ e. GoesOn text old e new)
element_goes_on text old new None h = tt
element_goes_on text old new (Some e) h = h
