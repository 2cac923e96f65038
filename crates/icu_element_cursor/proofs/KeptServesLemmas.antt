-- What is kept of a character serves.
use Rattle.std.proofs.Common.{◌≡◌, ◌≢◌, ℕ, ◌≤◌, ◌%◌, true, false, List, [], ◌∷◌, ◌++◌, length, length-append, append-nil, flat_map, IsTrue, refl, sym, ap, subst, ◌∙◌, inl, inr, arith}
use Rattle.std.specs.Int.{bit_at}
use Rattle.std.proofs.lemmas.Bool.{eqb-true, true≢false}
use Rattle.std.proofs.Props.{props}
use Rattle.std.proofs.Math.Logic.{∥∥₁_elim}
use Rattle.ucd_normal.specs.CanonicalCombiningClass.{canonical_combining_class as class_of}
use Rattle.ucd_normal.specs.declared.forms.Form.TheVariants.{Nfd}
use Rattle.unicode_normalization.specs.Decompose.{decompose}
use Rattle.unicode_normalization.specs.Forms.{nfd, normalize, decomposed}
use Rattle.unicode_normalization.proofs.DecomposeLemmas.{length-from_decompose}
use Rattle.unicode_normalization.proofs.OrderLemmas.{length-canonical_order}
use Rattle.icu_table_entries.specs.Elements.{Element}
use Rattle.icu_element_reading.specs.TextElements.{Reading, elements_after}
use Rattle.icu_element_reading.specs.boundaries.Alone.{context_after}
use Rattle.icu_element_reading.proofs.StepLemmas.{elements_after_nil}
use Rattle.icu_element_reading.proofs.boundaries.CutPartLemmas.{may_be_cut}
use Rattle.icu_element_reading.proofs.boundaries.NfdLemmas.{nfd-nil}
use Rattle.icu_element_facts.specs.declared.char_facts.CharFacts.{CharFacts}
use Rattle.icu_element_facts.specs.declared.char_facts.FactsKind.TheVariants.{Mark}
use Rattle.icu_element_facts.specs.declared.char_words.Kept.{Kept}
use Rattle.icu_element_facts.specs.declared.char_words.Kept.TheVariants.{Own, Facts, Nothing}
use Rattle.icu_element_facts.specs.CharWords.{IsKept}
use Rattle.icu_element_facts.specs.Followers.{AreComposedFollowers, AreFollowers, ArePlainFollowers, HasNoBit, NoneBeginsWithBoth}
use Rattle.icu_element_facts.specs.KeptChars.{starts_with_starter}
use Rattle.icu_element_facts.specs.KeptFacts.{char_elements, first_bits, AreTrueFacts, IsBase, IsNumberDigit}
use Rattle.icu_element_facts.proofs.KeptLemmas.{some_is}
use Rattle.icu_element_cursor.specs.inner.MarkRuns.{Rises}
use Rattle.icu_element_cursor.specs.inner.Standing.{StandsBefore, Serves, KeptServes}
use Rattle.icu_element_cursor.specs.inner.Unjoined.{BeginsNone, GoesOnNone, IsHead, IsUnjoined, IsUnjoinedBefore}
use Rattle.icu_element_cursor.proofs.ComposedLemmas.{composed_goes}
use Rattle.icu_element_cursor.proofs.StandLemmas.{cut_stands, elements_set, characters_set, ends_runs, marked_stand, marks_stand, own_serves, starters_stand}
use Rattle.icu_element_cursor.proofs.UnjoinedLemmas.{apart_none, mark_before, mark_heads, starter_before, unjoined_stands}

-- ---- texts

-- a character gives what is kept at the end of a text
pub base_stands : (reading : Reading) (c : ℕ) (l : CharFacts) → IsBase reading c l → StandsBefore reading c (char_elements l) []
base_stands reading c l h = λ before.
    h.at_end before
    ∙ sym (append-nil (char_elements l))
    ∙ ap (λ (es : List Element). char_elements l ++ es) (sym (elements_after_nil reading (context_after before (decompose Nfd c))) ∙ ap (elements_after reading (context_after before (decompose Nfd c))) (sym nfd-nil))

-- a text that isn't empty isn't when it is decomposed
some_left : (c : ℕ) (text : List ℕ) → nfd (c ∷ text) ≡ [] → ⊥
unfolding normalize decomposed
some_left c text none =
    let some = (length-from_decompose Nfd c (decompose Nfd c) refl).0 in
    let all : length (decompose Nfd c ++ flat_map (decompose Nfd) text) ≡ 0 = sym (length-canonical_order (decompose Nfd c ++ flat_map (decompose Nfd) text)) ∙ ap length none in
    absurd (omega (arith, some, all, length-append (decompose Nfd c) (flat_map (decompose Nfd) text)))

-- where of no character it is so, the text is empty
none_left : (is_none : ℕ → Type 0) (text left : List ℕ) → nfd text ≡ left → ((d : ℕ) → is_none d → ⊥) → GoesOnNone is_none left → text ≡ []
unfolding GoesOnNone
none_left is_none [] left is never goes = refl
none_left is_none (c ∷ text) [] is never goes = absurd (some_left c text is)
none_left is_none (c ∷ text) (d ∷ ds) is never goes = absurd (never d goes.0)

pub weaker : (P Q : ℕ → Type 0) → ((d : ℕ) → P d → Q d) → (text : List ℕ) → GoesOnNone P text → GoesOnNone Q text
unfolding GoesOnNone
weaker P Q turn [] h = tt
weaker P Q turn (d ∷ ds) h = (turn d h.0, λ mark. weaker P Q turn ds (h.1 mark))

-- ---- a character that begins contractions

module _ (reading : Reading) (c k bits : ℕ) (es : List Element) (stands : StandsBefore reading c es []) (front : List ℕ) (u : IsUnjoined (HasNoBit bits) k front) where
  unknown_goes : ((d : ℕ) → HasNoBit bits d → ⊥) → StandsBefore reading c es front
  unknown_goes never = subst (StandsBefore reading c es) (sym (none_left (HasNoBit bits) front (nfd front) refl never u.goes_on)) stands

  plain_goes : ArePlainFollowers reading c bits → StandsBefore reading c es front
  plain_goes h =
      let goes = weaker (HasNoBit bits) (BeginsNone h.context) (λ d no. apart_none h.context d (h.none d no)) (nfd front) u.goes_on in
      unjoined_stands reading c h.context h.begins h.no_numbers front k (record { rises = u.rises; goes_on = goes }) es stands

  composed_by : AreComposedFollowers reading c k bits → StandsBefore reading c es front
  composed_by h =
      let goes = weaker (HasNoBit bits) (NoneBeginsWithBoth h.context.mappings h.mark) h.none (nfd front) u.goes_on in
      composed_goes reading c h.context h.mark h.composed h.no_numbers front (record { rises = subst (λ n. Rises n front) (sym h.class) u.rises; goes_on = goes }) es stands

  front_goes : AreFollowers reading c k bits → StandsBefore reading c es front
  front_goes (inl never) = unknown_goes never
  front_goes (inr (inl h)) = plain_goes h
  front_goes (inr (inr h)) = composed_by h

stands-prop : (reading : Reading) (c : ℕ) (es : List Element) (text : List ℕ) → IsProp (StandsBefore reading c es text)
stands-prop reading c es text = hlevel (props, elements_set)

-- before a text that goes on none of what it begins it gives what it gives at the end of one
pub base_goes : (reading : Reading) (c : ℕ) (l : CharFacts) → IsBase reading c l → (text : List ℕ) → IsUnjoinedBefore reading (HasNoBit l.followers) l.class text
    → StandsBefore reading c (char_elements l) text
base_goes reading c l h text u =
    let own : StandsBefore reading c (char_elements l) [] = base_stands reading c l h in
    cut_stands reading c (char_elements l) text u.front u.rest u.parts u.boundary
    (∥∥₁_elim h.goes_on (stands-prop reading c (char_elements l) u.front) (front_goes reading c l.class l.followers (char_elements l) own u.front u.unjoined))

-- ---- what follows it

module _ (reading : Reading) (bits least c : ℕ) (l : CharFacts) (h : Serves reading c l) (uncut : l.has_boundary_before ≡ false) (no : bit_at bits (l.head % 64) ≡ 0) where
  no_bit : (d : ℕ) (more : List ℕ) → decompose Nfd c ≡ d ∷ more → HasNoBit bits d
  unfolding first_bits
  no_bit d more split =
      let head : d % 64 ≡ l.head = ap first_bits (sym split) ∙ h.head uncut in
      ap (bit_at bits) (omega (arith, head)) ∙ no

  starter_by : (ds : List ℕ) → decompose Nfd c ≡ ds → starts_with_starter ds ≡ true → (text : List ℕ) → IsUnjoinedBefore reading (HasNoBit bits) least (c ∷ text)
  unfolding starts_with_starter
  starter_by [] split starter text = cc
  starter_by (d ∷ ds) split starter text =
      let zero : class_of d ≡ 0 = eqb-true (class_of d) 0 starter in
      let heads : IsHead c d 0 = record { heads = record { more = ds; decomposes = split; alone = λ mark. absurd (true≢false (sym starter ∙ mark)) }; class = zero } in
      starter_before reading (HasNoBit bits) least c d 0 text heads refl (no_bit d ds split)

  pub starter_next : IsTrue l.begins_with_starter → (text : List ℕ) → IsUnjoinedBefore reading (HasNoBit bits) least (c ∷ text)
  starter_next begins text = starter_by (decompose Nfd c) refl (h.starter begins) text

  pub mark_next : l.kind ≡ Mark → l.class ≢ 0 → least ≤ l.class → (text : List ℕ) → IsUnjoinedBefore reading (HasNoBit bits) l.class text
      → IsUnjoinedBefore reading (HasNoBit bits) least (c ∷ text)
  mark_next is other fits text left =
      let mark = h.lone is in
      mark_before reading (HasNoBit bits) least c c l.class text (mark_heads c l.class mark) other fits (no_bit c [] mark.itself) left

-- ---- what is kept

pub serves : (reading : Reading) (c : ℕ) (l : CharFacts) → AreTrueFacts reading c l → Serves reading c l
unfolding starts_with_starter
serves reading c l h = record {
  starters = λ kind text. starters_stand reading c l text (h.starters kind);
  marked = λ kind text. marked_stand reading c l text (h.marked kind);
  mark = λ kind text. marks_stand reading c l text (h.mark kind);
  lone = λ kind. let m = h.mark kind in record { itself = m.itself; class = m.class };
  base = λ kind text u. base_goes reading c l (h.base kind) text u;
  digit = some_is l.digit (λ d. IsNumberDigit reading c d) h.digit;
  begins = λ begins. let b = h.begins begins in ends_runs c b.first b.more b.decomposes b.starter;
  starter = λ begins. let b = h.begins begins in ap starts_with_starter b.decomposes ∙ b.starter;
  boundary = λ boundary. may_be_cut reading c (h.boundary boundary);
  head = h.head;
}

pub Serves-prop : (reading : Reading) (c : ℕ) (l : CharFacts) → IsProp (Serves reading c l)
Serves-prop reading c l = hlevel (props, elements_set, characters_set)

pub KeptServes-prop : (reading : Reading) (c : ℕ) (k : Kept) → IsProp (KeptServes reading c k)
KeptServes-prop reading c Own = hlevel (props, elements_set)
KeptServes-prop reading c (Facts l) = Serves-prop reading c l.now
KeptServes-prop reading c Nothing = hlevel props

pub kept_serves : (reading : Reading) (c : ℕ) (k : Kept) → IsKept reading c k → KeptServes reading c k
kept_serves reading c Own h = own_serves reading c h
kept_serves reading c (Facts l) h = serves reading c l.now h
kept_serves reading c Nothing h = tt
