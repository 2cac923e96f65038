-- What is kept of a character by tests is what is known of it.
use Rattle.std.proofs.Common.{◌≡◌, ◌==◌, ◌&&◌, ℕ, Bool, true, false, not, List, [], ◌∷◌, refl, ap, ◌∙◌, is_some, arith, Option, Some, None, IfSome, subst}
use Rattle.std.proofs.lemmas.Bool.{eqb-true}
use Rattle.std.proofs.lemmas.Bool.Decides.{nat_tests}
use Rattle.ucd_normal.specs.declared.forms.Form.TheVariants.{Nfd}
use Rattle.unicode_normalization.specs.Decompose.{decompose}
use Rattle.unicode_normalization.specs.Order.{is_starter}
use Rattle.icu_table_entries.specs.Elements.{Element}
use Rattle.icu_element_reading.specs.TextElements.{Reading, continues_number}
use Rattle.icu_element_reading.specs.boundaries.Alone.{elements_of_char, is_alone}
use Rattle.icu_table_provider.specs.well_formed.MappingCharacters.{is_named, is_named_by_tailoring}
use Rattle.icu_element_reading.specs.boundaries.Cuts.{IsBoundary, has_prefix}
use Rattle.icu_element_reading.specs.boundaries.BoundaryTables.{HasBoundaryBefore}
use Rattle.icu_element_facts.specs.KeptFacts.{BeginsWithStarter, AreFirstFacts, AreTrueFacts, IsNumberDigit, IsMarkedStarter, HasLeadingPrimary, StandsAlone}
use Rattle.icu_element_facts.specs.KeptChars.{KeptChar, begins_with, is_marked_starter, is_boundary_place, starts_at_boundary, starts_with_primary, starts_with_starter}
use Rattle.icu_element_facts.specs.declared.char_facts.CharFacts.{CharFacts}

-- ---- tests, one by one

pub both : (a b : Bool) → a ≡ true → b ≡ true → (a && b) ≡ true
both a b h k = rw (h, k) refl

pub first : (a b : Bool) → (a && b) ≡ true → a ≡ true
first true b h = refl
first false b h = cc

second : (a b : Bool) → (a && b) ≡ true → b ≡ true
second true b h = h
second false b h = cc

unset : (a : Bool) → not a ≡ true → a ≡ false
unset true h = cc
unset false h = refl

same : (p q : ℕ) → p ≡ q → (p == q) ≡ true
same p q e = grind (arith, nat_tests)

-- ---- boundaries

boundary_tests : (reading : Reading) (x : ℕ) → IsBoundary reading x → is_boundary_place reading x ≡ true
boundary_tests reading x h = rw (h.starter, h.root, h.tailoring, h.no_prefix, h.no_number) refl

module _ (reading : Reading) (x : ℕ) where
  abbrev root : Bool
  root = is_named x reading.tables.root

  abbrev tailoring : Bool
  tailoring = is_named_by_tailoring x reading.tables.tailoring

  abbrev prefix : Bool
  prefix = has_prefix reading.tables x

  abbrev number : Bool
  number = is_some reading.numeric && continues_number reading.tables x

  boundary_from : is_boundary_place reading x ≡ true → IsBoundary reading x
  boundary_from h =
      let a = second (is_starter x) _ h in
      let b = second (not root) _ a in
      let c = second (not tailoring) _ b in
      record {
        starter = first (is_starter x) _ h;
        root = unset root (first (not root) _ a);
        tailoring = unset tailoring (first (not tailoring) _ b);
        no_prefix = unset prefix (first (not prefix) _ c);
        no_number = unset number (second (not prefix) _ c);
      }

-- ---- digits

pub some_is : (o : Option ℕ) (P : ℕ → Type 0) → IfSome o P → (d : ℕ) → o ≡ Some d → P d
some_is (Some e) P h d is = let same : e ≡ d = cc in subst P same h
some_is None P h d is = absurd (cc)

if_some : (o : Option ℕ) (P : ℕ → Type 0) → ((d : ℕ) → o ≡ Some d → P d) → IfSome o P
if_some (Some d) P h = h d refl
if_some None P h = tt

-- ---- from what is known to what is kept

pub kept_facts : (reading : Reading) (c : ℕ) (l : CharFacts) → AreTrueFacts reading c l → KeptChar reading c l
unfolding starts_with_starter starts_at_boundary starts_with_primary is_marked_starter
kept_facts reading c l h = record {
  starters = h.starters;
  marked_alone = λ e. (h.marked e).stands;
  marked = λ e. let m = h.marked e in ap (is_marked_starter l.class) m.decomposes ∙ both _ _ m.starter m.in_order;
  mark = h.mark;
  base = h.base;
  digit = some_is l.digit (λ d. IsNumberDigit reading c d) h.digit;
  begins = λ e. let b = h.begins e in ap starts_with_starter b.decomposes ∙ b.starter;
  boundary = λ e. let s = h.boundary e in ap (starts_at_boundary reading) s.decomposes ∙ boundary_tests reading s.first s.boundary;
  head = h.head;
  leads = λ e. let p = h.leads e in
      ap (starts_with_primary reading l.leading_primary) p.decomposes
      ∙ both _ _ p.starter (both _ _ p.alone (ap (begins_with l.leading_primary) p.elements ∙ same p.element.primary l.leading_primary p.leading));
}

-- ---- and back

module _ (reading : Reading) (c : ℕ) where
  marked_from : (l : CharFacts) (ds : List ℕ) → decompose Nfd c ≡ ds → StandsAlone reading c l → is_marked_starter l.class ds ≡ true → IsMarkedStarter reading c l
  unfolding is_marked_starter
  marked_from l [] e s h = cc
  marked_from l (d ∷ ds) e s h = record {
    base = d;
    marks = ds;
    stands = s;
    decomposes = e;
    starter = first (is_starter d) _ h;
    in_order = second (is_starter d) _ h;
  }

  starter_from : (ds : List ℕ) → decompose Nfd c ≡ ds → starts_with_starter ds ≡ true → BeginsWithStarter c
  unfolding starts_with_starter
  starter_from [] e h = cc
  starter_from (d ∷ ds) e h = record { first = d; more = ds; decomposes = e; starter = h }

  at_boundary_from : (ds : List ℕ) → decompose Nfd c ≡ ds → starts_at_boundary reading ds ≡ true → HasBoundaryBefore reading c
  unfolding starts_at_boundary
  at_boundary_from [] e h = cc
  at_boundary_from (d ∷ ds) e h = record { first = d; more = ds; decomposes = e; boundary = boundary_from reading d h }

  element_leads : (p d : ℕ) (ds : List ℕ) (es : List Element) → decompose Nfd c ≡ d ∷ ds → is_starter d ≡ true → is_alone reading d ≡ true
      → elements_of_char reading.tables d ≡ es → begins_with p es ≡ true → HasLeadingPrimary reading c p
  element_leads p d ds [] e s a f h = cc
  element_leads p d ds (x ∷ xs) e s a f h = record {
    first = d;
    more = ds;
    element = x;
    rest = xs;
    decomposes = e;
    starter = s;
    alone = a;
    elements = f;
    leading = eqb-true x.primary p h;
  }

  leads_from : (p : ℕ) (ds : List ℕ) → decompose Nfd c ≡ ds → starts_with_primary reading p ds ≡ true → HasLeadingPrimary reading c p
  unfolding starts_with_primary
  leads_from p [] e h = cc
  leads_from p (d ∷ ds) e h =
      let a = second (is_starter d) _ h in
      element_leads p d ds _ e (first (is_starter d) _ h) (first (is_alone reading d) _ a) refl (second (is_alone reading d) _ a)

  pub known_facts : (l : CharFacts) → KeptChar reading c l → AreTrueFacts reading c l
  known_facts l h = record {
    starters = h.starters;
    marked = λ e. marked_from l _ refl (h.marked_alone e) (h.marked e);
    mark = h.mark;
    base = h.base;
    digit = if_some l.digit (λ d. IsNumberDigit reading c d) h.digit;
    begins = λ e. starter_from _ refl (h.begins e);
    boundary = λ e. at_boundary_from _ refl (h.boundary e);
    leads = λ e. leads_from l.leading_primary _ refl (h.leads e);
    head = h.head;
  }

-- ---- of the texts that begin with the character

pub facts_first : (reading : Reading) (c : ℕ) (l : CharFacts) → AreTrueFacts reading c l → AreFirstFacts reading c l
facts_first reading c l h = record { base = h.base; begins = h.begins; boundary = h.boundary; leads = h.leads; head = h.head }
