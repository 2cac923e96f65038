-- Marks of ASCII characters, and what those tell with which a text begins.
use Rattle.std.proofs.Common.{◌≡◌, ◌⊎◌, ℕ, Bool, true, false, nat_lt, List, [], ◌∷◌, ◌++◌, Option, Some, None, if◌then◌else◌, get_or, ◌<◌, ◌≤◌, length, set, replicate, refl, sym, ap, ◌∙◌, subst, arith, inl, inr}
use Rattle.std.specs.Prelude.{IfSome}
use Rattle.std.proofs.lemmas.Bool.{cases_eq, cases_lt, and_from, and_parts, and_right, false≢true}
use Rattle.std.proofs.lemmas.Grind.{common_steps}
use Rattle.std.proofs.lemmas.List.{append-nil, get_or-set_other, get_or-set_same, get_or_past, length-set}
use Rattle.icu_search.proofs.ApartLeadLemmas.{unmarked}
use Rattle.ucd_normal.specs.declared.forms.Form.TheVariants.{Nfd}
use Rattle.unicode_normalization.specs.Decompose.{decompose}
use Rattle.unicode_normalization.specs.Forms.{nfd}
use Rattle.icu_element_reading.specs.boundaries.Cuts.{IsBoundary}
use Rattle.icu_element_reading.proofs.boundaries.CutLemmas.{boundary_cut}
use Rattle.icu_table_entries.specs.Elements.{Element}
use Rattle.icu_element_reading.specs.TextElements.{Reading, elements_of}
use Rattle.icu_order_texts.specs.weighting.Collations.{Collation}
use Rattle.icu_order_texts.specs.weighting.Forms.{last_variable_by}
use Rattle.icu_order_texts.specs.TextOrder.{reading_by, lists_by}
use Rattle.icu_search_places.specs.PieceLaws.{BeginsPieces}
use Rattle.icu_search_places.specs.SearchPlaces.{leads}
use Rattle.icu_search.specs.inner.AsciiMarks.{has_mark, counted_char, opens_with_primary, AllMarked, BeginsCut, BeginsWithOther, CountChars, GivesNothing, LeadsPieces, LeadsWithPrimary, OpensOtherwise, OpensSilently}
use Rattle.icu_search.specs.inner.SilentStarts.{begins_with_primary}
use Rattle.icu_search.specs.inner.FirstWeights.{BeginsOtherwise}
use Rattle.icu_search.proofs.FirstWeightLemmas.{first_read, reads_other}
use Rattle.icu_search.proofs.SilentElementLemmas.{silent_gives_none}

-- ---- marks

pub char_marked : (old : List Bool) (c k : ℕ) → has_mark (set old c true) k ≡ true → (k ≡ c) ⊎ (has_mark old k ≡ true)
char_marked old c k is =
    let parts = and_parts (nat_lt k 0x80) _ is in
    elim (cases_eq k c) [
      | inl same ↦ inl same
      | inr other ↦ inr (and_from (nat_lt k 0x80) _ parts.0 (sym (get_or-set_other old c k true false other) ∙ parts.1))
    ]

pub none_marked : (is : ℕ → Type 0) → AllMarked is (replicate 128 false)
none_marked is = λ c marked. absurd (false≢true (sym (and_right (nat_lt c 0x80) _ (unmarked 128 c)) ∙ marked))

pub one_more_marked : (is : ℕ → Type 0) (old new : List Bool) (c : ℕ) → AllMarked is old → is c → ((k : ℕ) → has_mark new k ≡ true → (k ≡ c) ⊎ (has_mark old k ≡ true)) → AllMarked is new
one_more_marked is old new c all this only = λ k marked.
    elim (only k marked) as (λ _. is k) [
      | inl same ↦ subst is (sym same) this
      | inr there ↦ all k there
    ]

-- ---- characters before which texts may be cut

pub leads_pieces : (reading : Reading) (x : ℕ) → BeginsPieces reading x → LeadsPieces reading x
leads_pieces reading x b =
    let first : get_or (decompose Nfd x) 0 0 ≡ b.first = ap (λ (l : List ℕ). get_or l 0 0) b.decomposes in
    record {
      some = omega (arith, ap length b.decomposes);
      boundary = subst (IsBoundary reading) (sym first) b.boundary;
      leading = ap leads first ∙ b.leading;
    }

by_first : (reading : Reading) (x : ℕ) (l : List ℕ) → decompose Nfd x ≡ l → 0 < length l → IsBoundary reading (get_or l 0 0) → leads (get_or l 0 0) ≡ true → BeginsPieces reading x
by_first reading x [] is some boundary leading = absurd (omega (arith, some))
by_first reading x (y ∷ ys) is some boundary leading = record { first = y; more = ys; decomposes = is; boundary = boundary; leading = leading }

pub begins_pieces : (reading : Reading) (x : ℕ) → LeadsPieces reading x → BeginsPieces reading x
begins_pieces reading x l = by_first reading x (decompose Nfd x) refl l.some l.boundary l.leading

-- ---- the first two characters of a text

other_begins : (c : Collation) (front : List ℕ) (x y : ℕ) (tail : List ℕ) → BeginsWithOther c front x → BeginsPieces (reading_by c) y → BeginsOtherwise c (x ∷ y ∷ tail) front
other_begins c front x y tail o cut =
    let reading = reading_by c in
    let later : List Element = o.rest ++ elements_of reading (nfd (y ∷ tail)) in
    let all : elements_of reading (nfd (x ∷ y ∷ tail)) ≡ o.element ∷ later =
    boundary_cut reading y cut.first cut.more tail cut.decomposes cut.boundary [] (x ∷ [])
    ∙ ap (λ (es : List Element). es ++ elements_of reading (nfd (y ∷ tail))) o.elements in
    let first : List ℕ → List Element = λ _. o.element ∷ later in
    reads_other c (x ∷ y ∷ tail) first (λ _. later) 0 o.element
    (first_read c (x ∷ y ∷ tail) first (sym all)) (λ before. (before, refl)) front o.counted o.some o.other

pub opens_otherwise : (c : Collation) (front : List ℕ) (x : ℕ) → BeginsWithOther c front x → OpensOtherwise c front x
opens_otherwise c front x o = λ y tail cut. other_begins c front x y tail o cut

pub first_two : (l : List ℕ) (x y d e : ℕ) → 2 ≤ length l → x ≡ get_or l 0 d → y ≡ get_or l 1 e → (tail : List ℕ) × (l ≡ x ∷ y ∷ tail)
first_two [] x y d e long first second = absurd (omega (arith, long))
first_two (a ∷ []) x y d e long first second = absurd (omega (arith, long))
first_two (a ∷ b ∷ t) x y d e long first second = (t, ap (λ (k : ℕ). k ∷ b ∷ t) (sym first) ∙ ap (λ (k : ℕ). x ∷ k ∷ t) (sym second))

-- ---- characters that give nothing

opens_still : (es more : List Element) → opens_with_primary es ≡ true → begins_with_primary (es ++ more) ≡ true
opens_still [] more h = absurd (false≢true h)
opens_still (x ∷ xs) more h = h

leads_on : (c : Collation) (y : ℕ) (tail : List ℕ) → LeadsWithPrimary c y → BeginsCut (reading_by c) tail → begins_with_primary (elements_of (reading_by c) (nfd (y ∷ tail))) ≡ true
leads_on c y [] l cut =
    let own : List Element = elements_of (reading_by c) (nfd (y ∷ [])) in
    ap begins_with_primary (sym (append-nil own)) ∙ opens_still own [] l
leads_on c y (z ∷ zs) l cut =
    let reading = reading_by c in
    let own : List Element = elements_of reading (nfd (y ∷ [])) in
    let more : List Element = elements_of reading (nfd (z ∷ zs)) in
    let all : elements_of reading (nfd (y ∷ z ∷ zs)) ≡ own ++ more = boundary_cut reading z cut.first cut.more zs cut.decomposes cut.boundary [] (y ∷ []) in
    ap begins_with_primary all ∙ opens_still own more l

pub opens_silently : (c : Collation) (text : List ℕ) (x y : ℕ) (tail : List ℕ) → text ≡ x ∷ y ∷ tail → GivesNothing c x → LeadsWithPrimary c y → BeginsPieces (reading_by c) y → BeginsCut (reading_by c) tail
    → OpensSilently c text
opens_silently c text x y tail is nothing leading cut next = record {
  char = x;
  next = y;
  tail = tail;
  text_is = is;
  silent = record { pieces = cut; silent = silent_gives_none (last_variable_by c) (elements_of (reading_by c) (nfd (x ∷ []))) nothing.silent false; either = inr (leads_on c y tail leading next) };
  ends = nothing.ends;
}

-- ---- how many weights each has

none_some : (n : ℕ) → None ≡ Some n → ⊥
none_some n e = cc

abbrev unknown : Option ℕ
unknown = None

uncounted : (n l : ℕ) → get_or (replicate n unknown) l unknown ≡ unknown
uncounted n l = grind (arith, common_steps)

count_there : (b : Bool) (p : Option ℕ) (n : ℕ) → (if b then p else None) ≡ Some n → p ≡ Some n
count_there true p n is = is
count_there false p n is = absurd (none_some n is)

pub no_counts : (c : Collation) → CountChars c (replicate 128 None)
no_counts c = λ x n is.
    absurd (none_some n (sym (uncounted 128 x) ∙ count_there (nat_lt x 0x80) (get_or (replicate 128 unknown) x unknown) n is))

pub one_more_count : (c : Collation) (old : List (Option ℕ)) (k : ℕ) (o : Option ℕ) → CountChars c old → IfSome o (λ n. n ≡ length (lists_by c (nfd (k ∷ []))).primaries) → CountChars c (set old k o)
one_more_count c old k o all this = λ x n is.
    elim (cases_eq x k) as (λ _. n ≡ length (lists_by c (nfd (x ∷ []))).primaries) [
      | inl same ↦
          let there : get_or (set old k o) k None ≡ Some n = ap (λ i. get_or (set old k o) i None) (sym same) ∙ count_there (nat_lt x 0x80) (get_or (set old k o) x None) n is in
          let it : o ≡ Some n = stored n there in
          let count : n ≡ length (lists_by c (nfd (k ∷ []))).primaries = subst (λ (o : Option ℕ). IfSome o (λ n. n ≡ length (lists_by c (nfd (k ∷ []))).primaries)) it this in
          count ∙ ap (λ (y : ℕ). length (lists_by c (nfd (y ∷ []))).primaries) (sym same)
      | inr other ↦ all x n (ap (λ (o : Option ℕ). if nat_lt x 0x80 then o else None) (sym (get_or-set_other old k x o None other)) ∙ is)
    ]
  where
    stored : (n : ℕ) → get_or (set old k o) k None ≡ Some n → o ≡ Some n
    stored n there =
        elim (cases_lt k (length old)) as (λ _. o ≡ Some n) [
          | inl inside ↦ sym (get_or-set_same old k o None inside) ∙ there
          | inr past ↦ absurd (none_some n (sym (get_or_past (set old k o) k None (omega (arith, past, length-set old k o))) ∙ there))
        ]

pub counted_if : (c : Collation) (counts : List (Option ℕ)) (x : ℕ) (o : Option ℕ) → CountChars c counts → o ≡ counted_char counts x → IfSome o (λ n. n ≡ length (lists_by c (nfd (x ∷ []))).primaries)
counted_if c counts x None all is = tt
counted_if c counts x (Some n) all is = all x n (sym is)

-- ---- texts that begin with a cut

pub cut_first : (reading : Reading) (l : List ℕ) (x d : ℕ) → 1 ≤ length l → x ≡ get_or l 0 d → BeginsPieces reading x → BeginsCut reading l
cut_first reading [] x d some is cut = absurd (omega (arith, some))
cut_first reading (y ∷ ys) x d some is cut = subst (BeginsPieces reading) is cut
