-- A text whose decomposition has a character that leads is parted there: before a character that decomposes to it
-- first.
use Rattle.std.proofs.Common.{◌≡◌, ℕ, true, false, not, List, [], ◌∷◌, ◌++◌, length, flat_map, refl, sym, ap, ◌∙◌, inl, inr, arith, length-append}
use Rattle.std.specs.List.{list_all}
use Rattle.std.proofs.lemmas.Bool.{cases_Bool, and_parts, true≢false}
use Rattle.icu_element_reading.proofs.boundaries.NfdLemmas.{low}
use Rattle.ucd_normal.specs.declared.forms.Form.TheVariants.{Nfd}
use Rattle.ucd_normal.specs.CanonicalCombiningClass.{canonical_combining_class as class_of}
use Rattle.unicode_normalization.specs.Decompose.{decompose}
use Rattle.unicode_normalization.specs.Order.{is_starter, is_reorderable, sink, canonical_order}
use Rattle.unicode_normalization.proofs.OrderLemmas.{canonical_order-nil, canonical_order-cons, sink-nil, sink-past, sink-stays, sink-starter, is_reorderable-true}
use Rattle.icu_search_places.specs.SearchPlaces.{leads}
use Rattle.icu_search_places.proofs.DecompositionTails.{Decomposes, decomposes}

abbrev head_or : ℕ → List ℕ → ℕ
head_or d [] = d
head_or d (x ∷ xs) = x

abbrev tail_of : List ℕ → List ℕ
tail_of [] = []
tail_of (x ∷ xs) = xs

none_left : (front : List ℕ) (x : ℕ) (back : List ℕ) → [] ≡ front ++ x ∷ back → ⊥
none_left front x back h = omega (arith, ap length h, length-append front (x ∷ back))

-- a starter is no mark
apart : (d x : ℕ) → is_starter d ≡ false → is_starter x ≡ true → d ≡ x → ⊥
apart d x mark starter same = true≢false (sym starter ∙ ap is_starter (sym same) ∙ mark)

-- ---- a mark that sinks stays before the next starter

record Sunk (d : ℕ) (text front : List ℕ) (x : ℕ) (back : List ℕ) : Type 0 where
  before : List ℕ
  text_is : text ≡ before ++ x ∷ back
  front_is : sink d before ≡ front

sunk_past : (d e : ℕ) (es front : List ℕ) (x : ℕ) (back : List ℕ) → is_reorderable d e ≡ true → is_starter x ≡ true → e ∷ sink d es ≡ front ++ x ∷ back
    → ((f : List ℕ) → sink d es ≡ f ++ x ∷ back → Sunk d es f x back) → Sunk d (e ∷ es) front x back
sunk_past d e es [] x back past starter h next =
    let some = (is_reorderable-true d e past).0 in
    let same : e ≡ x = ap (head_or 0) h in
    absurd (omega (arith, some, low x starter, ap class_of same))
sunk_past d e es (a ∷ front) x back past starter h next =
    let same : e ≡ a = ap (head_or 0) h in
    let n = next front (ap tail_of h) in
    record {
      before = e ∷ n.before;
      text_is = ap (λ (l : List ℕ). e ∷ l) n.text_is;
      front_is = sink-past d e n.before past ∙ ap (λ (l : List ℕ). e ∷ l) n.front_is ∙ ap (λ c. c ∷ front) same;
    }

sunk_stays : (d e : ℕ) (es front : List ℕ) (x : ℕ) (back : List ℕ) → is_reorderable d e ≡ false → is_starter d ≡ false → is_starter x ≡ true
    → d ∷ e ∷ es ≡ front ++ x ∷ back → Sunk d (e ∷ es) front x back
sunk_stays d e es [] x back stays mark starter h = absurd (apart d x mark starter (ap (head_or 0) h))
sunk_stays d e es (a ∷ []) x back stays mark starter h =
    let same : d ≡ a = ap (head_or 0) h in
    record { before = []; text_is = ap tail_of h; front_is = sink-nil d ∙ ap (λ c. c ∷ []) same }
sunk_stays d e es (a ∷ b ∷ front) x back stays mark starter h =
    let same : d ≡ a = ap (head_or 0) h in
    let next : e ≡ b = ap (λ (l : List ℕ). head_or 0 (tail_of l)) h in
    record {
      before = b ∷ front;
      text_is = ap tail_of h;
      front_is = sink-stays d b front (ap (is_reorderable d) (sym next) ∙ stays) ∙ ap (λ c. c ∷ b ∷ front) same;
    }

sunk : (d : ℕ) (text front : List ℕ) (x : ℕ) (back : List ℕ) → is_starter d ≡ false → is_starter x ≡ true → sink d text ≡ front ++ x ∷ back → Sunk d text front x back
sunk d [] [] x back mark starter h = absurd (apart d x mark starter (ap (head_or 0) (sym (sink-nil d) ∙ h)))
sunk d [] (a ∷ front) x back mark starter h = absurd (none_left front x back (ap tail_of (sym (sink-nil d) ∙ h)))
sunk d (e ∷ es) front x back mark starter h =
    elim (cases_Bool (is_reorderable d e)) [
      | inl past ↦ sunk_past d e es front x back past starter (sym (sink-past d e es past) ∙ h) (λ f. sunk d es f x back mark starter)
      | inr stays ↦ sunk_stays d e es front x back stays mark starter (sym (sink-stays d e es stays) ∙ h)
    ]

-- ---- text that is put in order, parted before a starter

pub record OrderSplits (text front : List ℕ) (x : ℕ) (back : List ℕ) : Type 0 where
  pub before : List ℕ
  pub after : List ℕ
  pub text_is : text ≡ before ++ x ∷ after
  pub front_is : canonical_order before ≡ front
  pub back_is : canonical_order after ≡ back

split_at_first : (d : ℕ) (ds front : List ℕ) (x : ℕ) (back : List ℕ) → is_starter d ≡ true → d ∷ canonical_order ds ≡ front ++ x ∷ back
    → ((f : List ℕ) → canonical_order ds ≡ f ++ x ∷ back → OrderSplits ds f x back) → OrderSplits (d ∷ ds) front x back
split_at_first d ds [] x back first h next =
    let same : d ≡ x = ap (head_or 0) h in
    record { before = []; after = ds; text_is = ap (λ c. c ∷ ds) same; front_is = canonical_order-nil; back_is = ap tail_of h }
split_at_first d ds (a ∷ front) x back first h next =
    let same : d ≡ a = ap (head_or 0) h in
    let n = next front (ap tail_of h) in
    record {
      before = d ∷ n.before;
      after = n.after;
      text_is = ap (λ (l : List ℕ). d ∷ l) n.text_is;
      front_is = canonical_order-cons d n.before ∙ sink-starter d (canonical_order n.before) (low d first) ∙ ap (λ (l : List ℕ). d ∷ l) n.front_is ∙ ap (λ c. c ∷ front) same;
      back_is = n.back_is;
    }

pub split_order : (text front : List ℕ) (x : ℕ) (back : List ℕ) → is_starter x ≡ true → canonical_order text ≡ front ++ x ∷ back → OrderSplits text front x back
split_order [] front x back starter h = absurd (none_left front x back (sym canonical_order-nil ∙ h))
split_order (d ∷ ds) front x back starter h =
    let sinks : sink d (canonical_order ds) ≡ front ++ x ∷ back = sym (canonical_order-cons d ds) ∙ h in
    elim (cases_Bool (is_starter d)) [
      | inl first ↦ split_at_first d ds front x back first (sym (sink-starter d (canonical_order ds) (low d first)) ∙ sinks) (λ f. split_order ds f x back starter)
      | inr mark ↦
          let s = sunk d (canonical_order ds) front x back mark starter sinks in
          let n = split_order ds s.before x back starter s.text_is in
          record {
            before = d ∷ n.before;
            after = n.after;
            text_is = ap (λ (l : List ℕ). d ∷ l) n.text_is;
            front_is = canonical_order-cons d n.before ∙ ap (sink d) n.front_is ∙ s.front_is;
            back_is = n.back_is;
          }
    ]

-- ---- text that is decomposed, parted before a character that leads

abbrev pub flat : List ℕ → List ℕ
flat = flat_map (decompose Nfd)

-- none of the characters behind the first one of a decomposition is it
record PassesTail (tail later front : List ℕ) (x : ℕ) (back : List ℕ) : Type 0 where
  rest : List ℕ
  front_is : front ≡ tail ++ rest
  later_is : later ≡ rest ++ x ∷ back

pass_tail : (tail later front : List ℕ) (x : ℕ) (back : List ℕ) → list_all (λ d. not (leads d)) tail ≡ true → leads x ≡ true → tail ++ later ≡ front ++ x ∷ back → PassesTail tail later front x back
pass_tail [] later front x back none leading h = record { rest = front; front_is = refl; later_is = h }
pass_tail (y ∷ ys) later [] x back none leading h =
    let here = (and_parts (not (leads y)) _ none).0 in
    let same : y ≡ x = ap (head_or 0) h in
    absurd (true≢false (sym here ∙ ap (λ c. not (leads c)) same ∙ ap not leading))
pass_tail (y ∷ ys) later (a ∷ front) x back none leading h =
    let same : y ≡ a = ap (head_or 0) h in
    let n = pass_tail ys later front x back (and_parts (not (leads y)) _ none).1 leading (ap tail_of h) in
    record {
      rest = n.rest;
      front_is = ap (λ c. c ∷ front) (sym same) ∙ ap (λ (l : List ℕ). y ∷ l) n.front_is;
      later_is = n.later_is;
    }

pub record CharSplits (text front : List ℕ) (x : ℕ) (back : List ℕ) : Type 0 where
  pub before : List ℕ
  pub char : ℕ
  pub after : List ℕ
  pub more : List ℕ
  pub text_is : text ≡ before ++ char ∷ after
  pub front_is : flat before ≡ front
  pub decomposes : decompose Nfd char ≡ x ∷ more
  pub back_is : more ++ flat after ≡ back

split_at_char : (d : ℕ) (ds front : List ℕ) (x : ℕ) (back : List ℕ) (k : Decomposes d) → leads x ≡ true → k.first ∷ (k.more ++ flat ds) ≡ front ++ x ∷ back
    → ((f : List ℕ) → flat ds ≡ f ++ x ∷ back → CharSplits ds f x back) → CharSplits (d ∷ ds) front x back
split_at_char d ds [] x back k leading h next =
    let same : k.first ≡ x = ap (head_or 0) h in
    record {
      before = [];
      char = d;
      after = ds;
      more = k.more;
      text_is = refl;
      front_is = refl;
      decomposes = k.is ∙ ap (λ c. c ∷ k.more) same;
      back_is = ap tail_of h;
    }
split_at_char d ds (a ∷ front) x back k leading h next =
    let same : k.first ≡ a = ap (head_or 0) h in
    let p = pass_tail k.more (flat ds) front x back k.behind leading (ap tail_of h) in
    let n = next p.rest p.later_is in
    record {
      before = d ∷ n.before;
      char = n.char;
      after = n.after;
      more = n.more;
      text_is = ap (λ (l : List ℕ). d ∷ l) n.text_is;
      front_is =
          ap (λ (l : List ℕ). decompose Nfd d ++ l) n.front_is ∙ ap (λ (l : List ℕ). l ++ p.rest) k.is
          ∙ ap (λ c. c ∷ (k.more ++ p.rest)) same ∙ ap (λ (l : List ℕ). a ∷ l) (sym p.front_is);
      decomposes = n.decomposes;
      back_is = n.back_is;
    }

pub split_chars : (text front : List ℕ) (x : ℕ) (back : List ℕ) → leads x ≡ true → flat text ≡ front ++ x ∷ back → CharSplits text front x back
split_chars [] front x back leading h = absurd (none_left front x back h)
split_chars (d ∷ ds) front x back leading h =
    let k = decomposes d in
    split_at_char d ds front x back k leading (sym (ap (λ (l : List ℕ). l ++ flat ds) k.is) ∙ h) (λ f. split_chars ds f x back leading)
