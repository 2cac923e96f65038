-- What the first primary weights of a text tell.
use Rattle.std.proofs.Common.{◌≡◌, ℕ, suc, ◌+◌, ◌<◌, ◌≤◌, Bool, true, false, ◌&&◌, ◌||◌, ◌==◌, nat_le, nat_lt, List, [], ◌∷◌, ◌++◌, Option, Some, None, ◌%◌, if◌then◌else◌, length, map, take, drop, get_or, refl, sym, ap, ◌∙◌, subst, arith, inl, inr, length-append, append_assoc, append-nil}
use Rattle.std.specs.Prelude.{not, find, slice_index}
use Rattle.std.specs.Ordering.{is_eq}
use Rattle.std.specs.declared.cmp.Ordering.TheVariants.{Equal}
use Rattle.std.proofs.lemmas.Bool.{cases_Bool, le-leb, lt-leb, lt-ltb, ne_eqb, or_right}
use Rattle.std.proofs.lemmas.List.{get_or-map, get_or_append_left, length-map, map-append, take-append-drop}
use Rattle.std.proofs.Math.Seq.{get_or-append_seam, take-suc}
use Rattle.icu_search_places.proofs.FoundLemmas.{eq_is}
use Rattle.icu_order_texts.proofs.HandledLemmas.{none_stayed}
use Rattle.unicode_normalization.specs.Forms.{nfd}
use Rattle.icu_options.specs.declared.settings.AlternateHandling.{AlternateHandling}
use Rattle.icu_table_entries.specs.Elements.{Element}
use Rattle.icu_table_entries.specs.ElementConditions.{separator_primary}
use Rattle.icu_element_reading.specs.TextElements.{elements_of}
use Rattle.icu_order_texts.specs.weighting.Collations.{Collation}
use Rattle.icu_order_texts.specs.weighting.Forms.{compression_of, last_variable_by}
use Rattle.icu_order_texts.specs.weighting.Handled.{HandledElement, stayed, is_variable, handled_variable, handled, stayed_elements}
use Rattle.icu_order_texts.specs.weighting.Levels.{weights, primaries}
use Rattle.icu_order_levels.specs.Keys.{primaries_order}
use Rattle.icu_order_levels.proofs.Order.{tied_lists}
use Rattle.icu_table_provider.specs.Reorderings.{Reordering, lead_byte, with_lead, lies_below, moved, reordered}
use Rattle.icu_table_provider.specs.CollatorTables.{reorder, reorder_by}
use Rattle.icu_order_texts.specs.TextOrder.{reading_by, lists_by, text_order}
use Rattle.icu_search.proofs.LongerPartLemmas.{first_tied}
use Rattle.icu_search.specs.inner.FirstWeights.{BeginsOtherwise, BeginsWith, counts, counted_primaries, low}

-- ---- the primary weights of a text are those of its elements that count

taken : (last : ℕ) (x : Element) (xs : List Element) → counts last x.primary ≡ true → counted_primaries last (x ∷ xs) ≡ x.primary ∷ counted_primaries last xs
unfolding counted_primaries
taken last x xs is = ap (λ b. if b then x.primary ∷ counted_primaries last xs else counted_primaries last xs) is

passed : (last : ℕ) (x : Element) (xs : List Element) → counts last x.primary ≡ false → counted_primaries last (x ∷ xs) ≡ counted_primaries last xs
unfolding counted_primaries
passed last x xs not = ap (λ b. if b then x.primary ∷ counted_primaries last xs else counted_primaries last xs) not

primaries-none : (x : Element) (xs : List Element) → (x.primary == 0) ≡ true → primaries (x ∷ xs) ≡ primaries xs
unfolding weights
primaries-none x xs none = ap (λ b. if b then primaries xs else x.primary ∷ primaries xs) none

primaries-some : (x : Element) (xs : List Element) → (x.primary == 0) ≡ false → primaries (x ∷ xs) ≡ x.primary ∷ primaries xs
unfolding weights
primaries-some x xs some = ap (λ b. if b then primaries xs else x.primary ∷ primaries xs) some

module _ (handling : AlternateHandling) (last : ℕ) where
  abbrev staying : Element → List Element → List HandledElement
  staying x xs = stayed x ∷ handled handling last false xs

  abbrev left : Bool → List Element → List ℕ
  left after es = primaries (stayed_elements (handled handling last after es))

  variable_first : (after : Bool) (x : Element) (xs : List Element) → is_variable last x ≡ true → left after (x ∷ xs) ≡ left true xs
  unfolding handled
  variable_first after x xs is =
      ap (λ b. primaries (stayed_elements (if b then handled_variable handling x.primary ++ handled handling last true xs else if after && x.primary == 0 then handled handling last true xs else staying x xs))) is
      ∙ ap primaries (none_stayed handling x.primary (handled handling last true xs))

  vanished_first : (after : Bool) (x : Element) (xs : List Element) → is_variable last x ≡ false → (after && x.primary == 0) ≡ true → left after (x ∷ xs) ≡ left true xs
  unfolding handled
  vanished_first after x xs is goes =
      ap (λ b. primaries (stayed_elements (if b then handled_variable handling x.primary ++ handled handling last true xs else if after && x.primary == 0 then handled handling last true xs else staying x xs))) is
      ∙ ap (λ b. primaries (stayed_elements (if b then handled handling last true xs else staying x xs))) goes

  stays_first : (after : Bool) (x : Element) (xs : List Element) → is_variable last x ≡ false → (after && x.primary == 0) ≡ false → left after (x ∷ xs) ≡ primaries (x ∷ stayed_elements (handled handling last false xs))
  unfolding handled
  stays_first after x xs is stays =
      ap (λ b. primaries (stayed_elements (if b then handled_variable handling x.primary ++ handled handling last true xs else if after && x.primary == 0 then handled handling last true xs else staying x xs))) is
      ∙ ap (λ b. primaries (stayed_elements (if b then handled handling last true xs else staying x xs))) stays

  -- whether a weight counts, by whether it is there and variable
  counts_by : (x : Element) (none variable : Bool) → (x.primary == 0) ≡ none → is_variable last x ≡ variable → counts last x.primary ≡ not (none || variable)
  counts_by x none variable zero_is is = ap (λ b. not (b || is_variable last x)) zero_is ∙ ap (λ b. not (none || b)) is

  pub handled_counted : (after : Bool) (es : List Element) → left after es ≡ counted_primaries last es
  unfolding handled counted_primaries weights
  handled_counted after [] = refl
  handled_counted after (x ∷ xs) =
      elim (cases_Bool (is_variable last x)) [
        | inl is ↦ elim (cases_Bool (x.primary == 0)) [
          | inl none ↦ variable_first after x xs is ∙ handled_counted true xs ∙ sym (passed last x xs (counts_by x true true none is))
          | inr some ↦ variable_first after x xs is ∙ handled_counted true xs ∙ sym (passed last x xs (counts_by x false true some is))
        ]
        | inr is ↦ elim (cases_Bool (x.primary == 0)) [
          | inl none ↦ elim (cases_Bool (after && x.primary == 0)) [
            | inl goes ↦ vanished_first after x xs is goes ∙ handled_counted true xs ∙ sym (passed last x xs (counts_by x true false none is))
            | inr stays ↦
                stays_first after x xs is stays ∙ primaries-none x (stayed_elements (handled handling last false xs)) none ∙ handled_counted false xs
                ∙ sym (passed last x xs (counts_by x true false none is))
          ]
          | inr some ↦
              stays_first after x xs is (ap (λ b. after && b) some ∙ never after)
              ∙ primaries-some x (stayed_elements (handled handling last false xs)) some
              ∙ ap (λ (l : List ℕ). x.primary ∷ l) (handled_counted false xs)
              ∙ sym (taken last x xs (counts_by x false false some is))
        ]
      ]
    where
      never : (b : Bool) → (b && false) ≡ false
      never true = refl
      never false = refl

pub primaries_counted : (c : Collation) (text : List ℕ) → (lists_by c (nfd text)).primaries ≡ counted_primaries (last_variable_by c) (elements_of (reading_by c) (nfd text))
unfolding lists_by
primaries_counted c text = handled_counted c.settings.alternate_handling (last_variable_by c) false (elements_of (reading_by c) (nfd text))

-- so many count
pub counted_weights : (c : Collation) (text : List ℕ) (es : List Element) → es ≡ elements_of (reading_by c) (nfd text)
    → length (counted_primaries (last_variable_by c) es) ≡ length (lists_by c (nfd text)).primaries
counted_weights c text es is =
    ap (λ (l : List Element). length (counted_primaries (last_variable_by c) l)) is ∙ sym (ap length (primaries_counted c text))

-- ---- some elements, and one more

pub counted-append : (last : ℕ) (xs ys : List Element) → counted_primaries last (xs ++ ys) ≡ counted_primaries last xs ++ counted_primaries last ys
unfolding counted_primaries
counted-append last [] ys = refl
counted-append last (x ∷ xs) ys =
    elim (cases_Bool (counts last x.primary)) [
      | inl is ↦ taken last x (xs ++ ys) is ∙ ap (λ (l : List ℕ). x.primary ∷ l) (counted-append last xs ys) ∙ ap (λ (l : List ℕ). l ++ counted_primaries last ys) (sym (taken last x xs is))
      | inr not ↦ passed last x (xs ++ ys) not ∙ counted-append last xs ys ∙ ap (λ (l : List ℕ). l ++ counted_primaries last ys) (sym (passed last x xs not))
    ]

pub nothing : (last : ℕ) → counted_primaries last [] ≡ []
unfolding counted_primaries
nothing last = refl

pub one_counts : (last : ℕ) (xs : List Element) (x : Element) → counts last x.primary ≡ true → counted_primaries last (xs ++ x ∷ []) ≡ counted_primaries last xs ++ x.primary ∷ []
one_counts last xs x is =
    counted-append last xs (x ∷ []) ∙ ap (λ (l : List ℕ). counted_primaries last xs ++ l) (taken last x [] is ∙ ap (λ (l : List ℕ). x.primary ∷ l) (nothing last))

pub one_counts_not : (last : ℕ) (xs : List Element) (x : Element) → counts last x.primary ≡ false → counted_primaries last (xs ++ x ∷ []) ≡ counted_primaries last xs
one_counts_not last xs x not =
    counted-append last xs (x ∷ []) ∙ ap (λ (l : List ℕ). counted_primaries last xs ++ l) (passed last x [] not ∙ nothing last) ∙ append-nil (counted_primaries last xs)

-- the elements up to an index, and the one there
pub one_more : (es : List Element) (i : ℕ) (x : Element) → i < length es → x ≡ get_or es i x → take (i + 1) es ≡ take i es ++ x ∷ []
one_more es i x inside is =
    let after : i + 1 ≡ suc i = omega arith in
    ap (λ n. take n es) after ∙ take-suc es i x inside ∙ ap (λ (y : Element). take i es ++ y ∷ []) (sym is)

-- ---- weights that are known to count

pub variable_counts_not : (last variable p : ℕ) → variable ≤ last → separator_primary < p → p ≤ variable → counts last p ≡ false
variable_counts_not last variable p fits above below =
    ap not (ap (λ b. p == 0 || (b && nat_le p last)) (lt-ltb separator_primary p above) ∙ ap (λ b. p == 0 || b) (le-leb p last (omega (arith, below, fits))) ∙ or_right (p == 0) true refl)

pub sure_counts : (last least p : ℕ) → last < least → least ≤ p → counts last p ≡ true
sure_counts last least p above there =
    let some : (p == 0) ≡ false = ne_eqb p 0 (λ e. omega (arith, above, there, e)) in
    let high : nat_le p last ≡ false = lt-leb p last (omega (arith, above, there)) in
    ap (λ b. not (b || (nat_lt separator_primary p && nat_le p last))) some ∙ ap (λ b. not (nat_lt separator_primary p && b)) high ∙ ap not (never (nat_lt separator_primary p))
  where
    never : (b : Bool) → (b && false) ≡ false
    never true = refl
    never false = refl

-- ---- lists that differ at an index

at_index : (xs ys : List ℕ) (p : ℕ) → get_or (xs ++ p ∷ ys) (length xs) 0 ≡ p
at_index xs ys p = get_or-append_seam xs p ys 0

-- a list that has so many weights, and then this one, has this one there as any list with which it begins
one_at : (a z r s : List ℕ) (p k : ℕ) → length a ≡ k → k < length z → a ++ (p ∷ s) ≡ z ++ r → p ≡ get_or z k 0
one_at a z r s p k size inside whole =
    sym (at_index a s p) ∙ ap (λ n. get_or (a ++ p ∷ s) n 0) size ∙ ap (λ (l : List ℕ). get_or l k 0) whole ∙ get_or_append_left z r 0 k inside

-- a list that ends before it has as many isn't one either
short_of : (a z r : List ℕ) (k : ℕ) → length a ≡ k → k < length z → a ≡ z ++ r → ⊥
short_of a z r k size inside whole = omega (arith, size, ap length whole, length-append z r, inside)

-- ---- reading the first elements of a text

-- Some elements were read, so many of which count, and these are left.
pub record ReadFirst (c : Collation) (text : List ℕ) (left : List ℕ → List Element) (met : ℕ) : Type 0 where
  pub gone : List Element
  pub before : List ℕ
  pub elements : elements_of (reading_by c) (nfd text) ≡ gone ++ left before
  pub count : length (counted_primaries (last_variable_by c) gone) ≡ met

module _ (c : Collation) (text : List ℕ) where
  abbrev last : ℕ
  last = last_variable_by c

  abbrev compared : List ℕ → List ℕ
  compared = map (reorder c.tables)

  -- the weights of the whole, by what was read
  whole : (gone more : List Element) → elements_of (reading_by c) (nfd text) ≡ gone ++ more
      → compared (lists_by c (nfd text)).primaries ≡ compared (counted_primaries last gone) ++ compared (counted_primaries last more)
  whole gone more is =
      ap compared (primaries_counted c text ∙ ap (counted_primaries last) is ∙ counted-append last gone more)
      ∙ map-append (reorder c.tables) (counted_primaries last gone) (counted_primaries last more)

  -- and by a part that begins as the front does
  front_whole : (front part rest more : List ℕ) → (lists_by c (nfd text)).primaries ≡ part ++ rest → compared part ≡ compared (front ++ more)
      → compared (lists_by c (nfd text)).primaries ≡ compared front ++ (compared more ++ compared rest)
  front_whole front part rest more is same =
      ap compared is ∙ map-append (reorder c.tables) part rest ∙ ap (λ (l : List ℕ). l ++ compared rest) (same ∙ map-append (reorder c.tables) front more)
      ∙ append_assoc (compared front) (compared more) (compared rest)

  pub first_read : (left : List ℕ → List Element) → left [] ≡ elements_of (reading_by c) (nfd text) → ReadFirst c text left 0
  first_read left is = record { gone = []; before = []; elements = sym is; count = ap length (nothing last) }

  module _ (old new : List ℕ → List Element) (met : ℕ) (x : Element) (r : ReadFirst c text old met) (next : (before : List ℕ) → (after : List ℕ) × (old before ≡ x ∷ new after)) where
    abbrev all_gone : List Element
    all_gone = r.gone ++ x ∷ []

    gone_on : elements_of (reading_by c) (nfd text) ≡ all_gone ++ new (next r.before).0
    gone_on = r.elements ∙ ap (λ (l : List Element). r.gone ++ l) (next r.before).1 ∙ sym (append_assoc r.gone (x ∷ []) (new (next r.before).0))

    -- one that doesn't count
    pub read_past : counts last x.primary ≡ false → ReadFirst c text new met
    read_past not = record { gone = all_gone; before = (next r.before).0; elements = gone_on; count = ap length (one_counts_not last r.gone x not) ∙ r.count }

    -- one that does
    pub read_on : counts last x.primary ≡ true → ReadFirst c text new (met + 1)
    read_on is = record {
      gone = all_gone;
      before = (next r.before).0;
      elements = gone_on;
      count = omega (arith, ap length (one_counts last r.gone x is), length-append (counted_primaries last r.gone) (x.primary ∷ []), r.count);
    }

    -- one that does, and is compared as another one than the front has there
    pub reads_other : (front : List ℕ) → counts last x.primary ≡ true → met < length front → (reorder c.tables x.primary ≡ reorder c.tables (get_or front met 0) → ⊥) → BeginsOtherwise c text front
    reads_other front is inside unlike = λ part rest more parts same.
        let f = reorder c.tables in
        let later = new (next r.before).0 in
        let gone = compared (counted_primaries last r.gone) in
        let read : compared (lists_by c (nfd text)).primaries ≡ gone ++ (f x.primary ∷ compared (counted_primaries last later)) =
        whole all_gone later gone_on
        ∙ ap (λ (l : List ℕ). compared l ++ compared (counted_primaries last later)) (one_counts last r.gone x is)
        ∙ ap (λ (l : List ℕ). l ++ compared (counted_primaries last later)) (map-append f (counted_primaries last r.gone) (x.primary ∷ []))
        ∙ append_assoc gone (f x.primary ∷ []) (compared (counted_primaries last later)) in
        unlike
        (one_at gone (compared front) (compared more ++ compared rest) (compared (counted_primaries last later)) (f x.primary) met
        (length-map (counted_primaries last r.gone) f ∙ r.count) (omega (arith, inside, length-map front f))
        (sym read ∙ front_whole front part rest more parts same)
        ∙ get_or-map f front met 0 0 inside)

  -- none is left: so many count
  pub reads_all : (old : List ℕ → List Element) (met : ℕ) → ReadFirst c text old met → ((before : List ℕ) → old before ≡ []) → met ≡ length (lists_by c (nfd text)).primaries
  reads_all old met r none =
      let all : elements_of (reading_by c) (nfd text) ≡ r.gone = r.elements ∙ ap (λ (l : List Element). r.gone ++ l) (none r.before) ∙ append-nil r.gone in
      sym r.count ∙ ap (λ (l : List Element). length (counted_primaries last l)) (sym all) ∙ sym (ap length (primaries_counted c text))

  -- none is left, and too few count
  pub reads_few : (front : List ℕ) (old : List ℕ → List Element) (met : ℕ) → ReadFirst c text old met → ((before : List ℕ) → old before ≡ []) → met < length front → BeginsOtherwise c text front
  reads_few front old met r none inside = λ part rest more parts same.
      let f = reorder c.tables in
      let gone = compared (counted_primaries last r.gone) in
      let read : compared (lists_by c (nfd text)).primaries ≡ gone =
      whole r.gone [] (r.elements ∙ ap (λ (l : List Element). r.gone ++ l) (none r.before))
      ∙ ap (λ (l : List ℕ). gone ++ compared l) (nothing last) ∙ append-nil gone in
      short_of (compared (lists_by c (nfd text)).primaries) (compared front) (compared more ++ compared rest) met
      (ap length read ∙ length-map (counted_primaries last r.gone) f ∙ r.count) (omega (arith, inside, length-map front f)) (front_whole front part rest more parts same)

-- ---- reordering changes lead bytes alone

either : (b : Bool) (x y p : ℕ) → low x ≡ low p → low y ≡ low p → low (if b then x else y) ≡ low p
either true x y p h k = h
either false x y p h k = k

with_lead_low : (b p : ℕ) → low (with_lead b p) ≡ low p
with_lead_low b p = omega arith

by_range : (o : Option ℕ) (p : ℕ) → low (elim o as (λ _. ℕ) [ Some range ↦ with_lead ((lead_byte p + range % 256) % 256) p | None ↦ p ]) ≡ low p
by_range (Some range) p = with_lead_low ((lead_byte p + range % 256) % 256) p
by_range None p = refl

moved_low : (ranges : List ℕ) (p : ℕ) → low (moved ranges p) ≡ low p
unfolding moved
moved_low ranges p = by_range (find (lies_below p) ranges) p

reordered_low : (r : Reordering) (p : ℕ) → low (reordered r p) ≡ low p
unfolding reordered
reordered_low r p =
    let lead = slice_index r.leads (lead_byte p) in
    either (not (lead == 0)) (with_lead lead p) (if nat_le p 1 || nat_le r.limit p then p else moved r.ranges p) p (with_lead_low lead p)
    (either (nat_le p 1 || nat_le r.limit p) p (moved r.ranges p) p refl (moved_low r.ranges p))

by_low : (o : Option Reordering) (p : ℕ) → low (reorder_by o p) ≡ low p
by_low None p = refl
by_low (Some r) p = reordered_low r p

-- weights whose lower bytes differ are compared as different ones
pub differ_below : (c : Collation) (p q : ℕ) → (low p ≡ low q → ⊥) → reorder c.tables p ≡ reorder c.tables q → ⊥
differ_below c p q apart same = apart (sym (by_low c.tables.reordering p) ∙ ap low same ∙ by_low c.tables.reordering q)

-- ---- parts with which a text begins

-- equal texts have the same primary weights, as they are compared
same_compared : (c : Collation) (part pattern : List ℕ) → is_eq (text_order c part pattern) ≡ true
    → map (reorder c.tables) (lists_by c (nfd part)).primaries ≡ map (reorder c.tables) (lists_by c (nfd pattern)).primaries
unfolding text_order
same_compared c part pattern equal =
    let t = lists_by c (nfd part) in
    let u = lists_by c (nfd pattern) in
    let f = reorder c.tables in
    let tied : primaries_order (compression_of c.tables) t u ≡ Equal = first_tied (primaries_order (compression_of c.tables) t u) _ (eq_is _ equal) in
    tied_lists (map f t.primaries) (map f u.primaries) tied

pub unequal_part : (c d : Collation) → d ≡ c → (text part rest pattern front : List ℕ) → BeginsOtherwise d text front → BeginsWith front (lists_by c (nfd pattern)).primaries
    → (lists_by c (nfd text)).primaries ≡ (lists_by c (nfd part)).primaries ++ rest → is_eq (text_order c part pattern) ≡ false
unequal_part c d same text part rest pattern front otherwise begins is =
    elim (cases_Bool (is_eq (text_order c part pattern))) [
      | inl equal ↦
          let ps = (lists_by c (nfd pattern)).primaries in
          let more = drop (length front) ps in
          let pattern_is : ps ≡ front ++ more = sym (take-append-drop (length front) ps) ∙ ap (λ (l : List ℕ). l ++ more) begins in
          let none : BeginsOtherwise c text front = subst (λ (e : Collation). BeginsOtherwise e text front) same otherwise in
          absurd (none (lists_by c (nfd part)).primaries rest more is (same_compared c part pattern equal ∙ ap (map (reorder c.tables)) pattern_is))
      | inr not ↦ not
    ]
