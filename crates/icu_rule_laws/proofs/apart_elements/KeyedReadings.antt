-- What a level reads of elements, as they are handled, is determined by what it reads of each: elements of which it
-- reads nothing may be left out.
use Rattle.std.proofs.Common.{◌≡◌, ℕ, Bool, true, false, ◌&&◌, ◌==◌, nat_lt, nat_le, cond, List, [], ◌∷◌, ◌++◌, map, filter, if◌then◌else◌, refl, ap, sym, ◌∙◌, arith}
use Rattle.std.proofs.lemmas.Bool.Decides.{nat_tests}
use Rattle.icu_options.specs.declared.settings.AlternateHandling.{AlternateHandling}
use Rattle.icu_table_entries.specs.Elements.{Element}
use Rattle.icu_table_entries.specs.ElementConditions.{separator_primary}
use Rattle.icu_order_texts.specs.weighting.Handled.{HandledElement, stayed, handled, handled_variable, is_variable}

-- without a primary an element isn't variable
not_variable : (last p : ℕ) → p ≡ 0 → (nat_lt separator_primary p && nat_le p last) ≡ false
not_variable last p e = grind (arith, nat_tests)

pub first_same : {A : Type 0} {x y : A} {xs ys : List A} → x ∷ xs ≡ y ∷ ys → x ≡ y
first_same {A} {x} {y} {xs} {ys} e = ap (λ l. elim l as (λ _. A) [ [] ↦ x | z ∷ zs ↦ z ]) e

pub rest_same : {A : Type 0} {x y : A} {xs ys : List A} → x ∷ xs ≡ y ∷ ys → xs ≡ ys
rest_same {A} {x} {y} {xs} {ys} e = ap (λ l. elim l as (λ _. List A) [ [] ↦ xs | z ∷ zs ↦ zs ]) e

-- How a level reads handled elements, one after another, by a key that determines what it reads of each.
pub record ReadsByKey {R K : Type 0} (read : List HandledElement → R) (step : HandledElement → R → R) (key : Element → K) (counts : K → Bool) : Type 0 where
  pub turn : (h : HandledElement) (hs : List HandledElement) → read (h ∷ hs) ≡ step h (read hs)
  pub alike : (x y : Element) → key x ≡ key y → (r : R) → step (stayed x) r ≡ step (stayed y) r
  pub alike_primary : (x y : Element) → key x ≡ key y → x.primary ≡ y.primary
  pub quiet : (x : Element) → counts (key x) ≡ false → (r : R) → step (stayed x) r ≡ r
  pub quiet_primary : (x : Element) → counts (key x) ≡ false → x.primary ≡ 0

module _ {R K : Type 0} (read : List HandledElement → R) (step : HandledElement → R → R) (key : Element → K) (counts : K → Bool)
    (reads : ReadsByKey read step key counts) (handling : AlternateHandling) (last : ℕ) where
  abbrev at : Bool → List Element → List HandledElement
  at after es = handled handling last after es

  before_alike : (hs us bs : List HandledElement) → read us ≡ read bs → read (hs ++ us) ≡ read (hs ++ bs)
  before_alike [] us bs e = e
  before_alike (h ∷ hs) us bs e =
      reads.turn h (hs ++ us) ∙ ap (step h) (before_alike hs us bs e) ∙ sym (reads.turn h (hs ++ bs))

  -- elements of one key, and what is read alike after them
  module _ (x y : Element) (same : key x ≡ key y) (us bs cs ds : List HandledElement) (e : read us ≡ read bs) (f : read cs ≡ read ds) where
    one_alike : (p : ℕ) (v w : Bool)
        → read (if v then handled_variable handling p ++ us else if w then us else stayed x ∷ cs)
        ≡ read (if v then handled_variable handling p ++ bs else if w then bs else stayed y ∷ ds)
    one_alike p true w = before_alike (handled_variable handling p) us bs e
    one_alike p false true = e
    one_alike p false false =
        reads.turn (stayed x) cs ∙ reads.alike x y same (read cs) ∙ ap (step (stayed y)) f ∙ sym (reads.turn (stayed y) ds)

  -- elements with the same keys are read alike
  pub all_alike : (after : Bool) (xs ys : List Element) → map key xs ≡ map key ys → read (at after xs) ≡ read (at after ys)
  unfolding handled
  all_alike after [] [] e = refl
  all_alike after [] (y ∷ ys) e = cc
  all_alike after (x ∷ xs) [] e = cc
  all_alike after (x ∷ xs) (y ∷ ys) e =
      let rest : map key xs ≡ map key ys = rest_same e in
      one_alike x y (first_same e) _ _ _ _ (all_alike true xs ys rest) (all_alike false xs ys rest) x.primary (is_variable last x) (after && x.primary == 0)
      ∙ ap (λ p. read (if nat_lt separator_primary p && nat_le p last then handled_variable handling p ++ at true ys
      else if after && p == 0 then at true ys else stayed y ∷ at false ys)) (reads.alike_primary x y (first_same e))

  -- ---- elements of which nothing is read may be left out

  abbrev counted : List Element → List Element
  counted es = filter (λ x. counts (key x)) es

  -- an element, and the elements after it with others left out
  module _ (x : Element) (us bs cs ds : List HandledElement) (e : read us ≡ read bs) (f : read cs ≡ read ds) where
    same_first : (p : ℕ) (v w : Bool)
        → read (if v then handled_variable handling p ++ us else if w then us else stayed x ∷ cs)
        ≡ read (if v then handled_variable handling p ++ bs else if w then bs else stayed x ∷ ds)
    same_first = one_alike x x refl us bs cs ds e f

  module _ (x : Element) (quiet : (r : R) → step (stayed x) r ≡ r) (none : x.primary ≡ 0) (xs : List Element) where
    left_out : (after : Bool) → read (at after (counted xs)) ≡ read (at after xs) → read (at after (counted xs)) ≡ read (at after (x ∷ xs))
    unfolding handled
    left_out true e =
        e ∙ ap (λ p. read (if nat_lt separator_primary p && nat_le p last then handled_variable handling p ++ at true xs
        else if true && p == 0 then at true xs else stayed x ∷ at false xs)) (sym none)
    left_out false e =
        e ∙ sym (quiet (read (at false xs))) ∙ sym (reads.turn (stayed x) (at false xs))
        ∙ ap (λ p. read (if nat_lt separator_primary p && nat_le p last then handled_variable handling p ++ at true xs
        else if false && p == 0 then at true xs else stayed x ∷ at false xs)) (sym none)

  mutual_step : (b : Bool) (x : Element) (xs : List Element) → counts (key x) ≡ b
      → ((after : Bool) → read (at after (counted xs)) ≡ read (at after xs))
      → (after : Bool) → read (at after (cond b (x ∷ counted xs) (counted xs))) ≡ read (at after (x ∷ xs))
  unfolding handled
  mutual_step true x xs c h after =
      same_first x _ _ _ _ (h true) (h false) x.primary (is_variable last x) (after && x.primary == 0)
  mutual_step false x xs c h after = left_out x (reads.quiet x c) (reads.quiet_primary x c) xs after (h after)

  none_left_out : (es : List Element) (after : Bool) → read (at after (counted es)) ≡ read (at after es)
  none_left_out [] after = refl
  none_left_out (x ∷ xs) after = mutual_step (counts (key x)) x xs refl (none_left_out xs) after

  -- keys of which something is read
  keys_chosen : (b : Bool) (x : Element) (xs : List Element) → filter counts (map key xs) ≡ map key (counted xs)
      → cond b (key x ∷ filter counts (map key xs)) (filter counts (map key xs)) ≡ map key (cond b (x ∷ counted xs) (counted xs))
  keys_chosen true x xs e = ap (λ ks. key x ∷ ks) e
  keys_chosen false x xs e = e

  keys_counted : (es : List Element) → filter counts (map key es) ≡ map key (counted es)
  keys_counted [] = refl
  keys_counted (x ∷ xs) = keys_chosen (counts (key x)) x xs (keys_counted xs)

  -- elements are read alike if those of which something is read have the same keys
  pub read_alike : (after : Bool) (xs ys : List Element) → filter counts (map key xs) ≡ filter counts (map key ys)
      → read (at after xs) ≡ read (at after ys)
  read_alike after xs ys e =
      sym (none_left_out xs after)
      ∙ all_alike after (counted xs) (counted ys) (sym (keys_counted xs) ∙ e ∙ keys_counted ys)
      ∙ none_left_out ys after
