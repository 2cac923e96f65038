-- What a set has, and what it has after one more weight.
use Rattle.std.proofs.Common.{◌≡◌, ◌≢◌, ◌↔◌, ◌⊎◌, ℕ, zero, suc, ◌*◌, ◌/◌, ◌%◌, ◌^◌, ◌<◌, ◌≤◌, Bool, true, false, not, ◌==◌, List, [], ◌∷◌, ◌++◌, length, get_or, if◌then◌else◌, refl, sym, ap, ◌∙◌, subst, inl, inr, IsTrue, Contains, arith, w64, Result, Ok, Err, IfOk}
use Rattle.std.specs.Prelude.{set}
use Rattle.std.specs.Int.{bit_at}
use Rattle.std.specs.Int.Bits.{bit_or}
use Rattle.std.specs.List.{list_any}
use Rattle.std.specs.Global.{Vec}
use Rattle.std.proofs.lemmas.Bool.{cases_Bool, cases_eq, and_parts}
use Rattle.std.proofs.lemmas.Bool.Decides.{nat_tests}
use Rattle.std.proofs.lemmas.Nat.Bits.{bit_at-zero, bit_at_set_same, bit_at_set_other}
use Rattle.std.proofs.lemmas.List.{get_or-set_same, get_or-set_other}
use Rattle.std.proofs.lemmas.List.Elements.{Contains-append_left, Contains-push, Contains-push_cases}
use Rattle.icu_table_data.specs.CollectedWeights.{Adds}
use Rattle.icu_table_data.specs.inner.Visitors.{holds}
use Rattle.icu_table_data.proofs.CollectedWeightLemmas.{held-contained, contained-held}
use Rattle.icu_table_weights.specs.declared.weight_set.WeightSet.{WeightSet}
use Rattle.icu_table_weights.specs.WeightSets.{is_three_bytes, middle_bytes, is_marked, page_of, has_weight_bit, set_has, numbers_below, weights_of_set}

-- ---- numbers that pass a test

in_step : (b : Bool) (xs : List ℕ) (n w : ℕ) → Contains (if b then xs ++ n ∷ [] else xs) w → Contains xs w ⊎ ((b ≡ true) × (w ≡ n))
in_step true xs n w h = elim (Contains-push_cases xs n w h) [ inl before ↦ inl before | inr is ↦ inr (refl, sym is) ]
in_step false xs n w h = inl h

from_step : (b : Bool) (xs : List ℕ) (n w : ℕ) → Contains xs w → Contains (if b then xs ++ n ∷ [] else xs) w
from_step true xs n w h = Contains-append_left xs (n ∷ []) w h
from_step false xs n w h = h

last_step : (b : Bool) (xs : List ℕ) (n : ℕ) → b ≡ true → Contains (if b then xs ++ n ∷ [] else xs) n
last_step true xs n h = Contains-push xs n
last_step false xs n h = cc

pub below_in : (test : ℕ → Bool) (n w : ℕ) → Contains (numbers_below test n) w → (w < n) × (test w ≡ true)
unfolding numbers_below
below_in test zero w h = absurd (omega (arith, h.1))
below_in test (suc n) w h =
    elim (in_step (test n) (numbers_below test n) n w h) [
      | inl before ↦ let ih = below_in test n w before in (omega (arith, ih.0), ih.1)
      | inr is ↦ (omega (arith, is.1), subst (λ k. test k ≡ true) (sym is.1) is.0)
    ]

pub below_from : (test : ℕ → Bool) (n w : ℕ) → w < n → test w ≡ true → Contains (numbers_below test n) w
unfolding numbers_below
below_from test zero w below is = absurd (omega (arith, below))
below_from test (suc n) w below is =
    elim (cases_eq w n) [
      | inl same ↦ subst (Contains (if test n then numbers_below test n ++ n ∷ [] else numbers_below test n)) (sym same) (last_step (test n) (numbers_below test n) n (subst (λ k. test k ≡ true) same is))
      | inr other ↦ from_step (test n) (numbers_below test n) n w (below_from test n w (omega (arith, below, other)) is)
    ]

none_step : (b : Bool) (xs : List ℕ) (n : ℕ) → (b ≡ true → ⊥) → xs ≡ [] → (if b then xs ++ n ∷ [] else xs) ≡ []
none_step true xs n none is = absurd (none refl)
none_step false xs n none is = is

none_below : (test : ℕ → Bool) → ((w : ℕ) → test w ≡ true → ⊥) → (n : ℕ) → numbers_below test n ≡ []
unfolding numbers_below
none_below test none zero = refl
none_below test none (suc n) = none_step (test n) (numbers_below test n) n (none n) (none_below test none n)

-- ---- what a set has

pub in_has : (s : WeightSet) (w : ℕ) → Contains (weights_of_set s) w → set_has s w ≡ true
in_has s w h = (below_in (set_has s) (2 ^ 32) w h).1

pub in_fits : (s : WeightSet) (w : ℕ) → Contains (weights_of_set s) w → w < 2 ^ 32
in_fits s w h = (below_in (set_has s) (2 ^ 32) w h).0

pub has_in : (s : WeightSet) (w : ℕ) → w < 2 ^ 32 → set_has s w ≡ true → Contains (weights_of_set s) w
has_in s w fits h = below_from (set_has s) (2 ^ 32) w fits h

if_true : (b x y : Bool) → b ≡ true → (if b then x else y) ≡ x
if_true true x y h = refl
if_true false x y h = cc

if_false : (b x y : Bool) → b ≡ false → (if b then x else y) ≡ y
if_false true x y h = cc
if_false false x y h = refl

three_has : (s : WeightSet) (p : ℕ) → is_three_bytes p ≡ true → set_has s p ≡ has_weight_bit s.pages.items p
unfolding set_has
three_has s p is = if_true (is_three_bytes p) (has_weight_bit s.pages.items p) (list_any (λ v. v == p) s.others.items) is

other_has : (s : WeightSet) (p : ℕ) → is_three_bytes p ≡ false → set_has s p ≡ holds s.others.items p
unfolding set_has holds
other_has s p is = if_false (is_three_bytes p) (has_weight_bit s.pages.items p) (list_any (λ v. v == p) s.others.items) is

-- a weight of three bytes, by its bit; another one, in the list
pub three_in : (s : WeightSet) (p : ℕ) → p < 2 ^ 32 → is_three_bytes p ≡ true → IsTrue (has_weight_bit s.pages.items p) ↔ Contains (weights_of_set s) p
three_in s p fits is = (λ h. has_in s p fits (three_has s p is ∙ h), λ h. sym (three_has s p is) ∙ in_has s p h)

pub other_in : (s : WeightSet) (p : ℕ) → p < 2 ^ 32 → is_three_bytes p ≡ false → Contains s.others.items p ↔ Contains (weights_of_set s) p
other_in s p fits is = (
  λ h. has_in s p fits (other_has s p is ∙ contained-held s.others.items p h),
  λ h. held-contained s.others.items p (sym (other_has s p is) ∙ in_has s p h),
)

pub unset : (b : ℕ) → IsTrue (b == 1) → b ≡ 0 → ⊥
unset b h is = grind (arith, nat_tests)

no_bit : (w : ℕ) → has_weight_bit [] w ≡ true → ⊥
unfolding page_of
no_bit w h = unset (bit_at 0 (middle_bytes w % 64)) h (bit_at-zero (middle_bytes w % 64))

pub no_member : (w : ℕ) → Contains [] w → ⊥
no_member w c = omega (arith, c.1)

-- without pages and others it has none
pub none_in : (s : WeightSet) → s.pages.items ≡ [] → s.others.items ≡ [] → weights_of_set s ≡ []
none_in s pages others = none_below (set_has s) (λ w h. by w h (cases_Bool (is_three_bytes w))) (2 ^ 32)
  where
    by : (w : ℕ) → set_has s w ≡ true → (is_three_bytes w ≡ true) ⊎ (is_three_bytes w ≡ false) → ⊥
    by w h (inl is) = no_bit w (subst (λ (ps : List (Vec ℕ)). has_weight_bit ps w ≡ true) pages (sym (three_has s w is) ∙ h))
    by w h (inr is) = no_member w (subst (λ ws. Contains ws w) others (held-contained s.others.items w (sym (other_has s w is) ∙ h)))

-- the list of others
pub others_in : (s : WeightSet) (items list : List ℕ) → items ≡ s.others.items → ((w : ℕ) → Contains items w → w < 2 ^ 32)
    → ((w : ℕ) → Contains list w ↔ (Contains items w × (is_three_bytes w ≡ false)))
    → (w : ℕ) → Contains list w ↔ (Contains (weights_of_set s) w × (is_three_bytes w ≡ false))
others_in s items list is small same w = (
  λ h. let p = (same w).0 h in ((other_in s w (small w p.0) p.1).0 (subst (λ ws. Contains ws w) is p.0), p.1),
  λ h. (same w).1 (subst (λ ws. Contains ws w) (sym is) ((other_in s w (in_fits s w h.0) h.1).1 h.0), h.1),
)

pub others_listed_in : {E : Type 0} (s : WeightSet) (items : List ℕ) (r : Result (Vec ℕ) E) → items ≡ s.others.items → ((w : ℕ) → Contains items w → w < 2 ^ 32)
    → IfOk r (λ (list : Vec ℕ). (w : ℕ) → Contains list.items w ↔ (Contains items w × (is_three_bytes w ≡ false)))
    → IfOk r (λ (list : Vec ℕ). (w : ℕ) → Contains list.items w ↔ (Contains (weights_of_set s) w × (is_three_bytes w ≡ false)))
others_listed_in s items (Ok list) is small same = others_in s items list.items is small same
others_listed_in s items (Err e) is small same = tt

-- ---- one more weight

module _ (old new : WeightSet) (weight : ℕ) (fits : weight < 2 ^ 32) where
  adds_from : ((p : ℕ) → p < 2 ^ 32 → Contains (weights_of_set new) p ↔ (Contains (weights_of_set old) p ⊎ (p ≡ weight))) → Adds (λ w. w ≡ weight) (weights_of_set old) (weights_of_set new)
  adds_from same w = (
    λ h. (same w (in_fits new w h)).0 h,
    λ h. elim h [ inl before ↦ (same w (in_fits old w before)).1 (inl before) | inr is ↦ (same w (omega (arith, is, fits))).1 (inr is) ],
  )

  differ : (p : ℕ) → is_three_bytes weight ≡ true → is_three_bytes p ≡ false → p ≡ weight → ⊥
  differ p is isnt same = let both : true ≡ false = sym is ∙ ap (λ p. is_three_bytes p) (sym same) ∙ isnt in cc

  differ_back : (p : ℕ) → is_three_bytes weight ≡ false → is_three_bytes p ≡ true → p ≡ weight → ⊥
  differ_back p isnt is same = let both : true ≡ false = sym is ∙ ap (λ p. is_three_bytes p) same ∙ isnt in cc

  pub bit_added : is_three_bytes weight ≡ true → new.others.items ≡ old.others.items
      → ((p : ℕ) → IsTrue (is_three_bytes p) → IsTrue (has_weight_bit new.pages.items p) ↔ (IsTrue (has_weight_bit old.pages.items p) ⊎ (p ≡ weight)))
      → Adds (λ w. w ≡ weight) (weights_of_set old) (weights_of_set new)
  bit_added three others bits = adds_from (λ p small. by p small (cases_Bool (is_three_bytes p)))
    where
      by : (p : ℕ) → p < 2 ^ 32 → (is_three_bytes p ≡ true) ⊎ (is_three_bytes p ≡ false) → Contains (weights_of_set new) p ↔ (Contains (weights_of_set old) p ⊎ (p ≡ weight))
      by p small (inl is) =
          let a = three_in new p small is in
          let b = three_in old p small is in (
            λ h. elim ((bits p is).0 (a.1 h)) [ inl before ↦ inl (b.0 before) | inr same ↦ inr same ],
            λ h. a.0 ((bits p is).1 (elim h as (λ _. IsTrue (has_weight_bit old.pages.items p) ⊎ (p ≡ weight)) [ inl before ↦ inl (b.1 before) | inr same ↦ inr same ])),
          )
      by p small (inr isnt) =
          let a = other_in new p small isnt in
          let b = other_in old p small isnt in (
            λ h. inl (b.0 (subst (λ ws. Contains ws p) others (a.1 h))),
            λ h. elim h [ inl before ↦ a.0 (subst (λ ws. Contains ws p) (sym others) (b.1 before)) | inr same ↦ absurd (differ p three isnt same) ],
          )

  pub other_added : is_three_bytes weight ≡ false → new.pages.items ≡ old.pages.items → Adds (λ w. w ≡ weight) old.others.items new.others.items
      → Adds (λ w. w ≡ weight) (weights_of_set old) (weights_of_set new)
  other_added other pages adds = adds_from (λ p small. by p small (cases_Bool (is_three_bytes p)))
    where
      by : (p : ℕ) → p < 2 ^ 32 → (is_three_bytes p ≡ true) ⊎ (is_three_bytes p ≡ false) → Contains (weights_of_set new) p ↔ (Contains (weights_of_set old) p ⊎ (p ≡ weight))
      by p small (inl is) =
          let a = three_in new p small is in
          let b = three_in old p small is in
          let same_bit : has_weight_bit new.pages.items p ≡ has_weight_bit old.pages.items p = ap (λ (ps : List (Vec ℕ)). has_weight_bit ps p) pages in (
            λ h. inl (b.0 (sym same_bit ∙ a.1 h)),
            λ h. elim h [ inl before ↦ a.0 (same_bit ∙ b.1 before) | inr same ↦ absurd (differ_back p other is same) ],
          )
      by p small (inr isnt) =
          let a = other_in new p small isnt in
          let b = other_in old p small isnt in (
            λ h. elim ((adds p).0 (a.1 h)) [ inl before ↦ inl (b.0 before) | inr same ↦ inr same ],
            λ h. a.0 ((adds p).1 (elim h as (λ _. Contains old.others.items p ⊎ (p ≡ weight)) [ inl before ↦ inl (b.1 before) | inr same ↦ inr same ])),
          )

-- ---- pages

pub page-push : (pages : List (Vec ℕ)) (v : Vec ℕ) (l : ℕ) → v.items ≡ [] → page_of (pages ++ v ∷ []) l ≡ page_of pages l
unfolding page_of
page-push [] v zero e = e
page-push [] v (suc l) e = refl
page-push (x ∷ pages) v zero e = refl
page-push (x ∷ pages) v (suc l) e = page-push pages v l e

pub pushed_len : (pages : List (Vec ℕ)) (v : Vec ℕ) → length (pages ++ v ∷ []) ≡ suc (length pages)
pushed_len [] v = refl
pushed_len (x ∷ pages) v = ap (λ n. suc n) (pushed_len pages v)

pub page-set_same : (pages : List (Vec ℕ)) (page : Vec ℕ) (l : ℕ) → l < length pages → page_of (set pages l page) l ≡ page.items
unfolding page_of
page-set_same [] page l h = absurd (omega (arith, h))
page-set_same (x ∷ pages) page zero h = refl
page-set_same (x ∷ pages) page (suc l) h = page-set_same pages page l (omega (arith, h))

pub page-set_other : (pages : List (Vec ℕ)) (page : Vec ℕ) (m l : ℕ) → l ≢ m → page_of (set pages m page) l ≡ page_of pages l
unfolding page_of
page-set_other [] page m l h = refl
page-set_other (x ∷ pages) page zero zero h = absurd (h refl)
page-set_other (x ∷ pages) page zero (suc l) h = refl
page-set_other (x ∷ pages) page (suc m) zero h = refl
page-set_other (x ∷ pages) page (suc m) (suc l) h = page-set_other pages page m l (λ e. h (ap (λ k. suc k) e))

pub page-at : (pages : List (Vec ℕ)) (page d : Vec ℕ) (l : ℕ) → l < length pages → page ≡ get_or pages l d → page_of pages l ≡ page.items
unfolding page_of
page-at [] page d l h is = absurd (omega (arith, h))
page-at (x ∷ pages) page d zero h is = ap (λ (v : Vec ℕ). v.items) (sym is)
page-at (x ∷ pages) page d (suc l) h is = page-at pages page d l (omega (arith, h)) is

pub page-beyond : (pages : List (Vec ℕ)) (l : ℕ) → length pages ≤ l → page_of pages l ≡ []
unfolding page_of
page-beyond [] l h = refl
page-beyond (x ∷ pages) zero h = absurd (omega (arith, h))
page-beyond (x ∷ pages) (suc l) h = page-beyond pages l (omega (arith, h))

-- a page with one word more, which has no bits, says the same
pub zero_pushed : (words : List ℕ) (k : ℕ) → get_or (words ++ 0 ∷ []) k 0 ≡ get_or words k 0
zero_pushed [] zero = refl
zero_pushed [] (suc k) = refl
zero_pushed (x ∷ words) zero = refl
zero_pushed (x ∷ words) (suc k) = zero_pushed words k

pub pushed_word_len : (words : List ℕ) (word : ℕ) → length (words ++ word ∷ []) ≡ suc (length words)
pushed_word_len [] word = refl
pushed_word_len (x ∷ words) word = ap (λ n. suc n) (pushed_word_len words word)

-- ---- bits

is_one : (b : ℕ) → IsTrue (b == 1) → b ≡ 1
is_one b h = grind (arith, nat_tests)

one_is : (b : ℕ) → b ≡ 1 → IsTrue (b == 1)
one_is b h = grind (arith, nat_tests)

-- one more bit is set
pub one_marked : (words : List ℕ) (index : ℕ) → index / 64 < length words
    → (i : ℕ) → IsTrue (is_marked (set words (index / 64) (bit_or (get_or words (index / 64) 0) (1 * 2 ^ (index % 64) % 2 ^ 64))) i) ↔ (IsTrue (is_marked words i) ⊎ (i ≡ index))
one_marked words index inside i = by (cases_eq (i / 64) (index / 64)) (cases_eq (i % 64) (index % 64))
  where
    old : ℕ
    old = get_or words (index / 64) 0

    word : ℕ
    word = bit_or old (1 * 2 ^ (index % 64) % 2 ^ 64)

    within : index % 64 < 64
    within = omega arith

    word_there : i / 64 ≡ index / 64 → get_or (set words (index / 64) word) (i / 64) 0 ≡ word
    word_there same = ap (λ k. get_or (set words (index / 64) word) k 0) same ∙ get_or-set_same words (index / 64) word 0 inside

    old_there : i / 64 ≡ index / 64 → get_or words (i / 64) 0 ≡ old
    old_there same = ap (λ k. get_or words k 0) same

    by : (i / 64 ≡ index / 64) ⊎ (i / 64 ≢ index / 64) → (i % 64 ≡ index % 64) ⊎ (i % 64 ≢ index % 64)
        → IsTrue (is_marked (set words (index / 64) word) i) ↔ (IsTrue (is_marked words i) ⊎ (i ≡ index))
    by (inl same) (inl rest) = (
      λ h. inr (omega (arith, same, rest)),
      λ h. one_is _ (ap (λ w. bit_at w (i % 64)) (word_there same) ∙ ap (λ k. bit_at word k) rest ∙ bit_at_set_same w64 old (index % 64) within),
    )
    by (inl same) (inr other) =
        let kept : bit_at word (i % 64) ≡ bit_at old (i % 64) = bit_at_set_other w64 old (index % 64) within (i % 64) other in
        let bits : bit_at (get_or (set words (index / 64) word) (i / 64) 0) (i % 64) ≡ bit_at (get_or words (i / 64) 0) (i % 64) =
        ap (λ w. bit_at w (i % 64)) (word_there same) ∙ kept ∙ ap (λ w. bit_at w (i % 64)) (sym (old_there same)) in (
          λ h. inl (one_is _ (sym bits ∙ is_one _ h)),
          λ h. elim h [ inl before ↦ one_is _ (bits ∙ is_one _ before) | inr is ↦ absurd (other (ap (λ k. k % 64) is)) ],
        )
    by (inr other) rest =
        let bits : bit_at (get_or (set words (index / 64) word) (i / 64) 0) (i % 64) ≡ bit_at (get_or words (i / 64) 0) (i % 64) =
        ap (λ w. bit_at w (i % 64)) (get_or-set_other words (index / 64) (i / 64) word 0 other) in (
          λ h. inl (one_is _ (sym bits ∙ is_one _ h)),
          λ h. elim h [ inl before ↦ one_is _ (bits ∙ is_one _ before) | inr is ↦ absurd (other (ap (λ k. k / 64) is)) ],
        )

-- words that say the same have the same bits
same_marks : (words others : List ℕ) → ((k : ℕ) → get_or words k 0 ≡ get_or others k 0) → (i : ℕ) → is_marked words i ≡ is_marked others i
same_marks words others same i = ap (λ w. bit_at w (i % 64) == 1) (same (i / 64))

-- one more bit is set in a page that was given its words before
pub marked_from : (old filled : List ℕ) (index word : ℕ) → index / 64 < length filled → ((k : ℕ) → get_or filled k 0 ≡ get_or old k 0) → word ≡ get_or filled (index / 64) 0
    → (i : ℕ) → IsTrue (is_marked (set filled (index / 64) (bit_or word (1 * 2 ^ (index % 64) % 2 ^ 64))) i) ↔ (IsTrue (is_marked old i) ⊎ (i ≡ index))
marked_from old filled index word inside same is i =
    subst (λ w. IsTrue (is_marked (set filled (index / 64) (bit_or w (1 * 2 ^ (index % 64) % 2 ^ 64))) i) ↔ (IsTrue (is_marked old i) ⊎ (i ≡ index))) (sym is)
    (subst (λ b. IsTrue (is_marked (set filled (index / 64) (bit_or (get_or filled (index / 64) 0) (1 * 2 ^ (index % 64) % 2 ^ 64))) i) ↔ (IsTrue b ⊎ (i ≡ index))) (same_marks filled old same i)
    (one_marked filled index inside i))

-- ---- the bit of a weight

pub three_parts : (p : ℕ) → IsTrue (is_three_bytes p) → p % 256 ≡ 0
three_parts p h = by (and_parts (p % 256 == 0) (not (p / 256 % 256 == 0)) h).0
  where
    by : IsTrue (p % 256 == 0) → p % 256 ≡ 0
    by t = grind (arith, nat_tests)

same_weight : (p w : ℕ) → p % 256 ≡ 0 → w % 256 ≡ 0 → p / 16777216 ≡ w / 16777216 → p / 256 % 65536 ≡ w / 256 % 65536 → p ≡ w
same_weight p w a b lead middle = omega (arith, a, b, lead, middle)

-- the page of its lead byte has one more bit
pub weight_marked : (old reached : List (Vec ℕ)) (page : Vec ℕ) (weight : ℕ) → IsTrue (is_three_bytes weight) → weight / 0x1000000 < length reached
    → ((l : ℕ) → page_of reached l ≡ page_of old l)
    → (there : List ℕ) → page_of reached (weight / 0x1000000) ≡ there → (m : ℕ) → m ≡ middle_bytes weight
    → ((i : ℕ) → IsTrue (is_marked page.items i) ↔ (IsTrue (is_marked there i) ⊎ (i ≡ m)))
    → (p : ℕ) → IsTrue (is_three_bytes p) → IsTrue (has_weight_bit (set reached (weight / 0x1000000) page) p) ↔ (IsTrue (has_weight_bit old p) ⊎ (p ≡ weight))
weight_marked old reached page weight three inside same there at m middle_is marked p is = by (cases_eq (p / 0x1000000) (weight / 0x1000000))
  where
    bits : (i : ℕ) → IsTrue (is_marked page.items i) ↔ (IsTrue (is_marked (page_of reached (weight / 0x1000000)) i) ⊎ (i ≡ middle_bytes weight))
    bits i =
        subst (λ ws. IsTrue (is_marked page.items i) ↔ (IsTrue (is_marked ws i) ⊎ (i ≡ middle_bytes weight))) (sym at)
        (subst (λ n. IsTrue (is_marked page.items i) ↔ (IsTrue (is_marked there i) ⊎ (i ≡ n))) middle_is (marked i))

    lead : ℕ
    lead = weight / 0x1000000

    by : (p / 0x1000000 ≡ lead) ⊎ (p / 0x1000000 ≢ lead) → IsTrue (has_weight_bit (set reached lead page) p) ↔ (IsTrue (has_weight_bit old p) ⊎ (p ≡ weight))
    by (inl here) =
        let now : has_weight_bit (set reached lead page) p ≡ is_marked page.items (middle_bytes p) =
        ap (λ ws. is_marked ws (middle_bytes p)) (ap (page_of (set reached lead page)) here ∙ page-set_same reached page lead inside) in
        let before : is_marked (page_of reached lead) (middle_bytes p) ≡ has_weight_bit old p =
        ap (λ ws. is_marked ws (middle_bytes p)) (same lead ∙ ap (page_of old) (sym here)) in (
          λ h. elim ((bits (middle_bytes p)).0 (sym now ∙ h)) [
            | inl was ↦ inl (sym before ∙ was)
            | inr middle ↦ inr (same_weight p weight (three_parts p is) (three_parts weight three) here middle)
          ],
          λ h. now ∙ (bits (middle_bytes p)).1 (elim h as (λ _. IsTrue (is_marked (page_of reached lead) (middle_bytes p)) ⊎ (middle_bytes p ≡ middle_bytes weight)) [
            | inl was ↦ inl (before ∙ was)
            | inr one ↦ inr (ap (λ p. middle_bytes p) one)
          ]),
        )
    by (inr other) =
        let kept : has_weight_bit (set reached lead page) p ≡ has_weight_bit old p =
        ap (λ ws. is_marked ws (middle_bytes p)) (page-set_other reached page lead (p / 0x1000000) other ∙ same (p / 0x1000000)) in (
          λ h. inl (sym kept ∙ h),
          λ h. elim h [ inl was ↦ kept ∙ was | inr one ↦ absurd (other (ap (λ p. p / 0x1000000) one)) ],
        )
