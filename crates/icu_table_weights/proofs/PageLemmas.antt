-- The weights of a page, place by place.
use Rattle.std.proofs.Common.{◌≡◌, ◌↔◌, ◌⊎◌, ℕ, ◌+◌, ◌*◌, ◌/◌, ◌%◌, ◌^◌, ◌<◌, ◌≤◌, true, false, ◌==◌, List, length, [], ◌∷◌, ◌++◌, get_or, sym, ap, ◌∙◌, subst, inl, inr, IsTrue, Contains, arith, Result, Ok, Err, IfOk}
use Rattle.std.specs.Int.{bit_at}
use Rattle.std.specs.Global.{Vec}
use Rattle.std.proofs.lemmas.Bool.{cases_eq}
use Rattle.std.proofs.lemmas.List.{get_or_default}
use Rattle.std.proofs.lemmas.Nat.Bits.{bit_at-zero}
use Rattle.std.proofs.lemmas.List.Elements.{Contains-append_left, Contains-get_or, Contains-push, Contains-push_cases}
use Rattle.icu_table_data.specs.CollectedWeights.{Adds}
use Rattle.icu_table_weights.specs.declared.weight_set.WeightSet.{WeightSet}
use Rattle.icu_table_weights.specs.WeightSets.{is_three_bytes, middle_bytes, is_marked, page_of, has_weight_bit, IsOfLead, IsEmptyLead, IsEmptyBlock}
use Rattle.icu_table_weights.specs.inner.Pages.{IsBelow, IsOther, IsOfWord, IsOfPage}
use Rattle.icu_table_weights.proofs.WeightSetLemmas.{in_fits, three_in, no_member, unset, three_parts}

-- ---- what is added

pub adds_none : (P : ℕ → Type 0) (old : List ℕ) → ((w : ℕ) → P w → ⊥) → Adds P old old
adds_none P old none w = (λ h. inl h, λ h. elim h [ inl before ↦ before | inr p ↦ absurd (none w p) ])

pub adds_one : (P : ℕ → Type 0) (old new : List ℕ) (v : ℕ) → new ≡ old ++ v ∷ [] → P v → ((w : ℕ) → P w → w ≡ v) → Adds P old new
adds_one P old new v is has only w = (
  λ h. elim (Contains-push_cases old v w (subst (λ ws. Contains ws w) is h)) [ inl before ↦ inl before | inr same ↦ inr (subst P same has) ],
  λ h. subst (λ ws. Contains ws w) (sym is) (elim h as (λ _. Contains (old ++ v ∷ []) w) [
    | inl before ↦ Contains-append_left old (v ∷ []) w before
    | inr p ↦ subst (Contains (old ++ v ∷ [])) (sym (only w p)) (Contains-push old v)
  ]),
)

pub below_none : (P : ℕ → ℕ → Type 0) (old : List ℕ) (n : ℕ) → n ≡ 0 → Adds (IsBelow P n) old old
below_none P old n none = adds_none (IsBelow P n) old (λ w is. absurd (omega (arith, none, is.below)))

pub below_last : (i n : ℕ) → i < n + 1 → (i < n) ⊎ (i ≡ n)
below_last i n h = by (cases_eq i n)
  where
    by : (i ≡ n) ⊎ ((i ≡ n → ⊥)) → (i < n) ⊎ (i ≡ n)
    by (inl same) = inr same
    by (inr other) = inl (omega (arith, h, other))

pub below_step : (P : ℕ → ℕ → Type 0) (start old new : List ℕ) (n : ℕ) → Adds (IsBelow P n) start old → Adds (P n) old new → Adds (IsBelow P (n + 1)) start new
below_step P start old new n before now w = (
  λ h. elim ((now w).0 h) [
    | inl older ↦ elim ((before w).0 older) [
      | inl oldest ↦ inl oldest
      | inr is ↦ inr (record { place = is.place; below = omega (arith, is.below); is = is.is })
    ]
    | inr p ↦ inr (record { place = n; below = omega arith; is = p })
  ],
  λ h. elim h [
    | inl oldest ↦ (now w).1 (inl ((before w).1 (inl oldest)))
    | inr is ↦ elim (below_last is.place n is.below) [
      | inl earlier ↦ (now w).1 (inl ((before w).1 (inr (record { place = is.place; below = earlier; is = is.is }))))
      | inr same ↦ (now w).1 (inr (subst (λ i. P i w) same is.is))
    ]
  ],
)

pub below_all : (P : ℕ → ℕ → Type 0) (old new : List ℕ) (n m : ℕ) → n ≡ m → Adds (IsBelow P n) old new → Adds (IsBelow P m) old new
below_all P old new n m same adds = subst (λ n. Adds (IsBelow P n) old new) same adds

-- weights of a list, but for those of three bytes
pub others_listed : (ws : List ℕ) (n : ℕ) (list : List ℕ) → n ≡ length ws → Adds (IsBelow (λ k. IsOther (get_or ws k 0)) n) [] list
    → (w : ℕ) → Contains list w ↔ (Contains ws w × (is_three_bytes w ≡ false))
others_listed ws n list all adds w = (
  λ h. elim ((adds w).0 h) [
    | inl none ↦ absurd (no_member w none)
    | inr at ↦ (subst (Contains ws) (sym at.is.is) (Contains-get_or ws at.place 0 (omega (arith, all, at.below))), at.is.other)
  ],
  λ h. (adds w).1 (inr (record { place = h.0.0; below = omega (arith, all, h.0.1); is = record { other = h.1; is = sym (get_or_default ws h.0.0 0 w h.0.1 ∙ h.0.2) } })),
)

-- ---- a word

-- a word of no bits adds nothing
pub none_of_zero : (word first w : ℕ) → word ≡ 0 → IsOfWord word first w → ⊥
none_of_zero word first w zero is =
    unset (bit_at word is.place) is.is.set (ap (λ n. bit_at n is.place) zero ∙ bit_at-zero is.place)

-- ---- a page

word_place : (place bit : ℕ) → bit < 64 → (place * 64 + bit) / 64 ≡ place
word_place place bit h = omega (arith, h)

word_bit : (place bit : ℕ) → bit < 64 → (place * 64 + bit) % 64 ≡ bit
word_bit place bit h = omega (arith, h)

middle_is : (lead place bit w : ℕ) → place < 1024 → bit < 64 → w ≡ lead * 16777216 + place * 16384 + bit * 256 → w / 256 % 65536 ≡ place * 64 + bit
middle_is lead place bit w p b is = omega (arith, p, b, is)

lead_is : (lead place bit w : ℕ) → place < 1024 → bit < 64 → w ≡ lead * 16777216 + place * 16384 + bit * 256 → w / 16777216 ≡ lead
lead_is lead place bit w p b is = omega (arith, p, b, is)

made_of : (lead w : ℕ) → w % 256 ≡ 0 → w / 16777216 ≡ lead → w ≡ lead * 16777216 + w / 256 % 65536 / 64 * 16384 + w / 256 % 65536 % 64 * 256
made_of lead w zero is = omega (arith, zero, is)

-- the weights of the page of a lead byte are those of the set with this lead byte
module _ (s : WeightSet) (lead : ℕ) (small : lead < 256) where
  abbrev words : List ℕ
  words = page_of s.pages.items lead

  marked_bit : (w place bit : ℕ) → place < 1024 → bit < 64 → w ≡ lead * 16777216 + place * 16384 + bit * 256 → has_weight_bit s.pages.items w ≡ (bit_at (get_or words place 0) bit == 1)
  marked_bit w place bit p b is =
      ap (λ l. is_marked (page_of s.pages.items l) (middle_bytes w)) (lead_is lead place bit w p b is)
      ∙ ap (λ i. is_marked words i) (middle_is lead place bit w p b is)
      ∙ ap (λ k. bit_at (get_or words k 0) ((place * 64 + bit) % 64) == 1) (word_place place bit b)
      ∙ ap (λ k. bit_at (get_or words place 0) k == 1) (word_bit place bit b)

  page_has : (w : ℕ) → IsOfPage words (lead * 0x1000000) w → IsOfLead s lead w
  page_has w is =
      let bit : ℕ = is.is.place in
      let at : w ≡ lead * 16777216 + is.place * 16384 + bit * 256 = is.is.is.is in
      let three : is_three_bytes w ≡ true = ap (λ p. is_three_bytes p) at ∙ is.is.is.three in
      let fits : w < 2 ^ 32 = by at is.below is.is.below in
      record {
        has = (three_in s w fits three).0 (marked_bit w is.place bit is.below is.is.below at ∙ is.is.is.set);
        three = three;
        of_lead = lead_is lead is.place bit w is.below is.is.below at;
      }
    where
      by : {place bit w : ℕ} → w ≡ lead * 16777216 + place * 16384 + bit * 256 → place < 1024 → bit < 64 → w < 2 ^ 32
      by at p b = omega (arith, at, p, b, small)

  has_page : (w : ℕ) → IsOfLead s lead w → IsOfPage words (lead * 0x1000000) w
  has_page w is =
      let place : ℕ = w / 256 % 65536 / 64 in
      let bit : ℕ = w / 256 % 65536 % 64 in
      let at : w ≡ lead * 16777216 + place * 16384 + bit * 256 = made_of lead w (three_parts w is.three) is.of_lead in
      let p : place < 1024 = omega arith in
      let b : bit < 64 = omega arith in
      record {
        place = place;
        below = p;
        is = record {
          place = bit;
          below = b;
          is = record {
            set = sym (marked_bit w place bit p b at) ∙ (three_in s w (in_fits s w is.has) is.three).1 is.has;
            three = subst (λ p. IsTrue (is_three_bytes p)) at is.three;
            is = at;
          };
        };
      }

  none_listed : (w : ℕ) → Contains [] w → ⊥
  none_listed w c = omega (arith, c.1)

  pub page_weights : (least : ℕ) → least ≡ lead * 0x1000000 → (list : List ℕ) → Adds (IsOfPage words least) [] list → (w : ℕ) → Contains list w ↔ IsOfLead s lead w
  page_weights least start list adds w =
      let from : Adds (IsOfPage words (lead * 0x1000000)) [] list = subst (λ n. Adds (IsOfPage words n) [] list) start adds in (
        λ h. elim ((from w).0 h) [ inl none ↦ absurd (none_listed w none) | inr is ↦ page_has w is ],
        λ is. (from w).1 (inr (has_page w is)),
      )

  zero_words : words ≡ [] → (k : ℕ) → get_or words k 0 ≡ 0
  zero_words none k = ap (λ ws. get_or ws k 0) none

  -- a lead byte without words
  pub empty_lead : words ≡ [] → IsEmptyLead s lead
  empty_lead none w is =
      let at = has_page w is in none_of_zero (get_or words at.place 0) _ w (zero_words none at.place) at.is

pub lead_listed : {E : Type 0} (s : WeightSet) (lead l least : ℕ) (words : List ℕ) (r : Result (Vec ℕ) E) → lead < 256 → l ≡ lead → words ≡ page_of s.pages.items l → least ≡ lead * 0x1000000
    → IfOk r (λ (list : Vec ℕ). Adds (IsOfPage words least) [] list.items) → IfOk r (λ (list : Vec ℕ). (w : ℕ) → Contains list.items w ↔ IsOfLead s lead w)
lead_listed s lead l least words (Err e) small same page start adds = tt
lead_listed s lead l least words (Ok list) small same page start adds =
    page_weights s lead small least start list.items (subst (λ ws. Adds (IsOfPage ws least) [] list.items) (page ∙ ap (page_of s.pages.items) same) adds)

-- two highest bytes of which no word has a bit
pub empty_block : (s : WeightSet) (high : ℕ) → high < 65536 → (first : ℕ) → first ≡ high % 256 * 4
    → ((k : ℕ) → first ≤ k → k < first + 4 → get_or (page_of s.pages.items (high / 256)) k 0 ≡ 0) → IsEmptyBlock s high
empty_block s high small first is zeros w has three at =
    none_of_zero (get_or (page_of s.pages.items (high / 256)) of.place 0) _ w (zeros of.place (from of.place of.is.place of.below of.is.below at_place) (to of.place of.is.place of.below of.is.below at_place)) of.is
  where
    of_lead : IsOfLead s (high / 256) w
    of_lead = record { has = has; three = three; of_lead = lead_of w high at }
      where
        lead_of : (w high : ℕ) → w / 65536 ≡ high → w / 16777216 ≡ high / 256
        lead_of w high at = omega (arith, at)

    of : IsOfPage (page_of s.pages.items (high / 256)) (high / 256 * 0x1000000) w
    of = has_page s (high / 256) (omega (arith, small)) w of_lead

    at_place : w ≡ high / 256 * 16777216 + of.place * 16384 + of.is.place * 256
    at_place = of.is.is.is

    from : (place bit : ℕ) → place < 1024 → bit < 64 → w ≡ high / 256 * 16777216 + place * 16384 + bit * 256 → first ≤ place
    from place bit p b e = omega (arith, p, b, e, at, is)

    to : (place bit : ℕ) → place < 1024 → bit < 64 → w ≡ high / 256 * 16777216 + place * 16384 + bit * 256 → place < first + 4
    to place bit p b e = omega (arith, p, b, e, at, is)
