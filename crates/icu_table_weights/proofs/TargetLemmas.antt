-- Overlaps among the weights of a set, by where a reordering takes those of three bytes.
use Rattle.std.proofs.Common.{◌≡◌, ◌≢◌, ◌↔◌, ◌⊎◌, ℕ, zero, suc, ◌+◌, ◌-◌, ◌/◌, ◌%◌, ◌^◌, ◌<◌, Bool, true, false, not, ◌==◌, ◌&&◌, List, [], ◌∷◌, Option, Some, None, refl, sym, ap, ◌∙◌, subst, inl, inr, IsTrue, Contains, arith, length, get_or, Result, Ok, Err, IfOk, IfSome, IsNone}
use Rattle.std.proofs.lemmas.Bool.{cases_Bool, cases_eq, eqb-true}
use Rattle.std.proofs.lemmas.Bool.Decides.{nat_tests}
use Rattle.std.proofs.lemmas.List.{get_or_default}
use Rattle.std.proofs.lemmas.List.Elements.{Contains-get_or}
use Rattle.icu_table_weights.proofs.WeightSetLemmas.{three_parts}
use Rattle.icu_order_levels.specs.ListOrder.{IsBeginning}
use Rattle.icu_order_levels.specs.WeightBytes.{weight_bytes}
use Rattle.icu_order_levels.specs.Premises.{IsPrefixFree}
use Rattle.icu_table_provider.specs.Reorderings.{Reordering}
use Rattle.icu_table_provider.specs.SpecialPrimaries.{SpecialPrimaries, is_compressible}
use Rattle.icu_table_provider.specs.CollatorTables.{reorder_by}
use Rattle.icu_table_data.specs.CollectedWeights.{Adds}
use Rattle.icu_table_weights.specs.Alike.{CompressAlike, CompressApart}
use Rattle.icu_table_weights.specs.Overlaps.{written_bytes, Overlaps}
use Rattle.icu_table_weights.specs.declared.overlap.Overlap.{Overlap}
use Rattle.icu_table_weights.specs.WeightSets.{is_three_bytes}
use Rattle.icu_table_weights.specs.inner.Targets.{IsApartFromThree, IsBefore, AreMet, IsClear, IsSampled}
use Rattle.icu_table_weights.specs.inner.Pages.{IsBelow}
use Rattle.icu_table_provider.proofs.well_formed.LeadLemmas.{reordered-rest}
use Rattle.icu_table_weights.proofs.PageLemmas.{below_last}
use Rattle.icu_table_weights.proofs.BeginningLemmas.{begins_itself, four_bytes_begin, three_bytes_begin, two_bytes_begin, one_byte_begins}

-- ---- reordering keeps the length

rest_kept : (r : Option Reordering) (p : ℕ) → reorder_by r p % 16777216 ≡ p % 16777216
rest_kept None p = refl
rest_kept (Some r) p = reordered-rest r p

same_low : (p q : ℕ) → q % 16777216 ≡ p % 16777216 → q % 256 ≡ p % 256
same_low p q h = omega (arith, h)

same_third : (p q : ℕ) → q % 16777216 ≡ p % 16777216 → q / 256 % 256 ≡ p / 256 % 256
same_third p q h = omega (arith, h)

pub three_kept : (r : Option Reordering) (p : ℕ) → is_three_bytes (reorder_by r p) ≡ is_three_bytes p
three_kept r p =
    let rest = rest_kept r p in
    ap (λ n. (n == 0) && not (reorder_by r p / 256 % 256 == 0)) (same_low p (reorder_by r p) rest)
    ∙ ap (λ n. (p % 256 == 0) && not (n == 0)) (same_third p (reorder_by r p) rest)

-- ---- weights of three bytes

third_some : (p : ℕ) → IsTrue (is_three_bytes p) → p / 256 % 256 ≢ 0
third_some p h e = grind (arith, nat_tests)

third_of : (p : ℕ) → p % 256 ≡ 0 → p / 256 % 256 ≢ 0 → p % 65536 ≢ 0
third_of p low some e = some (omega (arith, low, e))

equal_thirds : (v w : ℕ) → IsTrue (v / 256 == w / 256) → v / 256 ≡ w / 256
equal_thirds v w h = grind (arith, nat_tests)

equal_numbers : (v w : ℕ) → IsTrue (v == w) → v ≡ w
equal_numbers v w h = grind (arith, nat_tests)

-- one of three bytes begins what agrees in these
three_begins : (q w : ℕ) → q < 2 ^ 32 → w < 2 ^ 32 → IsTrue (is_three_bytes q) → IsBeginning (weight_bytes 4 q) (weight_bytes 4 w) → q / 256 ≡ w / 256
three_begins q w small fits three begins =
    equal_thirds q w ((three_bytes_begin q w small fits (three_parts q three) (third_of q (three_parts q three) (third_some q three))).1 begins)

-- of two weights of three bytes one begins the other only if they are one
pub three_begin : (v w : ℕ) → v < 2 ^ 32 → w < 2 ^ 32 → IsTrue (is_three_bytes v) → IsTrue (is_three_bytes w) → IsBeginning (weight_bytes 4 v) (weight_bytes 4 w) → v ≡ w
three_begin v w small fits is_v is_w begins = same v w (three_parts v is_v) (three_parts w is_w) (three_begins v w small fits is_v begins)
  where
    same : (v w : ℕ) → v % 256 ≡ 0 → w % 256 ≡ 0 → v / 256 ≡ w / 256 → v ≡ w
    same v w a b c = omega (arith, a, b, c)

-- ---- a weight of another length against targets

isnt_three : (b c : Bool) → b ≡ true → (b && not c) ≡ false → c ≡ true
isnt_three true true h k = refl
isnt_three true false h k = cc
isnt_three false c h k = cc

is_zero : (n : ℕ) → n ≡ 0 → (n == 0) ≡ true
is_zero n h = grind (arith, nat_tests)

-- with a zero at its end, it has two
two_zeros : (w : ℕ) → is_three_bytes w ≡ false → w % 256 ≡ 0 → w % 65536 ≡ 0
two_zeros w isnt low = both w low (eqb-true (w / 256 % 256) 0 (isnt_three (w % 256 == 0) (w / 256 % 256 == 0) (is_zero (w % 256) low) isnt))
  where
    both : (w : ℕ) → w % 256 ≡ 0 → w / 256 % 256 ≡ 0 → w % 65536 ≡ 0
    both w a b = omega (arith, a, b)

begins_short : (q w : ℕ) → q / 256 ≡ w / 256 → w % 65536 ≡ 0 → q / 256 % 256 ≡ 0
begins_short q w e low = omega (arith, e, low)

pub clear_of_four : (targets : List ℕ) (w : ℕ) → ((q : ℕ) → Contains targets q → q < 2 ^ 32) → w < 2 ^ 32 → w % 256 ≢ 0
    → (Contains targets (w - w % 256) → IsTrue (is_three_bytes (w - w % 256)) → ⊥) → IsClear targets w
clear_of_four targets w small fits four none q has three = (
  λ begins.
      let is = shortened q w (three_parts q three) (three_begins q w (small q has) fits three begins) in
      none (subst (Contains targets) is has) (subst (λ q. IsTrue (is_three_bytes q)) is three),
  λ begins. four (ap (λ n. n % 256) (equal_numbers w q ((four_bytes_begin w q fits (small q has) four).1 begins)) ∙ three_parts q three),
)
  where
    shortened : (q w : ℕ) → q % 256 ≡ 0 → q / 256 ≡ w / 256 → q ≡ w - w % 256
    shortened q w a b = omega (arith, a, b)

equal_highs : (v w : ℕ) → IsTrue (v / 65536 == w / 65536) → v / 65536 ≡ w / 65536
equal_highs v w h = grind (arith, nat_tests)

equal_leads : (v w : ℕ) → IsTrue (v / 16777216 == w / 16777216) → v / 16777216 ≡ w / 16777216
equal_leads v w h = grind (arith, nat_tests)

module _ (targets : List ℕ) (w : ℕ) (small : (q : ℕ) → Contains targets q → q < 2 ^ 32) (fits : w < 2 ^ 32) (isnt : is_three_bytes w ≡ false) (low : w % 256 ≡ 0) where
  none_begins : (q : ℕ) → Contains targets q → IsTrue (is_three_bytes q) → IsBeginning (weight_bytes 4 q) (weight_bytes 4 w) → ⊥
  none_begins q has three begins = third_some q three (begins_short q w (three_begins q w (small q has) fits three begins) (two_zeros w isnt low))

  pub clear_of_two : w % 16777216 ≢ 0 → ((q : ℕ) → Contains targets q → IsTrue (is_three_bytes q) → q / 65536 ≡ w / 65536 → ⊥) → IsClear targets w
  clear_of_two two none q has three = (
    none_begins q has three,
    λ begins. none q has three (sym (equal_highs w q ((two_bytes_begin w q fits (small q has) (two_zeros w isnt low) two).1 begins))),
  )

  pub clear_of_one : w % 16777216 ≡ 0 → w ≢ 0 → ((q : ℕ) → Contains targets q → IsTrue (is_three_bytes q) → q / 16777216 ≡ w / 16777216 → ⊥) → IsClear targets w
  clear_of_one one some none q has three = (
    none_begins q has three,
    λ begins. none q has three (sym (equal_leads w q ((one_byte_begins w q fits (small q has) one some).1 begins))),
  )

-- ---- targets that are met

pub none_before : (r : Option Reordering) (targets ws : List ℕ) (n : ℕ) → n ≡ 0 → AreMet r targets (IsBefore ws n)
none_before r targets ws n none = record {
  covers = λ v is. absurd (omega (arith, none, is.before));
  apart = λ v w is other same. absurd (omega (arith, none, is.before));
}

-- fewer weights
pub fewer : (r : Option Reordering) (targets : List ℕ) (Done Fewer : ℕ → Type 0) → ((v : ℕ) → Fewer v → Done v) → AreMet r targets Done → AreMet r targets Fewer
fewer r targets Done Fewer of met = record { covers = λ v is. met.covers v (of v is); apart = λ v w is other. met.apart v w (of v is) (of w other) }

-- one more weight, that overlaps with none where its target was there
pub one_more_met : (r : Option Reordering) (ws old new : List ℕ) (Done : ℕ → Type 0) (p : ℕ)
    → ((v : ℕ) → Done v → Contains ws v × IsTrue (is_three_bytes v))
    → AreMet r old Done → Adds (λ q. q ≡ reorder_by r p) old new
    → (Contains old (reorder_by r p) → IsApartFromThree (written_bytes r) ws p)
    → AreMet r new (λ v. Done v ⊎ (v ≡ p))
one_more_met r ws old new Done p known met adds none = record { covers = covers; apart = apart }
  where
    covers : (v : ℕ) → Done v ⊎ (v ≡ p) → Contains new (reorder_by r v)
    covers v (inl done) = (adds (reorder_by r v)).1 (inl (met.covers v done))
    covers v (inr is) = (adds (reorder_by r v)).1 (inr (ap (reorder_by r) is))

    same_as : (v : ℕ) → Done v → reorder_by r v ≡ reorder_by r p → v ≡ p
    same_as v done same = by (cases_eq v p)
      where
        by : (v ≡ p) ⊎ (v ≢ p) → v ≡ p
        by (inl is) = is
        by (inr other) =
            let apart = none (subst (Contains old) same (met.covers v done)) v (known v done).0 (known v done).1 other in
            absurd (apart.0 (subst (λ n. IsBeginning (weight_bytes 4 (reorder_by r v)) (weight_bytes 4 n)) same (begins_itself (weight_bytes 4 (reorder_by r v)))))

    apart : (v w : ℕ) → Done v ⊎ (v ≡ p) → Done w ⊎ (w ≡ p) → reorder_by r v ≡ reorder_by r w → v ≡ w
    apart v w (inl a) (inl b) same = met.apart v w a b same
    apart v w (inl a) (inr is) same = same_as v a (same ∙ ap (reorder_by r) is) ∙ sym is
    apart v w (inr is) (inl b) same = is ∙ sym (same_as w b (sym same ∙ ap (reorder_by r) is))
    apart v w (inr is) (inr also) same = is ∙ sym also

-- ---- the weights with one lead byte, as a list

abbrev pub IsPassed : List ℕ → ℕ → ℕ → Type 0
IsPassed items k v = IsBelow (λ place w. w ≡ get_or items place 0) k v

module _ (r : Option Reordering) (ws items : List ℕ) (lead : ℕ) where
  abbrev pub IsDone : ℕ → ℕ → Type 0
  IsDone k v = IsBefore ws lead v ⊎ IsPassed items k v

  pub lead_begun : (targets : List ℕ) → AreMet r targets (IsBefore ws lead) → AreMet r targets (IsDone 0)
  lead_begun targets met = fewer r targets (IsBefore ws lead) (IsDone 0) of met
    where
      of : (v : ℕ) → IsDone 0 v → IsBefore ws lead v
      of v (inl before) = before
      of v (inr passed) = absurd (omega (arith, passed.below))

  pub lead_more : (old new : List ℕ) (k : ℕ) → k < length items → ((v : ℕ) → Contains items v → Contains ws v × IsTrue (is_three_bytes v))
      → AreMet r old (IsDone k) → Adds (λ q. q ≡ reorder_by r (get_or items k 0)) old new
      → (Contains old (reorder_by r (get_or items k 0)) → IsApartFromThree (written_bytes r) ws (get_or items k 0)) → AreMet r new (IsDone (k + 1))
  lead_more old new k inside members met adds none =
      fewer r new (λ v. IsDone k v ⊎ (v ≡ get_or items k 0)) (IsDone (k + 1)) of (one_more_met r ws old new (IsDone k) (get_or items k 0) known met adds none)
    where
      of : (v : ℕ) → IsDone (k + 1) v → IsDone k v ⊎ (v ≡ get_or items k 0)
      of v (inl before) = inl (inl before)
      of v (inr passed) = elim (below_last passed.place k passed.below) [
        | inl earlier ↦ inl (inr (record { place = passed.place; below = earlier; is = passed.is }))
        | inr same ↦ inr (passed.is ∙ ap (λ k. get_or items k 0) same)
      ]

      known : (v : ℕ) → IsDone k v → Contains ws v × IsTrue (is_three_bytes v)
      known v (inl before) = (before.has, before.three)
      known v (inr passed) = members v (subst (Contains items) (sym passed.is) (Contains-get_or items passed.place 0 (omega (arith, inside, passed.below))))

  pub lead_done : (targets : List ℕ) (k : ℕ) → k ≡ length items → ((v : ℕ) → Contains ws v → IsTrue (is_three_bytes v) → v / 0x1000000 ≡ lead → Contains items v)
      → AreMet r targets (IsDone k) → AreMet r targets (IsBefore ws (lead + 1))
  lead_done targets k all members met = fewer r targets (IsDone k) (IsBefore ws (lead + 1)) of met
    where
      passed_from : (v : ℕ) → Contains items v → IsPassed items k v
      passed_from v c = record { place = c.0; below = omega (arith, all, c.1); is = sym (get_or_default items c.0 0 v c.1 ∙ c.2) }

      of : (v : ℕ) → IsBefore ws (lead + 1) v → IsDone k v
      of v is = elim (below_last (v / 0x1000000) lead is.before) as (λ _. IsDone k v) [
        | inl earlier ↦ inl (record { has = is.has; three = is.three; before = earlier })
        | inr same ↦ inr (passed_from v (members v is.has is.three same))
      ]

-- without a reordering each weight is its own target
pub met_itself : (ws : List ℕ) (n : ℕ) → AreMet None ws (IsBefore ws n)
met_itself ws n = record { covers = λ v is. is.has; apart = λ v w is other same. same }

-- ---- all together

before_all : (ws : List ℕ) → ((v : ℕ) → Contains ws v → v < 2 ^ 32) → (v : ℕ) → Contains ws v → is_three_bytes v ≡ true → IsBefore ws 256 v
before_all ws small v has is = record { has = has; three = is; before = by v (small v has) }
  where
    by : (v : ℕ) → v < 2 ^ 32 → v / 16777216 < 256
    by v h = omega (arith, h)

-- a weight of another length that is clear of the targets is apart from those of three bytes
pub apart_by_targets : (r : Option Reordering) (ws targets : List ℕ) → ((v : ℕ) → Contains ws v → v < 2 ^ 32) → AreMet r targets (IsBefore ws 256)
    → (w n : ℕ) → n ≡ reorder_by r w → IsClear targets n → IsApartFromThree (written_bytes r) ws w
apart_by_targets r ws targets small met w n same clear v has is differ =
    subst (IsClear targets) same clear (reorder_by r v) (met.covers v (before_all ws small v has is)) (three_kept r v ∙ is)

module _ (r : Option Reordering) (ws targets : List ℕ) (small : (v : ℕ) → Contains ws v → v < 2 ^ 32) (bound : (v : ℕ) → v < 2 ^ 32 → reorder_by r v < 2 ^ 32)
    (met : AreMet r targets (IsBefore ws 256)) where
  both_three : (v w : ℕ) → Contains ws v → Contains ws w → is_three_bytes v ≡ true → is_three_bytes w ≡ true → v ≢ w → IsBeginning (written_bytes r v) (written_bytes r w) → ⊥
  both_three v w has_v has_w is_v is_w differ begins =
      differ (met.apart v w (before_all ws small v has_v is_v) (before_all ws small w has_w is_w)
      (three_begin (reorder_by r v) (reorder_by r w) (bound v (small v has_v)) (bound w (small w has_w)) (three_kept r v ∙ is_v) (three_kept r w ∙ is_w) begins))

  pub free_by_parts : ((w : ℕ) → Contains ws w → is_three_bytes w ≡ false → IsApartFromThree (written_bytes r) ws w)
      → IsPrefixFree (written_bytes r) (λ w. Contains ws w × (is_three_bytes w ≡ false)) → IsPrefixFree (written_bytes r) (Contains ws)
  free_by_parts mixed others v w has_v has_w differ begins = by (cases_Bool (is_three_bytes v)) (cases_Bool (is_three_bytes w))
    where
      by : (is_three_bytes v ≡ true) ⊎ (is_three_bytes v ≡ false) → (is_three_bytes w ≡ true) ⊎ (is_three_bytes w ≡ false) → ⊥
      by (inl is_v) (inl is_w) = both_three v w has_v has_w is_v is_w differ begins
      by (inl is_v) (inr other) = (mixed w has_w other v has_v is_v differ).0 begins
      by (inr other) (inl is_w) = (mixed v has_v other w has_w is_w (λ e. differ (sym e))).1 begins
      by (inr other) (inr also) = others v w (has_v, other) (has_w, also) differ begins

-- overlaps of some weights are overlaps of all
pub overlaps_among : (spell : ℕ → List ℕ) (some all : List ℕ) (v w : ℕ) → ((p : ℕ) → Contains some p → Contains all p) → Overlaps spell some v w → Overlaps spell all v w
overlaps_among spell some all v w of o = record { first = of v o.first; second = of w o.second; different = o.different; begins = o.begins }

-- ---- lists, member by member

pub by_index : (P : ℕ → Type 0) (ws : List ℕ) → ((k : ℕ) → k < length ws → P (get_or ws k 0)) → (v : ℕ) → Contains ws v → P v
by_index P ws all v has = subst P (get_or_default ws has.0 0 v has.1 ∙ has.2) (all has.0 has.1)

pub pair_among : (ws : List ℕ) (i w : ℕ) → i < length ws → (p : ℕ) → Contains (get_or ws i 0 ∷ w ∷ []) p → Contains (w ∷ ws) p
pair_among ws i w inside p has = by has.0 has.1 has.2
  where
    first : Contains (w ∷ ws) w
    first = (0, omega arith, refl)

    later : (v : ℕ) → Contains ws v → Contains (w ∷ ws) v
    later v c = (suc c.0, omega (arith, c.1), c.2)

    by : (k : ℕ) → k < length (get_or ws i 0 ∷ w ∷ []) → get_or (get_or ws i 0 ∷ w ∷ []) k p ≡ p → Contains (w ∷ ws) p
    by zero below is = subst (Contains (w ∷ ws)) is (later (get_or ws i 0) (Contains-get_or ws i 0 inside))
    by (suc zero) below is = subst (Contains (w ∷ ws)) is first
    by (suc (suc k)) below is = absurd (omega (arith, below))

pub cons_among : (ws all : List ℕ) (w : ℕ) → Contains all w → ((v : ℕ) → Contains ws v → Contains all v) → (p : ℕ) → Contains (w ∷ ws) p → Contains all p
cons_among ws all w first later p has = by has.0 has.1 has.2
  where
    by : (k : ℕ) → k < length (w ∷ ws) → get_or (w ∷ ws) k p ≡ p → Contains all p
    by zero below is = subst (Contains all) is first
    by (suc k) below is = later p (k, omega (arith, below), is)

-- ---- calls

pub free_within : {E : Type 0} (r : Result (Option Overlap) E) (spell : ℕ → List ℕ) (P Q : ℕ → Type 0) → ((w : ℕ) → Q w → P w)
    → IfOk r (λ found. IsNone found → IsPrefixFree spell P) → IfOk r (λ found. IsNone found → IsPrefixFree spell Q)
free_within (Ok found) spell P Q of h = λ none v w p q differ begins. h none v w (of v p) (of w q) differ begins
free_within (Err e) spell P Q of h = tt

pub free_all : {E : Type 0} (r : Result (Option Overlap) E) (spell : ℕ → List ℕ) (P Q : ℕ → Type 0) → (IsPrefixFree spell P → IsPrefixFree spell Q)
    → IfOk r (λ found. IsNone found → IsPrefixFree spell P) → IfOk r (λ found. IsNone found → IsPrefixFree spell Q)
free_all (Ok found) spell P Q of h = λ none. of (h none)
free_all (Err e) spell P Q of h = tt

pub overlaps_within : {E : Type 0} (r : Result (Option Overlap) E) (spell : ℕ → List ℕ) (some all : List ℕ) → ((p : ℕ) → Contains some p → Contains all p)
    → IfOk r (λ found. IfSome found (λ o. Overlaps spell some o.first o.second)) → IfOk r (λ found. IfSome found (λ o. Overlaps spell all o.first o.second))
overlaps_within (Ok (Some o)) spell some all of h = overlaps_among spell some all o.first o.second of h
overlaps_within (Ok None) spell some all of h = h
overlaps_within (Err e) spell some all of h = tt

pub ok_weaker : {X E : Type 0} (r : Result X E) (P Q : X → Type 0) → ((x : X) → P x → Q x) → IfOk r P → IfOk r Q
ok_weaker (Ok x) P Q f h = f x h
ok_weaker (Err e) P Q f h = tt

pub some_weaker : {X : Type 0} (o : Option X) (P Q : X → Type 0) → ((x : X) → P x → Q x) → IfSome o P → IfSome o Q
some_weaker (Some x) P Q f h = f x h
some_weaker None P Q f h = h

pub both_ways : {A B C : Type 0} → A ↔ B → B ↔ C → A ↔ C
both_ways f g = (λ a. g.0 (f.0 a), λ c. f.1 (g.1 c))

-- ---- samples

pub kept_sample : (r : Reordering) (old new : List ℕ) (w : ℕ) → ((v : ℕ) → Contains old v → Contains new v) → IsSampled r old w → IsSampled r new w
kept_sample r old new w keeps is = record { sample = is.sample; has = keeps is.sample is.has; lead = is.lead; reordered = is.reordered }

module _ (ws samples : List ℕ) (special : SpecialPrimaries) (r : Reordering) (members : (v : ℕ) → Contains samples v → Contains ws v) where
  pub alike_by_samples : ((w : ℕ) → Contains ws w → IsSampled r samples w) → CompressAlike samples special r → CompressAlike ws special r
  alike_by_samples sampled alike v w has_v has_w same =
      let a = sampled v has_v in
      let b = sampled w has_w in
      ap (is_compressible special) (sym a.lead) ∙ alike a.sample b.sample a.has b.has (a.reordered ∙ same ∙ sym b.reordered) ∙ ap (is_compressible special) b.lead

  pub samples_alike : CompressAlike ws special r → CompressAlike samples special r
  samples_alike alike v w has_v has_w same = alike v w (members v has_v) (members w has_w) same

  pub apart_by_samples : CompressApart samples special r → CompressApart ws special r
  apart_by_samples apart = record {
    compressed = apart.compressed;
    other = apart.other;
    has_compressed = members apart.compressed apart.has_compressed;
    has_other = members apart.other apart.has_other;
    together = apart.together;
    is_compressed = apart.is_compressed;
    is_other = apart.is_other;
  }
