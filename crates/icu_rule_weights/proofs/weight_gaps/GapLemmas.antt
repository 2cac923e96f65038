-- Weights of a form in a gap, and that no other choice of them holds more.
use Rattle.std.proofs.Common.{◌≡◌, ◌≢◌, ℕ, zero, suc, ◌+◌, ◌-◌, ◌*◌, ◌/◌, ◌%◌, ◌^◌, ◌<◌, ◌≤◌, ◌↔◌, List, [], ◌∷◌, ◌++◌, length, get_or, min, take, Option, Some, None, sym, ap, subst, inl, inr, ◌⊎◌, arith, lit<, lit≤, ◌∙◌, All, AllPairs, Contains}
use Rattle.std.proofs.lemmas.Bool.{cases_lt}
use Rattle.std.proofs.lemmas.List.{get_or-take, get_or_default, length-take}
use Rattle.std.proofs.lemmas.List.Elements.{All-push, All-take}
use Rattle.std.proofs.lemmas.List.Quantifiers.{all_pairs_push}
use Rattle.icu_order_levels.specs.ListOrder.{IsBeginning}
use Rattle.icu_order_levels.specs.Premises.{IsPrefixFree}
use Rattle.icu_order_levels.specs.WeightBytes.{weight_bytes}
use Rattle.icu_table_weights.proofs.BeginningLemmas.{beginning_between, beginning_le}
use Rattle.icu_rule_weights.specs.declared.weight_gaps.byte_range.ByteRange.{ByteRange}
use Rattle.icu_rule_weights.specs.declared.weight_gaps.byte_range.WeightForm.{WeightForm}
use Rattle.icu_rule_weights.specs.weight_gaps.GapWeights.{HasBytesIn, AreOrderedRanges, byte_ranges, IsOfForm, IsClearBelow, FillsGap, HoldsNoMore, IsNextAbove, IsLeastAbove, IsPast, IsNextIn, HasNoNext}
use Rattle.icu_rule_weights.proofs.weight_gaps.BegunGapLemmas.{LastBegun, four_bytes, three_bytes, two_bytes, one_byte, clear_from}

-- ---- by the number of bytes

by_length : (P : ℕ → Type 0) → P 1 → P 2 → P 3 → P 4 → (n : ℕ) → 1 ≤ n → n ≤ 4 → P n
by_length P a b c d zero l m = absurd (omega arith)
by_length P a b c d (suc zero) l m = a
by_length P a b c d (suc (suc zero)) l m = b
by_length P a b c d (suc (suc (suc zero))) l m = c
by_length P a b c d (suc (suc (suc (suc zero)))) l m = d
by_length P a b c d (suc (suc (suc (suc (suc n))))) l m = absurd (omega arith)

-- how many numbers above a weight of so many bytes begin with them
abbrev spare : ℕ → ℕ
spare n = 256 ^ (4 - n) - 1

pub ranges_ordered : (seconds : ByteRange) (n : ℕ) → 1 ≤ n → n ≤ 4 → seconds.least ≤ seconds.greatest → AreOrderedRanges (byte_ranges seconds n)
ranges_ordered seconds n a b l =
    by_length (λ k. AreOrderedRanges (byte_ranges seconds k))
    (lit≤ tt, (lit≤ tt, (lit≤ tt, (lit≤ tt, tt)))) (lit≤ tt, (l, (lit≤ tt, (lit≤ tt, tt))))
    (lit≤ tt, (l, (lit≤ tt, (lit≤ tt, tt)))) (lit≤ tt, (l, (lit≤ tt, (lit≤ tt, tt)))) n a b

fits_of : (seconds : ByteRange) (w n : ℕ) → 1 ≤ n → n ≤ 4 → HasBytesIn (byte_ranges seconds n) w → w < 2 ^ 32
fits_of seconds w =
    by_length (λ k. HasBytesIn (byte_ranges seconds k) w → w < 2 ^ 32)
    (λ h. omega (arith, h.1)) (λ h. omega (arith, h.1)) (λ h. omega (arith, h.1)) (λ h. omega (arith, h.1))

last_of : (seconds : ByteRange) → 2 ≤ seconds.least → (w n : ℕ) → 1 ≤ n → n ≤ 4 → HasBytesIn (byte_ranges seconds n) w
    → LastBegun w (w + spare n)
last_of seconds least w =
    by_length (λ k. HasBytesIn (byte_ranges seconds k) w → LastBegun w (w + spare k))
    (λ h. one_byte w (omega (arith, h.1)) (omega (arith, h.2.1, h.2.2.1, h.2.2.2.1)) (omega (arith, h.0)))
    (λ h. two_bytes w (omega (arith, h.1)) (omega (arith, h.2.2.1, h.2.2.2.1)) (omega (arith, h.2.0)))
    (λ h. three_bytes w (omega (arith, h.1)) (omega (arith, h.2.2.2.1)) (omega (arith, h.2.2.0)))
    (λ h. let same : w ≡ w + 0 = omega arith in
    subst (LastBegun w) same (four_bytes w (omega (arith, h.1)) (omega (arith, h.2.2.2.0))))

-- a weight of m bytes that one of n bytes begins, with all that it begins
record IsExtended (seconds : ByteRange) (n m w : ℕ) : Type 0 where
  longer : ℕ
  bytes : HasBytesIn (byte_ranges seconds m) longer
  up : w ≤ longer
  within : longer + spare m ≤ w + spare n

one_longer : (seconds : ByteRange) → seconds.least ≤ seconds.greatest → seconds.greatest ≤ 255 → (w n : ℕ) → 1 ≤ n → n ≤ 3
    → HasBytesIn (byte_ranges seconds n) w → IsExtended seconds n (suc n) w
one_longer seconds a b w zero l m h = absurd (omega arith)
one_longer seconds a b w (suc zero) l m (p, q, (r, s, (t, u, (v, x, y)))) = record {
  longer = w + seconds.least * 65536;
  bytes = (omega arith, omega arith, (omega arith, omega arith, (omega arith, omega arith, (omega arith, omega arith, omega arith))));
  up = omega arith;
  within = omega arith;
}
one_longer seconds a b w (suc (suc zero)) l m (p, q, (r, s, (t, u, (v, x, y)))) = record {
  longer = w + 512;
  bytes = (omega arith, omega arith, (omega arith, omega arith, (omega arith, omega arith, (omega arith, omega arith, omega arith))));
  up = omega arith;
  within = omega arith;
}
one_longer seconds a b w (suc (suc (suc zero))) l m (p, q, (r, s, (t, u, (v, x, y)))) = record {
  longer = w + 2;
  bytes = (omega arith, omega arith, (omega arith, omega arith, (omega arith, omega arith, (omega arith, omega arith, omega arith))));
  up = omega arith;
  within = omega arith;
}
one_longer seconds a b w (suc (suc (suc (suc n)))) l m h = absurd (omega arith)

extended : (seconds : ByteRange) → seconds.least ≤ seconds.greatest → seconds.greatest ≤ 255 → (k n m w : ℕ) → n + k ≡ m → 1 ≤ n
    → m ≤ 4 → HasBytesIn (byte_ranges seconds n) w → IsExtended seconds n m w
extended seconds a b zero n m w e l o h =
    let same : n ≡ m = omega arith in
    record {
      longer = w;
      bytes = subst (λ i. HasBytesIn (byte_ranges seconds i) w) same h;
      up = omega arith;
      within = subst (λ i. w + spare i ≤ w + spare n) same (omega arith);
    }
extended seconds a b (suc k) n m w e l o h =
    let once = one_longer seconds a b w n l (omega arith) h in
    let further = extended seconds a b k (suc n) m once.longer (omega arith) (omega arith) o once.bytes in
    record {
      longer = further.longer;
      bytes = further.bytes;
      up = omega (arith, once.up, further.up);
      within = omega (arith, once.within, further.within);
    }

-- ---- clear of others

pub clear_further : (v u w : ℕ) → v < 2 ^ 32 → IsClearBelow v u → u ≤ w → IsClearBelow v w
clear_further v u w l clear up = record {
  less = omega (arith, clear.less);
  begins_not = λ b. clear.begins_not (beginning_between v u w l (omega (arith, clear.less)) up b);
}

-- of two weights of one length the lesser one is clear below what the greater one is clear below
clear_alike : (seconds : ByteRange) → 2 ≤ seconds.least → (n v w high : ℕ) → 1 ≤ n → n ≤ 4 → HasBytesIn (byte_ranges seconds n) v
    → HasBytesIn (byte_ranges seconds n) w → w ≤ v → high < 2 ^ 32 → IsClearBelow v high → IsClearBelow w high
clear_alike seconds least n v w high a b h g up m clear =
    let over = (clear_from v (v + spare n) (fits_of seconds v n a b h) (omega arith) (last_of seconds least v n a b h) high m).0 clear in
    (clear_from w (w + spare n) (fits_of seconds w n a b g) (omega arith) (last_of seconds least w n a b g) high m).1 (omega (arith, over, up))

pub no_next_over : (form : WeightForm) (n last high w : ℕ) → 1 ≤ n → n ≤ 4 → high < 2 ^ 32
    → IsNextAbove (byte_ranges form.seconds n) last w → (IsClearBelow w high → ⊥) → HasNoNext form.seconds n last high
no_next_over form n last high w a b m next crowded v h l clear =
    crowded (clear_alike form.seconds form.written n v w high a b h next.bytes (next.least v h l) m clear)

pub no_next_above : (seconds : ByteRange) (n last high : ℕ) → IsLeastAbove (byte_ranges seconds n) last None → HasNoNext seconds n last high
no_next_above seconds n last high none v h l clear = omega (arith, none v h)

-- ---- weights of a gap

module _ (form : WeightForm) (low high : ℕ) where
  form_fits : (w : ℕ) → IsOfForm form w → w < 2 ^ 32
  form_fits w of_form =
      fits_of form.seconds w of_form.length (omega (arith, form.some, of_form.long)) (omega (arith, form.few, of_form.short)) of_form.bytes

  pub fills_nothing : FillsGap form low high []
  fills_nothing = record {
    of_form = λ k d l. absurd (omega arith);
    above = λ k d l. absurd (omega arith);
    ascending = λ i j d l m. absurd (omega arith);
    below = λ k d l. absurd (omega arith);
  }

  pub fills_further : (ws : List ℕ) (n last w : ℕ) → FillsGap form low high ws → IsPast low ws last → form.shortest ≤ n → n ≤ form.longest
      → IsNextIn form.seconds n last high w → FillsGap form low high (ws ++ w ∷ [])
  fills_further ws n last w fills past a b next = record {
    of_form = All-push (IsOfForm form) ws w fills.of_form is_of_form;
    above = All-push (IsClearBelow low) ws w fills.above (past.after_low w fits next.next.above);
    ascending = all_pairs_push IsClearBelow ws w fills.ascending (past.after_all w fits next.next.above);
    below = All-push (λ v. IsClearBelow v high) ws w fills.below next.below;
  } where
    is_of_form : IsOfForm form w
    is_of_form = record { length = n; long = a; short = b; bytes = next.next.bytes }

    fits : w < 2 ^ 32
    fits = form_fits w is_of_form

  pub fills_taken : (ws : List ℕ) (n : ℕ) → FillsGap form low high ws → FillsGap form low high (take n ws)
  fills_taken ws n fills = record {
    of_form = All-take (IsOfForm form) n ws fills.of_form;
    above = All-take (IsClearBelow low) n ws fills.above;
    ascending = λ i j d l m. pairs i j d l (subst (λ k. j < k) (length-take n ws) m);
    below = All-take (λ v. IsClearBelow v high) n ws fills.below;
  } where
    pairs : (i j d : ℕ) → i < j → j < min n (length ws) → IsClearBelow (get_or (take n ws) i d) (get_or (take n ws) j d)
    pairs i j d l m =
        subst (λ v. IsClearBelow v (get_or (take n ws) j d)) (sym (get_or-take n ws i d (omega arith)))
        (subst (λ v. IsClearBelow (get_or ws i d) v) (sym (get_or-take n ws j d (omega arith))) (fills.ascending i j d l (omega arith)))

  -- past the last weight, numbers are clear of all
  pub past_last : (ws : List ℕ) (i w end : ℕ) → FillsGap form low high ws → i + 1 ≡ length ws → w ≡ get_or ws i w → w ≤ end
      → ((u : ℕ) → u < 2 ^ 32 → IsClearBelow w u ↔ (end < u)) → IsPast low ws end
  past_last ws i w end fills last is up clear = record {
    after_low = λ u m over. clear_further low w u low_fits above_low (omega arith);
    after_all = λ u m over k d n. by u m over k d n (cases_lt k i);
  } where
    above_low : IsClearBelow low w
    above_low = subst (IsClearBelow low) (sym is) (fills.above i w (omega arith))

    low_fits : low < 2 ^ 32
    low_fits = let fits = form_fits (get_or ws i w) (fills.of_form i w (omega arith)) in omega (arith, above_low.less, is)

    by : (u : ℕ) → u < 2 ^ 32 → end < u → (k d : ℕ) → k < length ws → (k < i) ⊎ (i ≤ k) → IsClearBelow (get_or ws k d) u
    by u m over k d n (inl before) =
        clear_further (get_or ws k d) (get_or ws i d) u (form_fits (get_or ws k d) (fills.of_form k d n))
        (fills.ascending k i d before (omega arith)) (omega (arith, get_or_default ws i d w (omega arith)))
    by u m over k d n (inr after) =
        let same : i ≡ k = omega arith in
        let at : w ≡ get_or ws k d = subst (λ j. w ≡ get_or ws j d) same (is ∙ get_or_default ws i w d (omega arith)) in
        subst (λ v. IsClearBelow v u) at ((clear u m).1 over)

  pub past_further : (ws : List ℕ) (last w end : ℕ) → IsPast low ws last → last < w → w ≤ end
      → ((u : ℕ) → u < 2 ^ 32 → IsClearBelow w u ↔ (end < u)) → IsPast low (ws ++ w ∷ []) end
  past_further ws last w end past above up clear = record {
    after_low = λ u m over. past.after_low u m (omega arith);
    after_all = λ u m over. All-push (λ v. IsClearBelow v u) ws w (past.after_all u m (omega arith)) ((clear u m).1 over);
  }

  -- ---- no more

  -- behind so many weights, those that fill a gap go on above the last number
  abbrev pub GoesOnAbove : ℕ → ℕ → Type 0
  GoesOnAbove n last = (vs : List ℕ) → FillsGap form low high vs → n < length vs → last < get_or vs n 0

  pub first_above : (last : ℕ) → ((w : ℕ) → w < 2 ^ 32 → IsClearBelow low w → last < w) → GoesOnAbove 0 last
  first_above last first vs fills some =
      first (get_or vs 0 0) (form_fits (get_or vs 0 0) (fills.of_form 0 0 some)) (fills.above 0 0 some)

  -- a weight of the form has all bytes
  longest_of : (v : ℕ) (of_form : IsOfForm form v) → IsExtended form.seconds of_form.length form.longest v
  longest_of v of_form =
      extended form.seconds form.ordered form.in_byte (form.longest - of_form.length) of_form.length form.longest v
      (omega (arith, of_form.short)) (omega (arith, form.some, of_form.long)) form.few of_form.bytes

  spare_of : (v u : ℕ) (of_form : IsOfForm form v) → u < 2 ^ 32 → IsClearBelow v u → v + spare of_form.length < u
  spare_of v u of_form m clear =
      let a : 1 ≤ of_form.length = omega (arith, form.some, of_form.long) in
      let b : of_form.length ≤ 4 = omega (arith, form.few, of_form.short) in
      (clear_from v (v + spare of_form.length) (form_fits v of_form) (omega arith)
      (last_of form.seconds form.written v of_form.length a b of_form.bytes) u m).0 clear

  clear_longest : (w u : ℕ) → HasBytesIn (byte_ranges form.seconds form.longest) w → u < 2 ^ 32 → w + spare form.longest < u → IsClearBelow w u
  clear_longest w u h m over =
      let a : 1 ≤ form.longest = omega (arith, form.some, form.in_order) in
      (clear_from w (w + spare form.longest) (fits_of form.seconds w form.longest a form.few h) (omega arith)
      (last_of form.seconds form.written w form.longest a form.few h) u m).1 over

  pub further_above : (n last w end : ℕ) → IsNextAbove (byte_ranges form.seconds form.longest) last w
      → ((u : ℕ) → u < 2 ^ 32 → IsClearBelow w u ↔ (end < u)) → GoesOnAbove n last → GoesOnAbove (n + 1) end
  further_above n last w end next clear goes vs fills some = (clear u m).0 (clear_longest w u next.bytes m (omega (arith, least, spare_of v u of_v m apart, long.within)))
    where
      v : ℕ
      v = get_or vs n 0

      u : ℕ
      u = get_or vs (n + 1) 0

      of_v : IsOfForm form v
      of_v = fills.of_form n 0 (omega arith)

      m : u < 2 ^ 32
      m = form_fits u (fills.of_form (n + 1) 0 some)

      apart : IsClearBelow v u
      apart = fills.ascending n (n + 1) 0 (omega arith) some

      long : IsExtended form.seconds of_v.length form.longest v
      long = longest_of v of_v

      least : w ≤ long.longer
      least = next.least long.longer long.bytes (omega (arith, goes vs fills (omega arith), long.up))

  pub no_more : (n last : ℕ) → high < 2 ^ 32 → HasNoNext form.seconds form.longest last high → GoesOnAbove n last → HoldsNoMore form low high n
  no_more n last m none goes vs fills = by (cases_lt n (length vs))
    where
      v : ℕ
      v = get_or vs n 0

      more : n < length vs → ⊥
      more some =
          let of_v = fills.of_form n 0 some in
          let long = longest_of v of_v in
          none long.longer long.bytes (omega (arith, goes vs fills some, long.up))
          (clear_longest long.longer high long.bytes m (omega (arith, spare_of v high of_v m (fills.below n 0 some), long.within)))

      by : (n < length vs) ⊎ (length vs ≤ n) → length vs ≤ n
      by (inl some) = absurd (more some)
      by (inr none) = none

  -- ---- prefix free

  pub filled_free : (ws : List ℕ) → FillsGap form low high ws → IsPrefixFree (weight_bytes 4) (Contains ws)
  filled_free ws fills v w (i, l, e) (j, m, f) other b = by (cases_lt i j)
    where
      at_i : get_or ws i 0 ≡ v
      at_i = get_or_default ws i 0 v l ∙ e

      at_j : get_or ws j 0 ≡ w
      at_j = get_or_default ws j 0 w m ∙ f

      by : (i < j) ⊎ (j ≤ i) → ⊥
      by (inl before) =
          (subst (IsClearBelow v) at_j (subst (λ x. IsClearBelow x (get_or ws j 0)) at_i (fills.ascending i j 0 before m))).begins_not b
      by (inr after) = apart (cases_lt j i)
        where
          apart : (j < i) ⊎ (i ≤ j) → ⊥
          apart (inl less) =
              let clear : IsClearBelow w v = subst (IsClearBelow w) at_i (subst (λ x. IsClearBelow x (get_or ws i 0)) at_j (fills.ascending j i 0 less l)) in
              let v_fits : v < 2 ^ 32 = subst (λ x. x < 2 ^ 32) at_i (form_fits (get_or ws i 0) (fills.of_form i 0 l)) in
              let up = beginning_le v w v_fits (omega (arith, clear.less)) b in
              omega (arith, up, clear.less)
          apart (inr same) =
              let places : i ≡ j = omega arith in
              other (sym at_i ∙ ap (λ k. get_or ws k 0) places ∙ at_j)
