-- The bytes of a reordered primary after weights of one lead: of two the lesser precedes.
use Rattle.std.proofs.Common.{◌≡◌, ◌≢◌, ℕ, ◌%◌, ◌^◌, ◌<◌, ◌≤◌, if◌then◌else◌, Bool, ◌||◌, false, [], ◌∷◌, ◌++◌, refl, sym, ap, ◌∙◌, subst, inl, inr, ◌⊎◌, arith, lit<, lit≤, eq-eqb, ne_eqb, eqb, ltb}
use Rattle.std.proofs.lemmas.Bool.{cases_order, cases_eq, lt-ltb, le-ltb, cond-true, cond-false, or_right}
use Rattle.icu_order_levels.specs.ListOrder.{IsUnder, IsOver, IsBeginning, Precedes}
use Rattle.icu_order_levels.specs.WeightBytes.{weight_bytes}
use Rattle.icu_order_levels.specs.Primaries.{lead, below_lead, second_byte, lead_change, primary_bytes}
use Rattle.icu_order_levels.proofs.WeightOrder.{weights_precede, over_first, under_first}
use Rattle.icu_order_levels.proofs.LevelOrder.{over_less}
use Rattle.icu_order_levels.proofs.PrecedesLemmas.{precedes_over, precedes_front, precedes_rest, nonzero_first}

-- what may stand after weights whose lead is dropped, 0 for none
pub record FitsAfter (dropped : ℕ) (IsNext : ℕ → Type 0) : Type 0 where
  pub drops : (dropped ≡ 0) ⊎ (3 ≤ dropped)
  pub fits : (w : ℕ) → IsNext w → w < 256 ^ 4
  pub leads : (w : ℕ) → IsNext w → 2 ≤ lead w
  pub separator : (w : ℕ) → IsNext w → lead w ≡ 2 → w ≡ 0x02000000
  pub seconds : (w : ℕ) → IsNext w → lead w ≡ dropped → (4 ≤ second_byte w) × (second_byte w ≤ 0xFE)
  pub prefix_free : (v w : ℕ) → IsNext v → IsNext w → v ≢ w → IsBeginning (weight_bytes 4 v) (weight_bytes 4 w) → ⊥

pub same_lead : (d w : ℕ) → lead w ≡ d → primary_bytes d w ≡ weight_bytes 3 (below_lead w)
same_lead d w e = rw (eq-eqb (lead w) d e) refl

pub other_lead : (d w : ℕ) → lead w ≢ d → primary_bytes d w ≡ lead_change d (lead w) ++ weight_bytes 4 w
other_lead d w e = rw (ne_eqb (lead w) d e) refl

-- what stands before a lead that isn't dropped
no_change : (d l : ℕ) → (d ≡ 0) ⊎ (l ≡ 2) → lead_change d l ≡ []
no_change d l (inl z) = rw (eq-eqb d 0 z) refl
no_change d l (inr m) = cond-true (eqb d 0 || eqb l 2) [] _ (or_right (eqb d 0) (eqb l 2) (eq-eqb l 2 m))

change : (d l : ℕ) → d ≢ 0 → l ≢ 2 → lead_change d l ≡ (if ltb l d then 3 ∷ [] else 0xFF ∷ [])
change d l z m = cond-false (eqb d 0 || eqb l 2) [] _ (neither (ne_eqb d 0 z) (ne_eqb l 2 m))
  where
    neither : {x y : Bool} → x ≡ false → y ≡ false → (x || y) ≡ false
    neither {x = x} {y = y} a b = rw (a, b) refl

falls_change : (d l : ℕ) → d ≢ 0 → l ≢ 2 → l < d → lead_change d l ≡ 3 ∷ []
falls_change d l z m o = change d l z m ∙ cond-true (ltb l d) _ _ (lt-ltb l d o)

climbs_change : (d l : ℕ) → d ≢ 0 → l ≢ 2 → d ≤ l → lead_change d l ≡ 0xFF ∷ []
climbs_change d l z m o = change d l z m ∙ cond-false (ltb l d) _ _ (le-ltb l d o)

module _ (d : ℕ) (IsNext : ℕ → Type 0) (well_formed : FitsAfter d IsNext) where
  -- what a weight writes where d is dropped
  data Kind (w : ℕ) : Type 0 where
    drops : lead w ≡ d → IsOver 3 (primary_bytes d w) → IsUnder 0xFF (primary_bytes d w) → primary_bytes d w
        ≡ weight_bytes 3 (below_lead w) → Kind w
    starts : d ≡ 0 → primary_bytes d w ≡ weight_bytes 4 w → Kind w
    merges : 3 ≤ d → lead w ≡ 2 → primary_bytes d w ≡ weight_bytes 4 w → Kind w
    falls : 2 < lead w → lead w < d → primary_bytes d w ≡ 3 ∷ weight_bytes 4 w → Kind w
    climbs : 3 ≤ d → d < lead w → primary_bytes d w ≡ 0xFF ∷ weight_bytes 4 w → Kind w

  full : (w : ℕ) → lead w ≢ d → lead_change d (lead w) ≡ [] → primary_bytes d w ≡ weight_bytes 4 w
  full w n e = other_lead d w n ∙ ap (λ l. l ++ weight_bytes 4 w) e

  kind : (w : ℕ) → IsNext w → Kind w
  kind w reachable = by well_formed.drops (cases_order (lead w) d) (cases_eq (lead w) 2)
    where
      two : 2 ≤ lead w
      two = well_formed.leads w reachable

      by : (d ≡ 0) ⊎ (3 ≤ d) → (lead w ≡ d) ⊎ ((lead w < d) ⊎ (d < lead w)) → (lead w ≡ 2) ⊎ (lead w ≡ 2 → ⊥) → Kind w
      by (inl z) o m = starts z (full w (omega arith) (no_change d (lead w) (inl z)))
      by (inr t) (inl e) m =
          let k = well_formed.seconds w reachable e in
          let h = same_lead d w e in
          drops e (rw h (over_first 3 (second_byte w) (weight_bytes 2 (w % 256 ^ 3 % 256 ^ 2)) k.0))
          (rw h (under_first 0xFF (second_byte w) (weight_bytes 2 (w % 256 ^ 3 % 256 ^ 2)) (omega arith))) h
      by (inr t) (inr o) (inl m) = merges t m (full w (omega arith) (no_change d (lead w) (inr m)))
      by (inr t) (inr (inl o)) (inr m) =
          falls (omega arith) o (other_lead d w (omega arith) ∙ ap (λ l. l ++ weight_bytes 4 w) (falls_change d (lead w) (omega arith) m o))
      by (inr t) (inr (inr o)) (inr m) =
          climbs t o (other_lead d w (omega arith)
          ∙ ap (λ l. l ++ weight_bytes 4 w) (climbs_change d (lead w) (omega arith) m (omega arith)))

  -- weights in full
  full_leads : (w : ℕ) → IsNext w → IsOver 1 (weight_bytes 4 w)
  full_leads w reachable = over_first 1 (lead w) (weight_bytes 3 (below_lead w)) (well_formed.leads w reachable)

  full_rises : (v w : ℕ) → IsNext v → IsNext w → v < w → Precedes (weight_bytes 4 v) (weight_bytes 4 w)
  full_rises v w p q l = weights_precede 4 v w (well_formed.fits w q) l (well_formed.prefix_free v w p q (omega arith))

  merge_is : (w : ℕ) → IsNext w → lead w ≡ 2 → weight_bytes 4 w ≡ 2 ∷ []
  merge_is w reachable m = ap (weight_bytes 4) (well_formed.separator w reachable m)

  tails_rise : (v w : ℕ) → IsNext v → IsNext w → lead v ≡ lead w → v < w
      → Precedes (weight_bytes 3 (below_lead v)) (weight_bytes 3 (below_lead w))
  tails_rise v w p q e l =
      let a = nonzero_first (lead v) (weight_bytes 3 (below_lead v)) (omega (arith, well_formed.leads v p)) in
      let b = nonzero_first (lead w) (weight_bytes 3 (below_lead w)) (omega (arith, well_formed.leads w q)) in
      precedes_rest (lead v) (lead w) (weight_bytes 3 (below_lead v)) (weight_bytes 3 (below_lead w)) e
      (subst (λ ps. Precedes ps (lead w ∷ weight_bytes 3 (below_lead w))) a
      (subst (λ qs. Precedes (weight_bytes 4 v) qs) b (full_rises v w p q l)))

  kind_leads : (w : ℕ) → IsNext w → Kind w → IsOver 1 (primary_bytes d w)
  kind_leads w p (drops e o u h) = over_less 1 3 (primary_bytes d w) (lit≤ tt) o
  kind_leads w p (starts z h) = rw h (full_leads w p)
  kind_leads w p (merges t m h) = rw h (full_leads w p)
  kind_leads w p (falls m o h) = rw h (lit< tt)
  kind_leads w p (climbs t o h) = rw h (lit< tt)

  kind_rises : (v w : ℕ) → IsNext v → IsNext w → v < w → lead v ≤ lead w → Kind v → Kind w
      → Precedes (primary_bytes d v) (primary_bytes d w)
  kind_rises v w p q l le (drops e o u h) (drops f i x g) = rw (h, g) (tails_rise v w p q (e ∙ sym f) l)
  kind_rises v w p q l le (drops e o u h) (starts z g) = absurd (omega (arith, well_formed.leads v p))
  kind_rises v w p q l le (drops e o u h) (merges t m g) = absurd (omega arith)
  kind_rises v w p q l le (drops e o u h) (falls m n g) = absurd (omega arith)
  kind_rises v w p q l le (drops e o u h) (climbs t n g) =
      rw g (precedes_over 0xFE (primary_bytes d v) (0xFF ∷ weight_bytes 4 w) (over_less 0 3 (primary_bytes d v) (lit≤ tt) o) u (lit< tt))
  kind_rises v w p q l le (starts z h) (drops f i x g) = absurd (omega (arith, well_formed.leads w q))
  kind_rises v w p q l le (starts z h) (starts y g) = rw (h, g) (full_rises v w p q l)
  kind_rises v w p q l le (starts z h) (merges t m g) = absurd (omega arith)
  kind_rises v w p q l le (starts z h) (falls m n g) = absurd (omega arith)
  kind_rises v w p q l le (starts z h) (climbs t n g) = absurd (omega arith)
  kind_rises v w p q l le (merges t m h) (drops f i x g) =
      rw (h, merge_is v p m)
      (precedes_over 2 (2 ∷ []) (primary_bytes d w) (lit< tt) (lit< tt) (over_less 2 3 (primary_bytes d w) (lit≤ tt) i))
  kind_rises v w p q l le (merges t m h) (starts z g) = absurd (omega arith)
  kind_rises v w p q l le (merges t m h) (merges o r g) = rw (h, g) (full_rises v w p q l)
  kind_rises v w p q l le (merges t m h) (falls o r g) = rw (h, g, merge_is v p m) (λ s t. refl)
  kind_rises v w p q l le (merges t m h) (climbs o r g) = rw (h, g, merge_is v p m) (λ s t. refl)
  kind_rises v w p q l le (falls m n h) (drops f i x g) =
      rw h (precedes_over 3 (3 ∷ weight_bytes 4 v) (primary_bytes d w) (lit< tt) (lit< tt) i)
  kind_rises v w p q l le (falls m n h) (starts z g) = absurd (omega arith)
  kind_rises v w p q l le (falls m n h) (merges o r g) = absurd (omega arith)
  kind_rises v w p q l le (falls m n h) (falls o r g) =
      rw (h, g) (precedes_front (3 ∷ []) (weight_bytes 4 v) (weight_bytes 4 w) (full_rises v w p q l))
  kind_rises v w p q l le (falls m n h) (climbs o r g) = rw (h, g) (λ s t. refl)
  kind_rises v w p q l le (climbs m n h) (drops f i x g) = absurd (omega arith)
  kind_rises v w p q l le (climbs m n h) (starts z g) = absurd (omega arith)
  kind_rises v w p q l le (climbs m n h) (merges o r g) = absurd (omega arith)
  kind_rises v w p q l le (climbs m n h) (falls o r g) = absurd (omega arith)
  kind_rises v w p q l le (climbs m n h) (climbs o r g) =
      rw (h, g) (precedes_front (0xFF ∷ []) (weight_bytes 4 v) (weight_bytes 4 w) (full_rises v w p q l))

  -- what may stand begins above 01, and the lesser precedes
  pub next_leads : (w : ℕ) → IsNext w → IsOver 1 (primary_bytes d w)
  next_leads w p = kind_leads w p (kind w p)

  pub next_rises : (v w : ℕ) → IsNext v → IsNext w → v < w → Precedes (primary_bytes d v) (primary_bytes d w)
  next_rises v w p q l = kind_rises v w p q l (omega arith) (kind v p) (kind w q)
