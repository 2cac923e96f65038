-- Lead bytes of the weights of a level: what weights of the root say of them, and that weights with them are apart.
use Rattle.std.proofs.Common.{ℕ, ◌≡◌, ◌≢◌, ◌+◌, ◌/◌, ◌%◌, ◌^◌, ◌<◌, ◌≤◌, ◌⊎◌, inl, inr, List, length, get_or, set, sym, ap, ◌∙◌, subst, arith}
use Rattle.std.specs.List.{Contains}
use Rattle.std.proofs.lemmas.Bool.{cases_eq, cases_lt, eq-eqb, ne_eqb, cond-true, cond-false}
use Rattle.std.proofs.Math.Dec.{eqb}
use Rattle.std.proofs.lemmas.List.{get_or_default, get_or-set_same, get_or-set_other}
use Rattle.icu_order_levels.specs.ListOrder.{IsBeginning}
use Rattle.icu_order_levels.specs.Premises.{IsPrefixFree}
use Rattle.icu_order_levels.specs.WeightBytes.{weight_bytes}
use Rattle.icu_table_weights.proofs.BeginningLemmas.{Begins, digits_begin, bytes_begin}
use Rattle.icu_rule_weights.specs.declared.lead_use.LeadUse.{LeadUse}
use Rattle.icu_rule_weights.specs.declared.lead_use.LeadUse.TheVariants.{Free, Alone, Long}
use Rattle.icu_rule_weights.specs.LevelGaps.{AreLevelWeights}
use Rattle.icu_rule_weights.specs.inner.LeadUses.{use_of, FitsUse, IsWrittenBy, IsUsedBy, KeepUses}

pub use_alone : (w : ℕ) → w % 256 ≡ 0 → use_of w ≡ Alone
unfolding use_of
use_alone w e = cond-true (eqb (w % 256) 0) Alone Long (eq-eqb (w % 256) 0 e)

pub use_long : (w : ℕ) → w % 256 ≢ 0 → use_of w ≡ Long
unfolding use_of
use_long w n = cond-false (eqb (w % 256) 0) Alone Long (ne_eqb (w % 256) 0 n)

use_taken : (w : ℕ) → use_of w ≡ Free → ⊥
use_taken w e = by (cases_eq (w % 256) 0)
  where
    by : (w % 256 ≡ 0) ⊎ (w % 256 ≡ 0 → ⊥) → ⊥
    by (inl a) = let alone = use_alone w a in cc
    by (inr a) = let long = use_long w a in cc

fits_own : (w : ℕ) → FitsUse (use_of w) w
fits_own w = by (cases_eq (w % 256) 0)
  where
    by : (w % 256 ≡ 0) ⊎ (w % 256 ≡ 0 → ⊥) → FitsUse (use_of w) w
    by (inl a) = subst (λ u. FitsUse u w) (sym (use_alone w a)) a
    by (inr a) = subst (λ u. FitsUse u w) (sym (use_long w a)) a

alone_begins : (v w : ℕ) → v / 256 ≡ w / 256 → v % 256 ≡ 0 → IsBeginning (weight_bytes 2 v) (weight_bytes 2 w)
alone_begins v w e z = bytes_begin 2 v w (inr (e, inl z))

-- weights of the root with one lead byte use it in one way
same_use : (ws : List ℕ) (v w : ℕ) → AreLevelWeights ws → Contains ws v → Contains ws w → v / 256 ≡ w / 256 → use_of v ≡ use_of w
same_use ws v w root p q e = by (cases_eq (v % 256) 0) (cases_eq (w % 256) 0)
  where
    by : (v % 256 ≡ 0) ⊎ (v % 256 ≡ 0 → ⊥) → (w % 256 ≡ 0) ⊎ (w % 256 ≡ 0 → ⊥) → use_of v ≡ use_of w
    by (inl a) (inl b) = use_alone v a ∙ sym (use_alone w b)
    by (inl a) (inr b) = absurd (root.prefix_free v w p q (λ same. b (subst (λ x. x % 256 ≡ 0) same a)) (alone_begins v w e a))
    by (inr a) (inl b) = absurd (root.prefix_free w v q p (λ same. a (subst (λ x. x % 256 ≡ 0) same b)) (alone_begins w v (sym e) b))
    by (inr a) (inr b) = use_long v a ∙ sym (use_long w b)

contains_at : (ws : List ℕ) (k : ℕ) → k < length ws → Contains ws (get_or ws k 0)
contains_at ws k l = (k, l, get_or_default ws k (get_or ws k 0) 0 l)

-- one more weight of the root
pub used_more : (ws : List ℕ) (uses : List LeadUse) (i w : ℕ) → length uses ≡ 256 → i < length ws → get_or ws i 0 ≡ w → w < 2 ^ 16
    → AreLevelWeights ws → ((k : ℕ) → k < i → IsUsedBy uses (get_or ws k 0))
    → (k : ℕ) → k < i + 1 → IsUsedBy (set uses (w / 256) (use_of w)) (get_or ws k 0)
used_more ws uses i w long inside at short root before k l = by (cases_eq (v / 256) (w / 256))
  where
    v : ℕ
    v = get_or ws k 0

    has_v : Contains ws v
    has_v = contains_at ws k (omega arith)

    has_w : Contains ws w
    has_w = subst (Contains ws) at (contains_at ws i inside)

    by : (v / 256 ≡ w / 256) ⊎ (v / 256 ≡ w / 256 → ⊥) → IsUsedBy (set uses (w / 256) (use_of w)) v
    by (inl e) = record {
      some = root.some k 0 (omega arith);
      used = ap (λ b. get_or (set uses (w / 256) (use_of w)) b Free) e
          ∙ get_or-set_same uses (w / 256) (use_of w) Free (omega arith) ∙ sym (same_use ws v w root has_v has_w e);
    }
    by (inr other) = earlier (cases_lt k i)
      where
        earlier : (k < i) ⊎ (i ≤ k) → IsUsedBy (set uses (w / 256) (use_of w)) v
        earlier (inl less) = record {
          some = (before k less).some;
          used = get_or-set_other uses (w / 256) (v / 256) (use_of w) Free other ∙ (before k less).used;
        }
        earlier (inr same) =
            let places : k ≡ i = omega arith in
            absurd (other (ap (λ j. get_or ws j 0 / 256) places ∙ ap (λ x. x / 256) at))

pub used_kept : (old new : List LeadUse) (w : ℕ) → KeepUses old new → IsUsedBy old w → IsUsedBy new w
used_kept old new w keeps used = record {
  some = used.some;
  used = keeps (w / 256) (λ free. use_taken w (sym used.used ∙ free)) ∙ used.used;
}

pub written_from_used : (uses : List LeadUse) (w : ℕ) → w < 2 ^ 16 → IsUsedBy uses w → IsWrittenBy uses w
written_from_used uses w short used = record {
  some = used.some;
  short = short;
  fits = subst (λ u. FitsUse u w) (sym used.used) (fits_own w);
}

-- a free lead byte may be used in another way
pub keep_more : (old uses : List LeadUse) (b : ℕ) (u : LeadUse) → get_or uses b Free ≡ Free → KeepUses old uses → KeepUses old (set uses b u)
keep_more old uses b u free keeps k taken = by (cases_eq k b)
  where
    by : (k ≡ b) ⊎ (k ≡ b → ⊥) → get_or (set uses b u) k Free ≡ get_or old k Free
    by (inl same) = absurd (taken (sym (keeps k taken) ∙ ap (λ j. get_or uses j Free) same ∙ free))
    by (inr other) = get_or-set_other uses b k u Free other ∙ keeps k taken

-- where a weight has no second byte, neither has one with its lead byte
alone_as : (u : LeadUse) (v w : ℕ) → FitsUse u v → FitsUse u w → v % 256 ≡ 0 → w % 256 ≡ 0
alone_as Free v w p q z = q
alone_as Alone v w p q z = q
alone_as Long v w p q z = absurd (p z)

-- weights that are written as lead bytes are used begin none of one another
pub written_apart : (uses : List LeadUse) → IsPrefixFree (weight_bytes 2) (IsWrittenBy uses)
written_apart uses v w p q other b = by (digits_begin 2 v w p.short b)
  where
    by : Begins 2 v w → ⊥
    by (inl zero) = let some = p.some in omega arith
    by (inr (lead, inl z)) =
        let w_fits : FitsUse (get_or uses (v / 256) Free) w = subst (λ x. FitsUse (get_or uses x Free) w) (sym lead) q.fits in
        let y = alone_as (get_or uses (v / 256) Free) v w p.fits w_fits z in
        other (omega arith)
    by (inr (lead, inr s)) = other (omega (arith, lead, s.0))
