-- Marks of the lead bytes that weights come to.
use Rattle.std.proofs.Common.{◌≡◌, ◌↔◌, ℕ, ◌<◌, Bool, true, false, List, [], refl, sym, subst, ◌∙◌, inl, inr, arith, replicate, get_or, IsTrue}
use Rattle.std.specs.Prelude.{◌==◌, not, All, Contains}
use Rattle.std.specs.List.{list_any, Any}
use Rattle.std.proofs.lemmas.Bool.{and_parts, and_from, cases_Bool}
use Rattle.std.proofs.lemmas.Bool.Decides.{nat_tests}
use Rattle.std.proofs.lemmas.Grind.{common_steps}
use Rattle.std.proofs.lemmas.List.Folds.{Any-from_list_any, list_any-from_Any}
use Rattle.icu_table_provider.specs.Reorderings.{Reordering}
use Rattle.icu_table_provider.specs.SpecialPrimaries.{SpecialPrimaries}
use Rattle.icu_table_provider.specs.well_formed.Leads.{reordered_lead}
use Rattle.icu_table_weights.specs.Alike.{compresses, CompressAlike, CompressApart, compressed_at, other_at, mark_of, Marks, HaveCommonMark, HaveNoCommonMark}

pub unmarked : (n l : ℕ) → get_or (replicate n false) l false ≡ false
unmarked n l = grind (arith, common_steps)

-- a table without a mark is that of no weights
pub no_marks : (comes : ℕ → ℕ → Bool) → Marks comes [] (replicate 256 false)
no_marks comes = λ l small. unmarked 256 l

-- a weight of the list that passes the test, as the test finds it
any_of : (p : ℕ → Bool) (ps : List ℕ) (x : ℕ) → Contains ps x → p x ≡ true → list_any p ps ≡ true
any_of p ps x has passes = list_any-from_Any p ps (has.0, x, has.1, has.2, passes)

-- two weights that share a lead mark it in both tables, if one compresses and the other doesn't
no_mark_in_both : (ps : List ℕ) (special : SpecialPrimaries) (r : Reordering) (one other : List Bool) (v w : ℕ)
    → Marks (compressed_at special r) ps one → Marks (other_at special r) ps other → HaveNoCommonMark one other
    → Contains ps v → Contains ps w → reordered_lead r v ≡ reordered_lead r w → reordered_lead r v < 256
    → compresses special v ≡ true → compresses special w ≡ false → true ≡ false
no_mark_in_both ps special r one other v w marks others none has_v has_w together small yes_v no_w =
    let l : ℕ = reordered_lead r v in
    let comes_v : compressed_at special r l v ≡ true = grind (arith, nat_tests) in
    let comes_w : other_at special r l w ≡ true = grind (arith, nat_tests) in
    let in_one : mark_of one l ≡ true = marks l small ∙ any_of (compressed_at special r l) ps v has_v comes_v in
    let in_other : mark_of other l ≡ true = others l small ∙ any_of (other_at special r l) ps w has_w comes_w in
    sym (and_from (mark_of one l) (mark_of other l) in_one in_other) ∙ none l small

-- each weight of the list comes to a lead byte
pub bytes_from : (r : Reordering) (ps : List ℕ) → All (λ p. reordered_lead r p < 256) ps → (p : ℕ) → Contains ps p → reordered_lead r p < 256
bytes_from r ps all p has = subst (λ w. reordered_lead r w < 256) has.2 (all has.0 p has.1)

-- no mark in both tables: the weights compress alike
pub alike_from : (ps : List ℕ) (special : SpecialPrimaries) (r : Reordering) (one other : List Bool)
    → Marks (compressed_at special r) ps one → Marks (other_at special r) ps other → HaveNoCommonMark one other
    → ((p : ℕ) → Contains ps p → reordered_lead r p < 256) → CompressAlike ps special r
alike_from ps special r one other marks others none bytes = λ v w has_v has_w together.
    elim (cases_Bool (compresses special v)) [
      | inl yes_v ↦ elim (cases_Bool (compresses special w)) [
        | inl yes_w ↦ yes_v ∙ sym yes_w
        | inr no_w ↦
            let e = no_mark_in_both ps special r one other v w marks others none has_v has_w together (bytes v has_v) yes_v no_w in
            cc
      ]
      | inr no_v ↦ elim (cases_Bool (compresses special w)) [
        | inl yes_w ↦
            let e = no_mark_in_both ps special r one other w v marks others none has_w has_v (sym together) (bytes w has_w) yes_w no_v in
            cc
        | inr no_w ↦ no_v ∙ sym no_w
      ]
    ]

-- a mark in both tables names two weights that don't
pub apart_from : (ps : List ℕ) (special : SpecialPrimaries) (r : Reordering) (one other : List Bool)
    → Marks (compressed_at special r) ps one → Marks (other_at special r) ps other → HaveCommonMark one other → CompressApart ps special r
apart_from ps special r one other marks others common =
    let l : ℕ = common.place in
    let v : Any (λ p. compressed_at special r l p ≡ true) ps = Any-from_list_any (compressed_at special r l) ps (sym (marks l common.inside) ∙ common.in_one) in
    let w : Any (λ p. other_at special r l p ≡ true) ps = Any-from_list_any (other_at special r l) ps (sym (others l common.inside) ∙ common.in_other) in
    let parts_v = and_parts (reordered_lead r v.1 == l) (compresses special v.1) v.4 in
    let parts_w = and_parts (reordered_lead r w.1 == l) (not (compresses special w.1)) w.4 in
    record {
      compressed = v.1;
      other = w.1;
      has_compressed = (v.0, v.2, v.3);
      has_other = (w.0, w.2, w.3);
      together = grind (arith, nat_tests, parts_v.0, parts_w.0);
      is_compressed = parts_v.1;
      is_other = grind (arith, nat_tests, parts_w.1);
    }

-- and refutes the condition
pub not_alike : (ps : List ℕ) (special : SpecialPrimaries) (r : Reordering) → CompressApart ps special r → CompressAlike ps special r → ⊥
not_alike ps special r apart alike =
    let same = alike apart.compressed apart.other apart.has_compressed apart.has_other apart.together in
    let c = apart.is_compressed in
    let o = apart.is_other in
    cc

-- so whether a place has both marks decides the condition
pub decided : (ps : List ℕ) (special : SpecialPrimaries) (r : Reordering) (one other : List Bool)
    → Marks (compressed_at special r) ps one → Marks (other_at special r) ps other → All (λ p. reordered_lead r p < 256) ps
    → (met : Bool) → (met ≡ true → HaveCommonMark one other) → (met ≡ false → HaveNoCommonMark one other) → IsTrue (not met) ↔ CompressAlike ps special r
decided ps special r one other marks others bytes true common none =
    let apart = apart_from ps special r one other marks others (common refl) in
    (λ (passes : false ≡ true). absurd (cc), λ alike. absurd (not_alike ps special r apart alike))
decided ps special r one other marks others bytes false common none =
    let alike = alike_from ps special r one other marks others (none refl) (bytes_from r ps bytes) in
    (λ passes. alike, λ given. refl)
