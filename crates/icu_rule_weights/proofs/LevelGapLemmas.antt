-- Weights of gaps, one after another.
use Rattle.std.proofs.Common.{ℕ, ◌⊎◌, inl, inr, List, [], ◌∷◌, ◌++◌, subst}
use Rattle.std.specs.List.{All, Contains}
use Rattle.std.specs.Global.{Vec}
use Rattle.std.proofs.lemmas.List.Elements.{All-contains}
use Rattle.icu_order_levels.specs.Premises.{IsPrefixFree}
use Rattle.icu_order_levels.specs.WeightBytes.{weight_bytes}
use Rattle.icu_rule_weights.specs.declared.lead_use.LeadUse.{LeadUse}
use Rattle.icu_rule_weights.specs.declared.level_gap.LevelGap.{LevelGap}
use Rattle.icu_rule_weights.specs.LevelGaps.{FillsLevelGap, FillEach, IsOfLists}
use Rattle.icu_rule_weights.specs.inner.LeadUses.{IsWrittenBy}
use Rattle.icu_rule_weights.proofs.LeadUseLemmas.{written_apart}

pub fill_more : (greatest : ℕ) (gs : List LevelGap) (ls : List (Vec ℕ)) (g : LevelGap) (l : Vec ℕ) → FillEach greatest gs ls → FillsLevelGap greatest g l.items
    → FillEach greatest (gs ++ g ∷ []) (ls ++ l ∷ [])
fill_more greatest [] [] g l each fills = (fills, tt)
fill_more greatest [] (x ∷ ls) g l each fills = absurd each
fill_more greatest (x ∷ gs) [] g l each fills = absurd each
fill_more greatest (x ∷ gs) (y ∷ ls) g l each fills = (each.0, fill_more greatest gs ls g l each.1 fills)

-- what holds of each weight of all lists
pub of_lists : (P : ℕ → Type 0) (ls : List (Vec ℕ)) (w : ℕ) → All (λ (l : Vec ℕ). All P l.items) ls → IsOfLists ls w → P w
of_lists P ls w all (k, l, inside, is, has) =
    All-contains P l.items w (subst (λ (x : Vec ℕ). All P x.items) is (all k l inside)) has

-- the weights of the root and those of the lists, where all are written as lead bytes are used
pub lists_apart : (uses : List LeadUse) (root : List ℕ) (ls : List (Vec ℕ)) → All (IsWrittenBy uses) root
    → All (λ (l : Vec ℕ). All (IsWrittenBy uses) l.items) ls
    → IsPrefixFree (weight_bytes 2) (λ w. Contains root w ⊎ IsOfLists ls w)
lists_apart uses root ls rooted listed v w p q other b = written_apart uses v w (written v p) (written w q) other b
  where
    written : (x : ℕ) → Contains root x ⊎ IsOfLists ls x → IsWrittenBy uses x
    written x (inl has) = All-contains (IsWrittenBy uses) root x rooted has
    written x (inr has) = of_lists (IsWrittenBy uses) ls x listed has
