-- Numbers of runs: those of their gaps, and that all of them ascend among siblings.
use Rattle.std.proofs.Common.{ℕ, zero, suc, ◌≡◌, ◌<◌, ◌∙◌, List, [], ◌∷◌, ◌++◌, length, get_or, ap, arith}
use Rattle.std.specs.List.{All, AllPairs}
use Rattle.std.specs.Global.{Vec}
use Rattle.std.proofs.lemmas.List.Elements.{All-nil, All-cons, All-head, All-tail, All-append, All-weaker}
use Rattle.std.proofs.lemmas.List.Kept.{AllPairs-cons}
use Rattle.icu_rule_weights.specs.declared.gap_level.GapLevel.{GapLevel}
use Rattle.icu_rule_weights.specs.declared.level_gap.LevelGap.{LevelGap}
use Rattle.icu_rule_weights.specs.declared.sibling_run.SiblingRun.{SiblingRun}
use Rattle.icu_rule_weights.specs.GapEnds.{IsBelowNext}
use Rattle.icu_rule_weights.specs.LevelGaps.{greatest_second, FillsLevelGap, FillEach}
use Rattle.icu_rule_weights.specs.NumberedRuns.{FillsRun, FillRuns, numbers_of_runs, NumbersAscend}
use Rattle.icu_rule_weights.specs.inner.RunGaps.{IsGapOfRun, AreGapsOfRuns}

pub gaps_more : (level : GapLevel) (runs : List SiblingRun) (gaps : List LevelGap) (run : SiblingRun) (gap : LevelGap)
    → AreGapsOfRuns level runs gaps → IsGapOfRun level run gap → AreGapsOfRuns level (runs ++ run ∷ []) (gaps ++ gap ∷ [])
gaps_more level [] [] run gap are is = (is, tt)
gaps_more level [] (x ∷ gaps) run gap are is = absurd are
gaps_more level (x ∷ runs) [] run gap are is = absurd are
gaps_more level (x ∷ runs) (y ∷ gaps) run gap are is = (are.0, gaps_more level runs gaps run gap are.1 is)

pub gaps_as_many : (level : GapLevel) (runs : List SiblingRun) (gaps : List LevelGap) → AreGapsOfRuns level runs gaps → length gaps ≡ length runs
gaps_as_many level [] [] are = omega arith
gaps_as_many level [] (x ∷ gaps) are = absurd are
gaps_as_many level (x ∷ runs) [] are = absurd are
gaps_as_many level (x ∷ runs) (y ∷ gaps) are = ap suc (gaps_as_many level runs gaps are.1)

fills_run : (level : GapLevel) (run : SiblingRun) (gap : LevelGap) (ws : List ℕ) → IsGapOfRun level run gap
    → FillsLevelGap (greatest_second level) gap ws → FillsRun level run ws
fills_run level run gap ws is fills = record {
  so_many = fills.so_many ∙ is.count;
  ascending = fills.ascending;
  inside = λ k d l. (is.ends (get_or ws k d)).1 (fills.above k d l, fills.below k d l);
  seconds = fills.seconds;
}

pub fill_runs : (level : GapLevel) (runs : List SiblingRun) (gaps : List LevelGap) (lists : List (Vec ℕ)) → AreGapsOfRuns level runs gaps
    → FillEach (greatest_second level) gaps lists → FillRuns level runs lists
fill_runs level [] [] [] are each = tt
fill_runs level [] [] (ws ∷ lists) are each = absurd each
fill_runs level [] (x ∷ gaps) lists are each = absurd are
fill_runs level (x ∷ runs) [] lists are each = absurd are
fill_runs level (x ∷ runs) (y ∷ gaps) [] are each = absurd each
fill_runs level (x ∷ runs) (y ∷ gaps) (ws ∷ lists) are each =
    (fills_run level x y ws.items are.0 each.0, fill_runs level runs gaps lists are.1 each.1)

-- ---- ascending

abbrev AreLess : List ℕ → Type 0
AreLess ws = AllPairs (λ v w. v < w) ws

less_head : (x : ℕ) (xs : List ℕ) → AreLess (x ∷ xs) → All (λ w. x < w) xs
less_head x xs pairs k d l = pairs zero (suc k) d (omega arith) (omega arith)

less_tail : (x : ℕ) (xs : List ℕ) → AreLess (x ∷ xs) → AreLess xs
less_tail x xs pairs i j d l m = pairs (suc i) (suc j) d (omega arith) (omega arith)

-- a number below the first one is below all
below_all : (b x : ℕ) (xs : List ℕ) → AreLess (x ∷ xs) → b < x → All (λ w. b < w) (x ∷ xs)
below_all b x xs pairs less =
    All-cons (λ w. b < w) x xs less (All-weaker (λ w. x < w) (λ w. b < w) (λ w h. omega arith) xs (less_head x xs pairs))

pairs_append : (xs ys : List ℕ) → AreLess xs → AreLess ys → All (λ x. All (λ y. x < y) ys) xs → AreLess (xs ++ ys)
pairs_append [] ys first second across = second
pairs_append (x ∷ xs) ys first second across =
    AllPairs-cons (λ v w. v < w) x (xs ++ ys)
    (All-append (λ w. x < w) xs ys (less_head x xs first) (All-head (λ v. All (λ y. v < y) ys) x xs across))
    (pairs_append xs ys (less_tail x xs first) second (All-tail (λ v. All (λ y. v < y) ys) x xs across))

above_rooted : (level : GapLevel) (run : SiblingRun) (ws : List ℕ) → FillsRun level run ws → All (λ w. run.rooted < w) ws
above_rooted level run ws fills k d l = (fills.inside k d l).above

-- one run before others
ascend_more : (level : GapLevel) (run next : SiblingRun) (ws others : List ℕ) → FillsRun level run ws → run.rooted < next.rooted
    → ((x : ℕ) → IsBelowNext run.next x → x < next.rooted) → AreLess (next.rooted ∷ others)
    → AreLess (run.rooted ∷ (ws ++ (next.rooted ∷ others)))
ascend_more level run next ws others fills less within later =
    AllPairs-cons (λ v w. v < w) run.rooted (ws ++ (next.rooted ∷ others))
    (All-append (λ w. run.rooted < w) ws (next.rooted ∷ others) (above_rooted level run ws fills)
    (below_all run.rooted next.rooted others later less))
    (pairs_append ws (next.rooted ∷ others) fills.ascending later
    (λ k d l. below_all (get_or ws k d) next.rooted others later (within (get_or ws k d) (fills.inside k d l).below)))

pub ascend : NumbersAscend
ascend level [] [] ascending fills = λ i j d l m. absurd (omega arith)
ascend level [] (ws ∷ lists) ascending fills = absurd fills
ascend level (run ∷ runs) [] ascending fills = absurd fills
ascend level (run ∷ []) (ws ∷ []) ascending fills =
    AllPairs-cons (λ v w. v < w) run.rooted (ws.items ++ [])
    (All-append (λ w. run.rooted < w) ws.items [] (above_rooted level run ws.items fills.0) (All-nil (λ w. run.rooted < w)))
    (pairs_append ws.items [] fills.0.ascending (λ i j d l m. absurd (omega arith)) (λ k d l k' d' l'. absurd (omega arith)))
ascend level (run ∷ []) (ws ∷ (vs ∷ lists)) ascending fills = absurd fills.1
ascend level (run ∷ (next ∷ runs)) (ws ∷ []) ascending fills = absurd fills.1
ascend level (run ∷ (next ∷ runs)) (ws ∷ (vs ∷ lists)) ascending fills =
    ascend_more level run next ws.items (vs.items ++ numbers_of_runs runs lists) fills.0 ascending.0 ascending.1
    (ascend level (next ∷ runs) (vs ∷ lists) ascending.2 fills.1)
