-- The secondary level's bytes order as its lists, forward and backward.
use Rattle.std.proofs.Common.{◌≡◌, ℕ, ◌-◌, ◌<◌, ◌≤◌, List, [], ◌∷◌, ◌++◌, length, refl, ap, ◌∙◌, arith, lit<, lit≤, append_assoc}
use Rattle.std.specs.List.{AllByRecursion}
use Rattle.std.specs.Ordering.{ordering_then}
use Rattle.icu_order_levels.specs.ListOrder.{list_order, segments_order, IsUnder}
use Rattle.icu_order_levels.specs.Runs.{AreRunBytes, IsSpelling}
use Rattle.icu_order_levels.specs.WeightBytes.{weight_bytes}
use Rattle.icu_order_levels.specs.Secondaries.{secondary_level, further_segments, backward_level}
use Rattle.icu_order_levels.specs.Premises.{AreSecondaries, forward_least, backward_least}
use Rattle.icu_order_levels.proofs.Order.{turned}
use Rattle.icu_order_levels.proofs.LevelOrder.{level_order, under_more, under_over}
use Rattle.icu_order_levels.proofs.MovedWeights.{IsMove, moved_spelling}
use Rattle.icu_order_levels.proofs.Orderings.{then_assoc}
use Rattle.icu_order_levels.specs.declared.run_bytes.TheConstants.{SECONDARY_RUNS}

pub secondary_runs_fit : AreRunBytes SECONDARY_RUNS
secondary_runs_fit = record { some = lit< tt; to_middle = refl; to_high = refl }

module _ (least : ℕ) (IsReachable : ℕ → Type 0) (some : 2 ≤ least) (few : least ≤ 5) (well_formed : AreSecondaries least IsReachable) where
  unmoved : IsMove SECONDARY_RUNS (least - 1) (λ w. w) IsReachable
  unmoved = record {
    low = λ w p l. let d = well_formed.leads w p in (omega arith, omega arith);
    high = λ w p l. let d = well_formed.leads w p in omega arith;
    fits = λ w p. well_formed.fits w p;
    leads = λ w p. let d = well_formed.leads w p in omega arith;
    moved_leads = λ w p. let d = well_formed.leads w p in omega arith;
    rest = λ w p. refl;
    rises = λ v w p q nv nw l. l;
    one_lead = λ v w p q nv nw e. e;
  }

  pub secondaries_fit : IsSpelling SECONDARY_RUNS (least - 1) (weight_bytes 2) IsReachable
  secondaries_fit = moved_spelling SECONDARY_RUNS (least - 1) (λ w. w) IsReachable (omega arith) unmoved well_formed.prefix_free

-- forward: one list, followed by nothing or by a byte below 02
pub secondary_order : (IsReachable : ℕ → Type 0) → AreSecondaries forward_least IsReachable → (vs ws s t : List ℕ) → AllByRecursion IsReachable vs
    → AllByRecursion IsReachable ws → IsUnder 2 s → IsUnder 2 t
    → list_order (secondary_level vs ++ s) (secondary_level ws ++ t) ≡ ordering_then (list_order vs ws) (list_order s t)
secondary_order IsReachable well_formed vs ws s t p q u v =
    level_order SECONDARY_RUNS secondary_runs_fit (weight_bytes 2) 1 IsReachable
    (secondaries_fit 2 IsReachable (lit≤ tt) (lit≤ tt) well_formed) vs ws s t p q u v

module _ (IsReachable : ℕ → Type 0) (well_formed : AreSecondaries backward_least IsReachable) where
  segment_order : (vs ws s t : List ℕ) → AllByRecursion IsReachable vs → AllByRecursion IsReachable ws → IsUnder 3 s → IsUnder 3 t
      → list_order (secondary_level vs ++ s) (secondary_level ws ++ t) ≡ ordering_then (list_order vs ws) (list_order s t)
  segment_order vs ws s t p q u v =
      level_order SECONDARY_RUNS secondary_runs_fit (weight_bytes 2) 2 IsReachable
      (secondaries_fit 3 IsReachable (lit≤ tt) (lit≤ tt) well_formed) vs ws s t p q u v

  -- what follows a segment begins with 02, or below
  ends : (vss : List (List ℕ)) (s : List ℕ) → IsUnder 2 s → IsUnder 3 (further_segments vss ++ s)
  ends [] s u = under_more 2 3 s (lit≤ tt) u
  ends (vs ∷ vss) s u = lit< tt

  -- further segments, as many as there are on either side
  further_order : (vss wss : List (List ℕ)) (s t : List ℕ) → AllByRecursion (AllByRecursion IsReachable) vss
      → AllByRecursion (AllByRecursion IsReachable) wss → IsUnder 2 s → IsUnder 2 t
      → list_order (further_segments vss ++ s) (further_segments wss ++ t) ≡ ordering_then (segments_order vss wss) (list_order s t)
  further_order [] [] s t p q u v = refl
  further_order [] (ws ∷ wss) s t p q u v = under_over 1 s (further_segments (ws ∷ wss) ++ t) u (lit< tt)
  further_order (vs ∷ vss) [] s t p q u v =
      turned (further_segments (vs ∷ vss) ++ s) t (under_over 1 t (further_segments (vs ∷ vss) ++ s) v (lit< tt))
  further_order (vs ∷ vss) (ws ∷ wss) s t p q u v =
      rw (append_assoc (secondary_level vs) (further_segments vss) s, append_assoc (secondary_level ws) (further_segments wss) t)
      (segment_order vs ws (further_segments vss ++ s) (further_segments wss ++ t) p.0 q.0 (ends vss s u) (ends wss t v)
      ∙ ap (ordering_then (list_order vs ws)) (further_order vss wss s t p.1 q.1 u v)
      ∙ then_assoc (list_order vs ws) (segments_order vss wss) (list_order s t))

  -- backward: a segment at least on either side
  pub backward_order : (vss wss : List (List ℕ)) (s t : List ℕ) → 0 < length vss → 0 < length wss
      → AllByRecursion (AllByRecursion IsReachable) vss → AllByRecursion (AllByRecursion IsReachable) wss → IsUnder 2 s → IsUnder 2 t
      → list_order (backward_level vss ++ s) (backward_level wss ++ t) ≡ ordering_then (segments_order vss wss) (list_order s t)
  backward_order [] wss s t l m p q u v = absurd (omega arith)
  backward_order (vs ∷ vss) [] s t l m p q u v = absurd (omega arith)
  backward_order (vs ∷ vss) (ws ∷ wss) s t l m p q u v =
      rw (append_assoc (secondary_level vs) (further_segments vss) s, append_assoc (secondary_level ws) (further_segments wss) t)
      (segment_order vs ws (further_segments vss ++ s) (further_segments wss ++ t) p.0 q.0 (ends vss s u) (ends wss t v)
      ∙ ap (ordering_then (list_order vs ws)) (further_order vss wss s t p.1 q.1 u v)
      ∙ then_assoc (list_order vs ws) (segments_order vss wss) (list_order s t))
