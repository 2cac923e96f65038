-- Bytes that determine the order of lists are the same only for the same list.
use Rattle.std.proofs.Common.{◌≡◌, ℕ, List, [], ◌∷◌, ◌++◌, refl, sym, ap, ap₂, ◌∙◌, Ordering, Less, Equal, Greater}
use Rattle.std.specs.Ordering.{ordering_then}
use Rattle.icu_order_levels.specs.ListOrder.{list_order, segments_order}
use Rattle.icu_order_levels.specs.Keys.{Determines}
use Rattle.icu_order_levels.specs.LevelLaws.{KeepOrder}
use Rattle.icu_order_levels.proofs.Order.{same_lists_order, tied_lists}
use Rattle.icu_order_levels.proofs.Orderings.{then_equal}

-- the same bytes tie
pub tie : (ps qs : List ℕ) (o : Ordering) → Determines ps qs o → ps ≡ qs → o ≡ Equal
tie ps qs o determined e =
    sym (then_equal o) ∙ (sym (determined [] [] tt tt) ∙ same_lists_order (ps ++ []) (qs ++ []) (ap (λ l. l ++ []) e))

pub keeps : (ps qs xs ys : List ℕ) → Determines ps qs (list_order xs ys) → KeepOrder ps qs xs ys
keeps ps qs xs ys determined = record { order = determined; same = λ e. tied_lists xs ys (tie ps qs (list_order xs ys) determined e) }

-- orders one after another tie only if both do
pub both_tie : (o p : Ordering) → ordering_then o p ≡ Equal → (o ≡ Equal) × (p ≡ Equal)
both_tie Less p e = cc
both_tie Equal p e = (refl, e)
both_tie Greater p e = cc

pub tied_segments : (vss wss : List (List ℕ)) → segments_order vss wss ≡ Equal → vss ≡ wss
tied_segments [] [] e = refl
tied_segments [] (ws ∷ wss) e = cc
tied_segments (vs ∷ vss) [] e = cc
tied_segments (vs ∷ vss) (ws ∷ wss) e =
    let h = both_tie (list_order vs ws) (segments_order vss wss) e in
    ap₂ (λ (x : List ℕ) (y : List (List ℕ)). x ∷ y) (tied_lists vs ws h.0) (tied_segments vss wss h.1)

pub same_segments_order : (vss wss : List (List ℕ)) → vss ≡ wss → segments_order vss wss ≡ Equal
same_segments_order vss wss e = rw e (by wss)
  where
    by : (wss : List (List ℕ)) → segments_order wss wss ≡ Equal
    by [] = refl
    by (ws ∷ wss) = rw (same_lists_order ws ws refl) (by wss)
