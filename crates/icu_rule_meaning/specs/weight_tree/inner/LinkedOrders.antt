-- Weights that are linked, each to the one before it and the one behind it.
use Rattle.std.specs.Prelude.{ℕ, zero, suc, ◌≡◌, ◌<◌, ◌^◌, Bool, true, false, ◌||◌, if◌then◌else◌, List, [], ◌∷◌, length, Option, Some, None, is_some}
use Rattle.std.specs.BTreeMap.{is_at}
use Rattle.std.specs.Map.{lookup}
use Rattle.std.specs.declared.cmp.Ordering.{Ordering}
use Rattle.icu_rule_meaning.specs.declared.symbolic.SymbolicWeight.{SymbolicWeight}
use Rattle.icu_rule_meaning.specs.declared.symbolic.SymbolicWeight.TheVariants as weights
use Rattle.icu_rule_meaning.specs.declared.weight_tree.stop.Stop.{Stop}
use Rattle.icu_rule_meaning.specs.declared.weight_tree.stop.Stop.TheVariants.{End, Rooted, Tailored}
use Rattle.icu_rule_meaning.specs.contracts.weight_tree.stop.StopOrd.TheImpl as stop_ord
use Rattle.icu_rule_meaning.specs.declared.weight_tree.links.Links.{Links}
use Rattle.icu_rule_meaning.specs.weight_tree.inner.LinkStops.{stop_at, is_stop, stands}
use Rattle.icu_rule_meaning.specs.weight_tree.inner.SiblingPlaces.{number_in}

-- the order of places in a map
abbrev pub stop_order : Stop → Stop → Ordering
stop_order = (stop_ord.ghosts).cmp

-- the links of places, in their order
abbrev pub LinkList : Type 0
LinkList = List (Stop × Links)

-- the links of a place
abbrev pub links_at : LinkList → Stop → Option Links
links_at links s = lookup (is_at (stop_order s)) links

-- the place that links lead on to, or else the end
abbrev pub next_or_end : Option Links → Stop
next_or_end None = End
next_or_end (Some l) = l.next

-- the place that links lead back to, or else the end
abbrev pub prev_or_end : Option Links → Stop
prev_or_end None = End
prev_or_end (Some l) = l.prev

-- the place behind another; the end where that one isn't linked
abbrev pub next_in : LinkList → Stop → Stop
next_in links s = next_or_end (links_at links s)

-- the place before another; the end where that one isn't linked
abbrev pub prev_in : LinkList → Stop → Stop
prev_in links s = prev_or_end (links_at links s)

-- a place is linked
abbrev pub is_linked : LinkList → Stop → Bool
is_linked links s = is_some (links_at links s)

-- the weights from a place on, so many at most
abbrev pub walk : ℕ → (Stop → Stop) → Stop → List SymbolicWeight
walk zero next s = []
walk (suc n) next End = []
walk (suc n) next (Rooted w) = weights.Rooted w ∷ walk n next (next (Rooted w))
walk (suc n) next (Tailored k) = weights.Tailored k ∷ walk n next (next (Tailored k))

-- the weights in their order
abbrev pub linked_weights : LinkList → List SymbolicWeight
linked_weights links = walk (length links) (next_in links) (next_in links End)

-- each of the weights is linked to the one before it and the one behind it, from behind a place to the end
abbrev pub AreLinked : (Stop → Stop) → (Stop → Stop) → Stop → List SymbolicWeight → Type 0
AreLinked next prev s [] = (next s ≡ End) × (prev End ≡ s)
AreLinked next prev s (v ∷ siblings) =
    (next s ≡ stop_at v) × (prev (stop_at v) ≡ s) × AreLinked next prev (stop_at v) siblings

-- no weight stands twice
abbrev pub StandOnce : List SymbolicWeight → Type 0
StandOnce [] = Unit {0}
StandOnce (v ∷ siblings) = (stands (stop_at v) siblings ≡ false) × StandOnce siblings

-- the weights of the root ascend
abbrev pub RootedAscend : List SymbolicWeight → Type 0
RootedAscend [] = Unit {0}
RootedAscend (weights.Tailored k ∷ siblings) = RootedAscend siblings
RootedAscend (weights.Rooted v ∷ siblings) =
    ((u : ℕ) → stands (Rooted u) siblings ≡ true → v < u) × RootedAscend siblings

-- links are those of an order
pub record IsChain (links : LinkList) : Type 0 where
  pub linked : AreLinked (next_in links) (prev_in links) End (linked_weights links)
  pub apart : StandOnce (linked_weights links)
  pub ascends : RootedAscend (linked_weights links)
  pub known : (s : Stop) → is_linked links s ≡ stands s (linked_weights links)
  pub small : (w : SymbolicWeight) → stands (stop_at w) (linked_weights links) ≡ true → number_in w < 2 ^ 32
  pub len : length (linked_weights links) < length links

-- links are others but for the place behind this one, which is that one
pub record SetsNext (before after : LinkList) (s other : Stop) : Type 0 where
  pub next : (q : Stop) → next_in after q ≡ (if is_stop s q then other else next_in before q)
  pub prev : (q : Stop) → prev_in after q ≡ prev_in before q
  pub stands : (q : Stop) → is_linked after q ≡ is_linked before q
  pub len : length after ≡ length before

-- links are others but for the place before this one, which is that one
pub record SetsPrev (before after : LinkList) (s other : Stop) : Type 0 where
  pub next : (q : Stop) → next_in after q ≡ next_in before q
  pub prev : (q : Stop) → prev_in after q ≡ (if is_stop s q then other else prev_in before q)
  pub stands : (q : Stop) → is_linked after q ≡ is_linked before q
  pub len : length after ≡ length before

-- a new place is linked between p and s
pub record LinksBetween (before after : LinkList) (p new s : Stop) : Type 0 where
  pub next : (q : Stop) → next_in after q ≡ (if is_stop p q then new else (if is_stop new q then s else next_in before q))
  pub prev : (q : Stop) → prev_in after q ≡ (if is_stop s q then new else (if is_stop new q then p else prev_in before q))
  pub stands : (q : Stop) → is_linked after q ≡ (is_stop q new || is_linked before q)
  pub len : length after ≡ suc (length before)
