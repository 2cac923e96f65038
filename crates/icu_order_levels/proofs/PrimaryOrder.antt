-- The primary level's bytes order as its reordered lists, numbers among them.
use Rattle.std.proofs.Common.{◌≡◌, ◌≢◌, ℕ, ◌^◌, ◌<◌, ◌≤◌, Bool, true, false, if◌then◌else◌, List, [], ◌∷◌, ◌++◌, map, refl, sym, ap, ap₂, ◌∙◌, subst, inl, inr, ◌⊎◌, append-nil, arith, lit<, ne_eqb}
use Rattle.std.proofs.lemmas.Bool.{cases_order, cases_eq, cases_Bool, cond-true, cond-false}
use Rattle.std.specs.Ordering.{is_lt, ordering_then}
use Rattle.std.specs.declared.cmp.Ordering.{Ordering}
use Rattle.std.specs.declared.cmp.Ordering.TheVariants.{Less, Equal, Greater}
use Rattle.icu_order_levels.specs.ListOrder.{list_order, IsUnder, IsBeginning}
use Rattle.icu_order_levels.specs.WeightBytes.{weight_bytes}
use Rattle.icu_order_levels.specs.Primaries.{Compression, lead, below_lead, second_byte, primary_bytes, dropped_after, primary_level}
use Rattle.icu_order_levels.specs.Premises.{MayStand, goes_on, IsPrimaryList, ArePrimaries}
use Rattle.icu_order_levels.specs.beginnings.KeyBeginnings.{begins}
use Rattle.icu_order_levels.specs.beginnings.BeginningLaws.{PrimariesAreKept}
use Rattle.icu_order_levels.proofs.Order.{same_lists_order}
use Rattle.icu_order_levels.proofs.WeightOrder.{digits_less, trimmed_less}
use Rattle.icu_order_levels.proofs.PrecedesLemmas.{begins_alike}
use Rattle.icu_order_levels.proofs.StepwiseOrder.{stepwise_bytes, StandAlong, IsRising, stepwise_order}
use Rattle.icu_order_levels.proofs.beginnings.StepwiseBeginnings.{stepwise_begins}
use Rattle.icu_order_levels.proofs.CompressionOrder.{FitsAfter, next_leads, next_rises}
use Rattle.icu_order_levels.proofs.NumberPieceLemmas.{first_pieces_apart, further_pieces_apart}

-- where the primary level stands: the lead that is dropped, if any, and whether inside a number
pub record Place : Type 0 where
  pub dropped : ℕ
  pub inside : Bool

-- weights of k bytes that are written alike are the same
pub same_weights : (k v w : ℕ) → v < 256 ^ k → w < 256 ^ k → weight_bytes k v ≡ weight_bytes k w → v ≡ w
same_weights k v w f g e = by (cases_order v w)
  where
    no : (xs ys : List ℕ) → xs ≡ ys → list_order xs ys ≡ Less → ⊥
    no xs ys h l = let m = same_lists_order xs ys h in cc

    by : (v ≡ w) ⊎ ((v < w) ⊎ (w < v)) → v ≡ w
    by (inl h) = h
    by (inr (inl l)) = absurd (no (weight_bytes k v) (weight_bytes k w) e (trimmed_less k v w (digits_less 256 k v w (lit< tt) g l)))
    by (inr (inr l)) = absurd (no (weight_bytes k w) (weight_bytes k v) (sym e) (trimmed_less k w v (digits_less 256 k w v (lit< tt) f l)))

no_less : (o : Ordering) (s : List ℕ) → is_lt (ordering_then o (list_order s [])) ≡ is_lt o
no_less Less s = refl
no_less Equal [] = refl
no_less Equal (x ∷ s) = refl
no_less Greater s = refl

module _ (c : Compression) (numeric : ℕ) (IsReachable : ℕ → Type 0) (well_formed : ArePrimaries c numeric IsReachable) where
  -- a lead is dropped only after a reachable compressible weight
  data IsDropped (d : ℕ) : Type 0 where
    none : d ≡ 0 → IsDropped d
    after : (w : ℕ) → IsReachable w → c.is_compressible (lead w) ≡ true → lead (c.reorder w) ≡ d → IsDropped d

  abbrev Stands : Place → ℕ → Type 0
  Stands p w = IsDropped p.dropped × MayStand numeric IsReachable p.inside w

  abbrev place_after : Place → ℕ → Place
  place_after p w = record { dropped = dropped_after c w; inside = goes_on numeric p.inside w }

  abbrev bytes_at : Place → ℕ → List ℕ
  bytes_at p w = primary_bytes p.dropped (c.reorder w)

  -- a weight that may stand is reachable or of a number
  data Member (inside : Bool) (w : ℕ) : Type 0 where
    alive : IsReachable w → Member inside w
    numbered : w < 256 ^ 4 → lead w ≡ numeric → Member inside w

  member : (inside : Bool) (w : ℕ) → MayStand numeric IsReachable inside w → Member inside w
  member false w (inl p) = alive p
  member false w (inr n) = numbered n.fits n.leads
  member true w n = numbered n.fits n.leads

  member_fits : (i : Bool) (w : ℕ) → Member i w → w < 256 ^ 4
  member_fits i w (alive p) = well_formed.fits w p
  member_fits i w (numbered f l) = f

  member_leads : (i : Bool) (w : ℕ) → Member i w → 2 ≤ lead (c.reorder w)
  member_leads i w (alive p) = well_formed.leads w p
  member_leads i w (numbered f l) = omega (arith, well_formed.numbers_together w f l, well_formed.numbers_high)

  member_separator : (i : Bool) (w : ℕ) → Member i w → lead (c.reorder w) ≡ 2 → c.reorder w ≡ 0x02000000
  member_separator i w (alive p) e = well_formed.separator w p e
  member_separator i w (numbered f l) e = absurd (omega (arith, well_formed.numbers_together w f l, well_formed.numbers_high))

  -- which pieces may stand
  pieces_apart : (i : Bool) (v w : ℕ) → MayStand numeric IsReachable i v → MayStand numeric IsReachable i w → lead v ≡ numeric → lead w ≡ numeric
      → IsBeginning (weight_bytes 3 (below_lead v)) (weight_bytes 3 (below_lead w)) → weight_bytes 3 (below_lead v)
      ≡ weight_bytes 3 (below_lead w)
  pieces_apart false v w (inl p) q k l b = absurd (well_formed.not_numeric v p k)
  pieces_apart false v w (inr p) (inl q) k l b = absurd (well_formed.not_numeric w q l)
  pieces_apart false v w (inr p) (inr q) k l b = first_pieces_apart _ _ p.piece q.piece b
  pieces_apart true v w p q k l b = further_pieces_apart _ _ p.piece q.piece b

  -- In one place, no weight begins another
  stands_apart : (i : Bool) (v w : ℕ) → MayStand numeric IsReachable i v → MayStand numeric IsReachable i w → c.reorder v ≢ c.reorder w
      → IsBeginning (weight_bytes 4 (c.reorder v)) (weight_bytes 4 (c.reorder w)) → ⊥
  stands_apart i v w p q n b = by (member i v p) (member i w q)
    where
      h : (lead (c.reorder v) ≡ lead (c.reorder w)) × IsBeginning (weight_bytes 3 (below_lead (c.reorder v)))
          (weight_bytes 3 (below_lead (c.reorder w)))
      h =
          begins_alike 3 (c.reorder v) (c.reorder w) (omega (arith, member_leads i v (member i v p)))
          (omega (arith, member_leads i w (member i w q))) b

      same : (x y : ℕ) → lead x ≡ lead y → below_lead x ≡ below_lead y → x ≡ y
      same x y e f = omega arith

      by : Member i v → Member i w → ⊥
      by (alive a) (alive e) = well_formed.prefix_free v w a e n b
      by (alive a) (numbered f l) = well_formed.numbers_apart v a (h.0 ∙ well_formed.numbers_together w f l)
      by (numbered f l) (alive a) = well_formed.numbers_apart w a (sym h.0 ∙ well_formed.numbers_together v f l)
      by (numbered f l) (numbered g m) =
          let kv = well_formed.lead_alone v f in
          let kw = well_formed.lead_alone w g in
          let tails = pieces_apart i v w p q l m (subst (λ z. IsBeginning (weight_bytes 3 (below_lead v)) (weight_bytes 3 z)) kw
          (subst (λ z. IsBeginning (weight_bytes 3 z) (weight_bytes 3 (below_lead (c.reorder w)))) kv h.1)) in
          let e = same_weights 3 (below_lead v) (below_lead w) (omega arith) (omega arith) tails in
          n (same (c.reorder v) (c.reorder w) h.0 (kv ∙ e ∙ sym kw))

  -- what may stand in a place, as it is after reordering
  abbrev IsNext : Place → ℕ → Type 0
  IsNext p x = (w : ℕ) × Stands p w × (c.reorder w ≡ x)

  next_fits : (p : Place) → IsDropped p.dropped → FitsAfter p.dropped (IsNext p)
  next_fits p drop = record {
    drops = drops p.dropped drop;
    fits = λ x (w, s, e). subst (λ z. z < 256 ^ 4) e (well_formed.reordered_fits w (member_fits p.inside w (member p.inside w s.1)));
    leads = λ x (w, s, e). subst (λ z. 2 ≤ lead z) e (member_leads p.inside w (member p.inside w s.1));
    separator = λ x (w, s, e). subst (λ z. lead z ≡ 2 → z ≡ 0x02000000) e (member_separator p.inside w (member p.inside w s.1));
    seconds =
        λ x (w, s, e). subst (λ z. lead z ≡ p.dropped → (4 ≤ second_byte z) × (second_byte z ≤ 0xFE)) e
        (seconds p.inside p.dropped w (member p.inside w s.1) s.0);
    prefix_free = λ x y (v, s, e) (w, t, f). subst (λ z. z ≢ y → IsBeginning (weight_bytes 4 z) (weight_bytes 4 y) → ⊥) e
        (subst (λ z. c.reorder v ≢ z → IsBeginning (weight_bytes 4 (c.reorder v)) (weight_bytes 4 z) → ⊥) f
        (stands_apart p.inside v w s.1 t.1));
  }
    where
      drops : (d : ℕ) → IsDropped d → (d ≡ 0) ⊎ (3 ≤ d)
      drops d (none z) = inl z
      drops d (after q l k e) = inr (by (cases_eq (lead (c.reorder q)) 2))
        where
          by : (lead (c.reorder q) ≡ 2) ⊎ (lead (c.reorder q) ≡ 2 → ⊥) → 3 ≤ d
          by (inl two) =
              let s = well_formed.separator q l two in let t = well_formed.lead_alone q (well_formed.fits q l) in let u = well_formed.seconds q l k in absurd
              (omega arith)
          by (inr two) = let m = well_formed.leads q l in omega arith

      seconds : (i : Bool) (d w : ℕ) → Member i w → IsDropped d → lead (c.reorder w) ≡ d → (4 ≤ second_byte (c.reorder w))
          × (second_byte (c.reorder w) ≤ 0xFE)
      seconds i d w m (none z) h = absurd (omega (arith, member_leads i w m))
      seconds i d w (alive a) (after q l k e) h =
          let s = well_formed.seconds w a (well_formed.alike w q a l (h ∙ sym e) ∙ k) in
          let t = well_formed.lead_alone w (well_formed.fits w a) in (omega arith, omega arith)
      seconds i d w (numbered f n) (after q l k e) h = absurd (well_formed.numbers_apart q l (e ∙ sym h ∙ well_formed.numbers_together w f n))

  -- ---- weights of one rank
  not_number : (i : Bool) (w : ℕ) → lead w ≢ numeric → goes_on numeric i w ≡ false
  not_number i w n = rw (ne_eqb (lead w) numeric n) refl

  number_drop : (w : ℕ) → lead w ≡ numeric → dropped_after c w ≡ 0
  number_drop w l = cond-false (c.is_compressible (lead w)) _ _ (ap c.is_compressible l ∙ well_formed.numbers_whole)

  same_place : (p : Place) (v w : ℕ) → Stands p v → Stands p w → c.reorder v ≡ c.reorder w → place_after p v ≡ place_after p w
  same_place p v w s t e = by (member p.inside v s.1) (member p.inside w t.1)
    where
      places : (d f : ℕ) (i j : Bool) → d ≡ f → i ≡ j
          → ◌≡◌ {A = Place} (record { dropped = d; inside = i }) (record { dropped = f; inside = j })
      places d f i j h k = ap₂ (λ (x : ℕ) (y : Bool). let place : Place = record { dropped = x; inside = y } in place) h k

      by : Member p.inside v → Member p.inside w → place_after p v ≡ place_after p w
      by (alive a) (alive b) = places (dropped_after c v) (dropped_after c w) (goes_on numeric p.inside v) (goes_on numeric p.inside w)
          (ap₂ (λ (x : Bool) (y : ℕ). if x then lead y else 0) (well_formed.alike v w a b (ap lead e)) e)
          (not_number p.inside v (well_formed.not_numeric v a) ∙ sym (not_number p.inside w (well_formed.not_numeric w b)))
      by (alive a) (numbered f l) = absurd (well_formed.numbers_apart v a (ap lead e ∙ well_formed.numbers_together w f l))
      by (numbered f l) (alive a) = absurd (well_formed.numbers_apart w a (ap lead (sym e) ∙ well_formed.numbers_together v f l))
      by (numbered f l) (numbered g m) =
          ap (place_after p) (one (c.reorder v) (c.reorder w) e (well_formed.lead_alone v f) (well_formed.lead_alone w g) (l ∙ sym m))
        where
          one : (x y : ℕ) → x ≡ y → below_lead x ≡ below_lead v → below_lead y ≡ below_lead w → lead v ≡ lead w → v ≡ w
          one x y h k j o = omega arith

  primaries_rise : IsRising c.reorder bytes_at place_after Stands
  primaries_rise = record {
    leads = λ p w s. next_leads p.dropped (IsNext p) (next_fits p s.0) (c.reorder w) (w, s, refl);
    rises = λ p v w s t l. next_rises p.dropped (IsNext p) (next_fits p s.0) (c.reorder v) (c.reorder w) (v, s, refl) (w, t, refl) l;
    same = λ p v w s t e. (ap (primary_bytes p.dropped) e, same_place p v w s t e);
  }

  -- ---- whole lists
  as_steps : (ws : List ℕ) (p : Place) → primary_level c p.dropped ws ≡ stepwise_bytes bytes_at place_after p ws
  as_steps [] p = refl
  as_steps (w ∷ ws) p = ap (λ l. primary_bytes p.dropped (c.reorder w) ++ l) (as_steps ws (place_after p w))

  dropped_next : (i : Bool) (w : ℕ) → Member i w → IsDropped (dropped_after c w)
  dropped_next i w (alive a) = by (cases_Bool (c.is_compressible (lead w)))
    where
      by : (c.is_compressible (lead w) ≡ true) ⊎ (c.is_compressible (lead w) ≡ false) → IsDropped (dropped_after c w)
      by (inl k) = after w a k (sym (cond-true (c.is_compressible (lead w)) _ _ k))
      by (inr k) = none (cond-false (c.is_compressible (lead w)) _ _ k)
  dropped_next i w (numbered f l) = none (number_drop w l)

  all_stand : (ws : List ℕ) (p : Place) → IsDropped p.dropped → IsPrimaryList numeric IsReachable p.inside ws
      → StandAlong place_after Stands p ws
  all_stand [] p d a = tt
  all_stand (w ∷ ws) p d a = ((d, a.0), all_stand ws (place_after p w) (dropped_next p.inside w (member p.inside w a.0)) a.1)

  abbrev start : Place
  start = record { dropped = 0; inside = false }

  -- The primary level: its bytes order as the reordered primaries, and then as what follows
  pub primary_order : (vs ws s t : List ℕ) → IsPrimaryList numeric IsReachable false vs → IsPrimaryList numeric IsReachable false ws → IsUnder 2 s
      → IsUnder 2 t
      → list_order (primary_level c 0 vs ++ s) (primary_level c 0 ws ++ t)
      ≡ ordering_then (list_order (map c.reorder vs) (map c.reorder ws)) (list_order s t)
  primary_order vs ws s t p q u v = rw (as_steps vs start, as_steps ws start)
      (stepwise_order c.reorder bytes_at place_after Stands primaries_rise vs ws start s t (all_stand vs start (none refl) p)
      (all_stand ws start (none refl) q) u v)

  -- the level of a list begins with that of another, just where the primaries do, and both order alike
  pub primaries_kept : (ps ws more : List ℕ) → IsPrimaryList numeric IsReachable false ps → IsPrimaryList numeric IsReachable false ws → IsUnder 2 more
      → PrimariesAreKept c ps ws more
  primaries_kept ps ws more p q u = record {
    begin = ap (λ bs. begins bs (primary_level c 0 ws ++ more)) (as_steps ps start)
        ∙ (ap (λ bs. begins (stepwise_bytes bytes_at place_after start ps) (bs ++ more)) (as_steps ws start)
        ∙ stepwise_begins c.reorder bytes_at place_after Stands primaries_rise ps ws start more (all_stand ps start (none refl) p)
        (all_stand ws start (none refl) q) u);
    order = ap is_lt
        (ap (list_order (primary_level c 0 ws ++ more)) (sym (append-nil (primary_level c 0 ps))) ∙ primary_order ws ps more [] q p u tt)
        ∙ no_less (list_order (map c.reorder ws) (map c.reorder ps)) more;
  }
