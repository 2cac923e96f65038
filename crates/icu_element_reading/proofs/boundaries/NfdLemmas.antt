-- What a text's decomposition begins with.
use Rattle.std.proofs.Common.{◌≡◌, ℕ, ◌≤◌, true, false, not, ◌&&◌, ◌||◌, nat_le, List, [], ◌∷◌, ◌++◌, flat_map, refl, sym, ap, ◌∙◌, arith, inl, inr}
use Rattle.std.specs.List.{list_all}
use Rattle.std.proofs.lemmas.Bool.{cases_Bool, and_parts, eqb-true, not-true, eq-eqb, true≢false, leb-true}
use Rattle.std.proofs.lemmas.Grind.{flat_map-append}
use Rattle.ucd_normal.specs.CanonicalCombiningClass.{canonical_combining_class as class_of}
use Rattle.ucd_normal.specs.declared.forms.Form.TheVariants.{Nfd}
use Rattle.unicode_normalization.specs.Decompose.{decompose}
use Rattle.unicode_normalization.specs.Order.{is_starter, is_reorderable, sink, canonical_order}
use Rattle.unicode_normalization.specs.Forms.{decomposed, normalize, nfd}
use Rattle.unicode_normalization.proofs.OrderLemmas.{canonical_order-nil, canonical_order-cons, canonical_order-at_starter, sink-starter, sink-nil, sink-stays, not_reorderable_starter, not_reorderable_rising, is_reorderable-false}
use Rattle.icu_element_reading.specs.boundaries.Alone.{stays_before, stays_first, run_ascends, all_stay, rises_from}

pub low : (s : ℕ) → is_starter s ≡ true → class_of s ≤ 0
low s h = let e : class_of s ≡ 0 = eqb-true (class_of s) 0 h in omega (arith, e)

-- starters in front stay where they are
canonical_order-starters : (ds ys : List ℕ) → list_all is_starter ds ≡ true → canonical_order (ds ++ ys) ≡ ds ++ canonical_order ys
canonical_order-starters [] ys h = refl
canonical_order-starters (d ∷ ds) ys h =
    let parts = and_parts (is_starter d) _ h in
    canonical_order-cons d (ds ++ ys) ∙ sink-starter d (canonical_order (ds ++ ys)) (low d parts.0)
    ∙ ap (λ (l : List ℕ). d ∷ l) (canonical_order-starters ds ys parts.1)

-- a character that decomposes to starters, as a letter by itself and a Hangul syllable
pub nfd-starters : (c : ℕ) (ds cs : List ℕ) → decompose Nfd c ≡ ds → list_all is_starter ds ≡ true → nfd (c ∷ cs) ≡ ds ++ nfd cs
unfolding normalize decomposed
nfd-starters c ds cs split starters =
    ap (λ l. canonical_order (l ++ flat_map (decompose Nfd) cs)) split
    ∙ canonical_order-starters ds (flat_map (decompose Nfd) cs) starters

pub nfd-nil : nfd [] ≡ []
unfolding normalize decomposed
nfd-nil = canonical_order-nil

module _ (c s : ℕ) (ts : List ℕ) (cs : List ℕ) (split : decompose Nfd c ≡ s ∷ ts) (starter : is_starter s ≡ true) where
  -- what stands behind the starter
  abbrev pub rest_after : List ℕ
  rest_after = canonical_order (ts ++ flat_map (decompose Nfd) cs)

  pub nfd-begins : nfd (c ∷ cs) ≡ s ∷ rest_after
  unfolding normalize decomposed
  nfd-begins =
      ap (λ l. canonical_order (l ++ flat_map (decompose Nfd) cs)) split
      ∙ canonical_order-at_starter [] s _ (low s starter)
      ∙ ap (λ l. l ++ s ∷ rest_after) canonical_order-nil

  pub nfd-parted : (head : List ℕ) → nfd (head ++ c ∷ cs) ≡ nfd head ++ s ∷ rest_after
  unfolding normalize decomposed
  nfd-parted head =
      ap canonical_order (flat_map-append (decompose Nfd) head (c ∷ cs))
      ∙ ap (λ l. canonical_order (flat_map (decompose Nfd) head ++ (l ++ flat_map (decompose Nfd) cs))) split
      ∙ canonical_order-at_starter (flat_map (decompose Nfd) head) s _ (low s starter)

  pub nfd-append : (head : List ℕ) → nfd (head ++ c ∷ cs) ≡ nfd head ++ nfd (c ∷ cs)
  nfd-append head = nfd-parted head ∙ ap (λ l. nfd head ++ l) (sym nfd-begins)

-- ---- a mark

sink-stays_before : (m : ℕ) (ds : List ℕ) → stays_before m ds ≡ true → sink m ds ≡ m ∷ ds
unfolding stays_before
sink-stays_before m [] h = sink-nil m
sink-stays_before m (d ∷ ds) h = sink-stays m d ds (not-true _ h)

-- the head of what d sinks into is d, or the head that was there
stays_before-sink : (m d : ℕ) (ds : List ℕ) → is_reorderable m d ≡ false → stays_before m ds ≡ true → stays_before m (sink d ds) ≡ true
unfolding stays_before sink
stays_before-sink m d [] h rest = ap not h
stays_before-sink m d (e ∷ es) h rest =
    elim (cases_Bool (is_reorderable d e)) [
      | inl past ↦ rw past rest
      | inr stays ↦ rw stays (ap not h)
    ]

stays_before-order : (m : ℕ) (ds : List ℕ) → stays_first m ds ≡ true → stays_before m (canonical_order ds) ≡ true
unfolding stays_first stays_before
stays_before-order m [] h = ap (stays_before m) canonical_order-nil
stays_before-order m (d ∷ ds) h =
    ap (stays_before m) (canonical_order-cons d ds)
    ∙ elim (cases_Bool (is_starter d)) [
      | inl starter ↦
          ap (stays_before m) (sink-starter d (canonical_order ds) (low d starter)) ∙ ap not (not_reorderable_starter m d (low d starter))
      | inr mark ↦
          let both : (not (is_reorderable m d) && stays_first m ds) ≡ true = rw mark at h in
          let parts = and_parts (not (is_reorderable m d)) _ both in
          stays_before-sink m d (canonical_order ds) (not-true _ parts.0) (stays_before-order m ds parts.1)
    ]

-- a mark that decomposes to itself, where no mark of its run goes before it
pub nfd-mark : (m : ℕ) (cs : List ℕ) → decompose Nfd m ≡ m ∷ [] → stays_first m (flat_map (decompose Nfd) cs) ≡ true → nfd (m ∷ cs) ≡ m ∷ nfd cs
unfolding normalize decomposed
nfd-mark m cs split stays =
    ap (λ l. canonical_order (l ++ flat_map (decompose Nfd) cs)) split
    ∙ canonical_order-cons m (flat_map (decompose Nfd) cs)
    ∙ sink-stays_before m (canonical_order (flat_map (decompose Nfd) cs)) (stays_before-order m (flat_map (decompose Nfd) cs) stays)

-- ---- any character

stay_or_starter : (d : ℕ) (ds : List ℕ) → (is_starter d || stays_first d ds) ≡ true → sink d (canonical_order ds) ≡ d ∷ canonical_order ds
stay_or_starter d ds h =
    elim (cases_Bool (is_starter d)) [
      | inl starter ↦ sink-starter d (canonical_order ds) (low d starter)
      | inr mark ↦ let stays : stays_first d ds ≡ true = rw mark at h in sink-stays_before d (canonical_order ds) (stays_before-order d ds stays)
    ]

canonical_order-stay : (ds text : List ℕ) → all_stay ds text ≡ true → canonical_order (ds ++ text) ≡ ds ++ canonical_order text
unfolding all_stay
canonical_order-stay [] text h = refl
canonical_order-stay (d ∷ ds) text h =
    let parts = and_parts (is_starter d || stays_first d (ds ++ text)) _ h in
    canonical_order-cons d (ds ++ text) ∙ stay_or_starter d (ds ++ text) parts.0
    ∙ ap (λ (l : List ℕ). d ∷ l) (canonical_order-stay ds text parts.1)

-- a character whose decomposition stays where it is
pub nfd-stay : (c : ℕ) (ds cs : List ℕ) → decompose Nfd c ≡ ds → all_stay ds (flat_map (decompose Nfd) cs) ≡ true → nfd (c ∷ cs) ≡ ds ++ nfd cs
unfolding normalize decomposed
nfd-stay c ds cs split stay =
    ap (λ l. canonical_order (l ++ flat_map (decompose Nfd) cs)) split
    ∙ canonical_order-stay ds (flat_map (decompose Nfd) cs) stay

-- ---- what a scan of the text that follows says

pub stays_first-starter : (m c s : ℕ) (ts cs : List ℕ) → decompose Nfd c ≡ s ∷ ts → is_starter s ≡ true → stays_first m (flat_map (decompose Nfd) (c ∷ cs)) ≡ true
unfolding stays_first
stays_first-starter m c s ts cs split starter = ap (λ l. stays_first m (l ++ flat_map (decompose Nfd) cs)) split ∙ rw starter refl

pub stays_first-mark : (m c : ℕ) (cs : List ℕ) → decompose Nfd c ≡ c ∷ []
    → stays_first m (flat_map (decompose Nfd) (c ∷ cs)) ≡ (is_starter c || (not (is_reorderable m c) && stays_first m (flat_map (decompose Nfd) cs)))
unfolding stays_first
stays_first-mark m c cs split = ap (λ l. stays_first m (l ++ flat_map (decompose Nfd) cs)) split

-- in a run in order each mark need only be compared with its neighbour
no_starter : (d : ℕ) → is_starter d ≡ false → class_of d ≤ 0 → ⊥
no_starter d mark lowest = true≢false (sym (eq-eqb (class_of d) 0 (omega (arith, lowest))) ∙ mark)

rises : (m d e : ℕ) → is_starter d ≡ false → is_reorderable m d ≡ false → is_reorderable d e ≡ false → is_reorderable m e ≡ false
rises m d e mark h k =
    let rising : class_of m ≤ class_of d = elim (is_reorderable-false m d h) [
      | inl lowest ↦ absurd (no_starter d mark lowest)
      | inr up ↦ up
    ] in
    elim (is_reorderable-false d e k) [
      | inl lowest ↦ not_reorderable_starter m e lowest
      | inr up ↦ not_reorderable_rising m e (omega (arith, rising, up))
    ]

past : (m d : ℕ) (ds : List ℕ) → is_starter d ≡ false → is_reorderable m d ≡ false → stays_before d ds ≡ true → stays_before m ds ≡ true
unfolding stays_before
past m d [] mark h k = refl
past m d (e ∷ es) mark h k = ap not (rises m d e mark h (not-true _ k))

pub stays_first-ascends : (m : ℕ) (ds : List ℕ) → stays_before m ds ≡ true → run_ascends ds ≡ true → stays_first m ds ≡ true
unfolding stays_before stays_first run_ascends
stays_first-ascends m [] h run = refl
stays_first-ascends m (d ∷ ds) h run =
    elim (cases_Bool (is_starter d)) [
      | inl starter ↦ rw starter refl
      | inr mark ↦
          let both : (stays_before d ds && run_ascends ds) ≡ true = rw mark at run in
          let parts = and_parts (stays_before d ds) _ both in
          rw (mark, h) (stays_first-ascends m ds (past m d ds mark (not-true _ h) parts.0) parts.1)
    ]

-- one scan serves for m and for each mark after it
rises-stays_first : (m least : ℕ) (ds : List ℕ) → class_of m ≤ least → rises_from least ds ≡ true → stays_first m ds ≡ true
unfolding rises_from stays_first
rises-stays_first m least [] fits h = refl
rises-stays_first m least (d ∷ ds) fits h =
    elim (cases_Bool (is_starter d)) [
      | inl starter ↦ rw starter refl
      | inr mark ↦
          let both : (nat_le least (class_of d) && rises_from (class_of d) ds) ≡ true = rw mark at h in
          let parts = and_parts (nat_le least (class_of d)) _ both in
          let up : class_of m ≤ class_of d = omega (arith, fits, leb-true least (class_of d) parts.0) in
          rw (mark, not_reorderable_rising m d up) (rises-stays_first m (class_of d) ds up parts.1)
    ]

pub stays_first-rises : (m : ℕ) (ds : List ℕ) → rises_from (class_of m) ds ≡ true → stays_first m ds ≡ true
stays_first-rises m ds h = rises-stays_first m (class_of m) ds (omega arith) h
