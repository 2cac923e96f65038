-- The matches of canonically equivalent texts correspond.
use Rattle.std.proofs.Common.{◌≡◌, ℕ, ◌+◌, ◌-◌, ◌<◌, ◌≤◌, Bool, true, ◌||◌, ◌==◌, List, [], ◌∷◌, ◌++◌, length, take, drop, zero, suc, refl, sym, ap, ◌∙◌, inl, inr, subst, arith, length-append}
use Rattle.std.proofs.lemmas.Bool.{cases_eq, and_parts, and_from, or_cases, or_left, or_right, eq-eqb, eqb-true}
use Rattle.std.proofs.lemmas.List.{drop-drop, drop_at, drop_all, take_all, take_at, take-append-drop, length-drop}
use Rattle.ucd_normal.specs.declared.forms.Form.TheVariants.{Nfd}
use Rattle.unicode_normalization.specs.Decompose.{decompose}
use Rattle.unicode_normalization.specs.Order.{canonical_order}
use Rattle.unicode_normalization.specs.Forms.{decomposed, normalize, nfd}
use Rattle.unicode_normalization.proofs.OrderLemmas.{length-canonical_order}
use Rattle.icu_element_reading.specs.TextElements.{Reading}
use Rattle.icu_element_reading.proofs.boundaries.NfdLemmas.{rest_after, nfd-begins, nfd-parted}
use Rattle.icu_order_texts.specs.text_laws.OrderLaws.{AreEquivalent}
use Rattle.icu_order_levels.specs.Keys.{levels_order}
use Rattle.icu_order_texts.specs.weighting.Collations.{Collation}
use Rattle.icu_order_texts.specs.weighting.Forms.{compression_of, form_by}
use Rattle.icu_order_texts.specs.TextOrder.{reading_by, text_order, lists_by}
use Rattle.icu_search_places.specs.LeastMatches.{Span, span}
use Rattle.icu_search_places.specs.SearchPlaces.{leads, first_leads, reaches, is_place_before, is_place}
use Rattle.icu_search_places.specs.Searches.{Search}
use Rattle.icu_search_places.specs.SearchLaws.{part, IsMatch}
use Rattle.icu_search_places.specs.EquivalentTextLaws.{Corresponds, AllowAlike}
use Rattle.icu_search_places.proofs.SearchPartLemmas.{leads_at}
use Rattle.icu_search_places.proofs.DecompositionTails.{decomposes}
use Rattle.icu_search_places.proofs.LeaderSplits.{split_order, split_chars, flat}

nfd_by : (text : List ℕ) → nfd text ≡ canonical_order (flat text)
unfolding normalize decomposed
nfd_by text = refl

-- ---- an offset of a text is told by what follows it, decomposed

length-nfd : (text : List ℕ) → length (nfd text) ≡ length (flat text)
length-nfd text = ap length (nfd_by text) ∙ length-canonical_order (flat text)

longer : (c : ℕ) (text : List ℕ) → length (nfd text) < length (nfd (c ∷ text))
longer c text =
    let d = decomposes c in
    omega (arith, length-nfd text, length-nfd (c ∷ text), length-append (decompose Nfd c) (flat text), ap length d.is)

no_longer : (text : List ℕ) (k : ℕ) → length (nfd (drop k text)) ≤ length (nfd text)
no_longer text zero = omega arith
no_longer [] (suc k) = omega arith
no_longer (c ∷ cs) (suc k) = omega (arith, no_longer cs k, longer c cs)

shorter : (text : List ℕ) (k : ℕ) → 0 < k → k ≤ length text → length (nfd (drop k text)) < length (nfd text)
shorter text zero some fits = absurd (omega (arith, some))
shorter [] (suc k) some fits = absurd (omega (arith, fits))
shorter (c ∷ cs) (suc k) some fits = omega (arith, no_longer cs k, longer c cs)

not_before : (text : List ℕ) (k l : ℕ) → k < l → l ≤ length text → AreEquivalent (drop k text) (drop l text) → ⊥
not_before text k l below fits same =
    let on : k + (l - k) ≡ l = omega (arith, below) in
    let whole : drop (l - k) (drop k text) ≡ drop l text = drop-drop (l - k) k text ∙ ap (λ n. drop n text) on in
    let less = shorter (drop k text) (l - k) (omega (arith, below)) (omega (arith, length-drop k text, fits, below)) in
    omega (arith, less, ap (λ (t : List ℕ). length (nfd t)) whole, ap length same)

one_offset : (text : List ℕ) (k l : ℕ) → k ≤ length text → l ≤ length text → AreEquivalent (drop k text) (drop l text) → k ≡ l
one_offset text k l fits fit same =
    elim (cases_eq k l) [
      | inl is ↦ is
      | inr other ↦
          let not_less : k < l → ⊥ = λ less. not_before text k l less fit same in
          let not_more : l < k → ⊥ = λ less. not_before text l k less fits (sym same) in
          absurd (between k l other not_less not_more)
    ]
  where
    between : (a b : ℕ) → (a ≡ b → ⊥) → (a < b → ⊥) → (b < a → ⊥) → ⊥
    between a b other not_less not_more = omega (arith, other, not_less, not_more)

-- ---- a place of one text and the same one of the other

pub record SamePlace (reading : Reading) (text : List ℕ) (k : ℕ) (other : List ℕ) : Type 0 where
  pub offset : ℕ
  pub within : offset ≤ length other
  pub place : is_place reading other offset ≡ true
  pub before : AreEquivalent (take k text) (take offset other)
  pub behind : AreEquivalent (drop k text) (drop offset other)

module _ (reading : Reading) (text other : List ℕ) (same : AreEquivalent text other) where
  at_start : SamePlace reading text 0 other
  at_start = record { offset = 0; within = omega arith; place = refl; before = refl; behind = same }

  at_end : (k : ℕ) → k ≡ length text → SamePlace reading text k other
  at_end k is = record {
    offset = length other;
    within = omega arith;
    place = or_left (length other == 0 || length other == length other) _ (or_right (length other == 0) _ (eq-eqb (length other) (length other) refl));
    before = ap nfd (take_all k text (omega (arith, is))) ∙ same ∙ sym (ap nfd (take_all (length other) other (omega arith)));
    behind = ap nfd (drop_all k text (omega (arith, is))) ∙ sym (ap nfd (drop_all (length other) other (omega arith)));
  }

  between_by : (front : List ℕ) (c : ℕ) (cs : List ℕ) → text ≡ front ++ c ∷ cs → is_place_before reading text (c ∷ cs) ≡ true
      → (k : ℕ) → take k text ≡ front → drop k text ≡ c ∷ cs → SamePlace reading text k other
  between_by front c cs parted h k front_is back_is =
      let parts = and_parts (first_leads (decompose Nfd c)) _ h in
      let l = leads_at (decompose Nfd c) parts.0 in
      let leading : leads l.first ≡ true = ap first_leads (sym l.is) ∙ parts.0 in
      let more = rest_after c l.first l.more cs l.is l.starter in
      let back : nfd (c ∷ cs) ≡ l.first ∷ more = nfd-begins c l.first l.more cs l.is l.starter in
      let whole : canonical_order (flat other) ≡ nfd front ++ l.first ∷ more =
      sym (nfd_by other) ∙ sym same ∙ ap nfd parted ∙ nfd-parted c l.first l.more cs l.is l.starter front in
      let o = split_order (flat other) (nfd front) l.first more l.starter whole in
      let s = split_chars other o.before l.first o.after leading o.text_is in
      let n = length s.before in
      let rest : drop n other ≡ s.char ∷ s.after = ap (drop n) s.text_is ∙ drop_at s.before (s.char ∷ s.after) n refl in
      let start : take n other ≡ s.before = ap (take n) s.text_is ∙ take_at s.before (s.char ∷ s.after) n refl in
      let other_back : nfd (s.char ∷ s.after) ≡ l.first ∷ more =
      nfd-begins s.char l.first s.more s.after s.decomposes l.starter
      ∙ ap (λ (t : List ℕ). l.first ∷ t) (ap canonical_order s.back_is ∙ o.back_is) in
      let front_same : nfd front ≡ nfd s.before = sym (nfd_by s.before ∙ ap canonical_order s.front_is ∙ o.front_is) in
      let there : is_place_before reading other (s.char ∷ s.after) ≡ true =
      and_from (first_leads (decompose Nfd s.char)) _ (ap first_leads s.decomposes ∙ leading)
      (ap (λ (t : List ℕ). reaches reading t (nfd (s.char ∷ s.after))) (sym same)
      ∙ ap (reaches reading (nfd text)) (other_back ∙ sym back) ∙ parts.1) in
      record {
        offset = n;
        within = omega (arith, ap length s.text_is, length-append s.before (s.char ∷ s.after));
        place = or_right (n == 0 || n == length other) _ (ap (is_place_before reading other) rest ∙ there);
        before = ap nfd front_is ∙ front_same ∙ ap nfd (sym start);
        behind = ap nfd back_is ∙ back ∙ sym other_back ∙ ap nfd (sym rest);
      }

  between : (k : ℕ) (left : List ℕ) → drop k text ≡ left → is_place_before reading text left ≡ true → SamePlace reading text k other
  between k [] is h = cc
  between k (c ∷ cs) is h =
      between_by (take k text) c cs (sym (take-append-drop k text) ∙ ap (λ (t : List ℕ). take k text ++ t) is) h k refl is

  pub same_place : (k : ℕ) → is_place reading text k ≡ true → SamePlace reading text k other
  same_place k h =
      elim (or_cases (k == 0 || k == length text) _ h) [
        | inl edge ↦ elim (or_cases (k == 0) (k == length text) edge) [
          | inl first ↦ subst (λ n. SamePlace reading text n other) (sym (eqb-true k 0 first)) at_start
          | inr last ↦ at_end k (eqb-true k (length text) last)
        ]
        | inr inner ↦ between k (drop k text) refl inner
      ]

-- ---- matches

order_of_same : (c : Collation) (t u p : List ℕ) → AreEquivalent t u → text_order c t p ≡ text_order c u p
unfolding text_order
order_of_same c t u p same = ap (λ (d : List ℕ). levels_order (compression_of c.tables) (form_by c) (lists_by c d) (lists_by c (nfd p))) same

pub equivalent_texts_correspond : (s : Search) (other_allowed : ℕ → Bool) (text other_text : List ℕ) → AreEquivalent text other_text
    → AllowAlike s.allowed text other_allowed other_text → (m : Span) → IsMatch s text m → Corresponds (record s { allowed = other_allowed }) text m other_text
equivalent_texts_correspond s other_allowed text other_text same alike m is =
    let c = s.collation in
    let reading = reading_by c in
    let first = same_place reading text other_text same m.start is.start_place in
    let last = same_place reading (drop m.start text) (drop first.offset other_text) first.behind (m.stop - m.start) is.stop_place in
    let f = first.offset in
    let e = f + last.offset in
    let n = span f e in
    let size : e - f ≡ last.offset = omega arith in
    let back : m.start + (m.stop - m.start) ≡ m.stop = omega (arith, is.ordered) in
    let start_fits : m.start ≤ length text = omega (arith, is.ordered, is.within) in
    let within : e ≤ length other_text = omega (arith, last.within, first.within, length-drop f other_text) in
    let one : AreEquivalent (part text m) (part other_text n) = last.before ∙ ap (λ k. nfd (take k (drop f other_text))) (sym size) in
    let behind : AreEquivalent (drop m.stop text) (drop e other_text) =
    ap (λ k. nfd (drop k text)) (sym back) ∙ ap nfd (sym (drop-drop (m.stop - m.start) m.start text)) ∙ last.behind ∙ ap nfd (drop-drop last.offset f other_text) in
    record {
      other = n;
      is_match = record {
        ordered = omega arith;
        within = within;
        allowed_start = sym (alike m.start f start_fits first.within first.behind) ∙ is.allowed_start;
        allowed_stop = sym (alike m.stop e is.within within behind) ∙ is.allowed_stop;
        start_place = first.place;
        stop_place = ap (is_place reading (drop f other_text)) size ∙ last.place;
        equal = order_of_same c (part other_text n) (part text m) s.pattern (sym one) ∙ is.equal;
      };
      one_part = record { before = first.before; same = one; from_start = first.behind; behind = behind };
      only = λ third fits fit there.
          let starts : third.start ≡ f = one_offset other_text third.start f fits first.within (sym there.from_start ∙ first.behind) in
          let stops : third.stop ≡ e = one_offset other_text third.stop e fit within (sym there.behind ∙ behind) in
          λ i. record { start = starts i; stop = stops i };
    }
