-- A text up to a place, as it is written.
use Rattle.std.proofs.Common.{◌≡◌, ℕ, true, false, ◌&&◌, List, [], ◌∷◌, ◌++◌, refl, sym, ap, ◌∙◌, subst, append_assoc}
use Rattle.std.proofs.lemmas.Bool.{and_parts, false≢true}
use Rattle.ucd_normal.specs.declared.forms.Form.TheVariants.{Nfd}
use Rattle.unicode_normalization.specs.Decompose.{decompose}
use Rattle.unicode_normalization.specs.Forms.{nfd}
use Rattle.unicode_normalization.specs.Order.{is_starter}
use Rattle.icu_table_entries.specs.Elements.{Element}
use Rattle.icu_order_levels.specs.Keys.{LevelLists}
use Rattle.icu_order_levels.specs.CommonBeginnings.{HasFront}
use Rattle.icu_element_reading.specs.TextElements.{Reading, elements_of, elements_after}
use Rattle.icu_element_reading.specs.boundaries.LeftContexts.{context_left}
use Rattle.icu_element_reading.proofs.boundaries.NfdLemmas.{rest_after, nfd-begins, nfd-parted}
use Rattle.icu_order_texts.specs.weighting.Collations.{Collation}
use Rattle.icu_order_texts.specs.weighting.Forms.{form_by, last_variable_by}
use Rattle.icu_order_texts.specs.weighting.Levels.{level_lists, primary_of, secondary_of, primaries, secondaries, cases_in, tertiaries_in, quaternaries}
use Rattle.icu_order_texts.specs.weighting.Handled.{stayed_elements}
use Rattle.icu_table_provider.specs.CollatorTables.{reorder}
use Rattle.icu_order_texts.specs.TextOrder.{reading_by, handled_elements, lists_by}
use Rattle.icu_order_texts.proofs.AppendLemmas.{weights-append, cases_in-append, tertiaries_in-append, quaternaries-append, stayed_elements-append, ends_after, handled-append}
use Rattle.icu_search_places.specs.SearchPlaces.{first_leads, reaches, is_place_before}
use Rattle.icu_search_places.proofs.RestLemmas.{comes_to, part_elements, part_places}

-- ---- what a place says

-- the characters that a decomposition which leads begins with
pub record Leads (ds : List ℕ) : Type 0 where
  pub first : ℕ
  pub more : List ℕ
  pub is : ds ≡ first ∷ more
  pub starter : is_starter first ≡ true

pub leads_at : (ds : List ℕ) → first_leads ds ≡ true → Leads ds
leads_at [] h = absurd (false≢true h)
leads_at (d ∷ ds) h = record { first = d; more = ds; is = refl; starter = (and_parts (is_starter d) _ h).0 }

-- at a place the decomposed text is that of the part before it, and then that of what follows, which begins with a
-- starter that the reading reaches
pub record PlaceAt (reading : Reading) (front back : List ℕ) : Type 0 where
  pub first : ℕ
  pub more : List ℕ
  pub starter : is_starter first ≡ true
  pub back_is : nfd back ≡ first ∷ more
  pub whole_is : nfd (front ++ back) ≡ nfd front ++ first ∷ more

pub leading_at : (reading : Reading) (front : List ℕ) (c : ℕ) (cs : List ℕ) → first_leads (decompose Nfd c) ≡ true → PlaceAt reading front (c ∷ cs)
leading_at reading front c cs h =
    let l = leads_at (decompose Nfd c) h in
    record {
      first = l.first;
      more = rest_after c l.first l.more cs l.is l.starter;
      starter = l.starter;
      back_is = nfd-begins c l.first l.more cs l.is l.starter;
      whole_is = nfd-parted c l.first l.more cs l.is l.starter front;
    }

pub place_at : (reading : Reading) (text front back : List ℕ) → is_place_before reading text back ≡ true → PlaceAt reading front back
place_at reading text front [] h = absurd (false≢true h)
place_at reading text front (c ∷ cs) h = leading_at reading front c cs (and_parts (first_leads (decompose Nfd c)) _ h).0

reaches_back : (reading : Reading) (text back : List ℕ) → is_place_before reading text back ≡ true → reaches reading (nfd text) (nfd back) ≡ true
reaches_back reading text [] h = absurd (false≢true h)
reaches_back reading text (c ∷ cs) h = (and_parts (first_leads (decompose Nfd c)) _ h).1

-- the reading of the whole comes to the starter
pub comes_there : (reading : Reading) (front back : List ℕ) → is_place_before reading (front ++ back) back ≡ true → (p : PlaceAt reading front back)
    → comes_to (nfd front ++ p.first ∷ p.more) reading [] (nfd front ++ p.first ∷ p.more) (p.first ∷ p.more) ≡ true
comes_there reading front back h p =
    subst (λ (l : List ℕ). reaches reading (nfd front ++ p.first ∷ p.more) l ≡ true) p.back_is
    (subst (λ (t : List ℕ). reaches reading t (nfd back) ≡ true) p.whole_is (reaches_back reading (front ++ back) back h))

-- ---- elements

pub read_as_in_whole : (reading : Reading) (front back : List ℕ) → is_place_before reading (front ++ back) back ≡ true
    → elements_of reading (nfd (front ++ back)) ≡ elements_of reading (nfd front) ++ elements_after reading (context_left reading [] (nfd front)) (nfd back)
read_as_in_whole reading front back h =
    let p = place_at reading (front ++ back) front back h in
    ap (elements_of reading) p.whole_is
    ∙ part_elements reading [] (nfd front) p.first p.more p.starter (comes_there reading front back h p)
    ∙ ap (λ (t : List ℕ). elements_of reading (nfd front) ++ elements_after reading (context_left reading [] (nfd front)) t) (sym p.back_is)

-- ---- level lists

-- the lists of elements one after another, by what a variable element before them does
pub lists-append : (c : Collation) (es fs : List Element) (text front_text back_text : List ℕ) → text ≡ front_text ++ back_text
    → HasFront (level_lists (reorder c.tables) (form_by c) (handled_elements c false es) front_text)
    (level_lists (reorder c.tables) (form_by c) (handled_elements c false (es ++ fs)) text)
    (level_lists (reorder c.tables) (form_by c) (handled_elements c (ends_after (last_variable_by c) false es) fs) back_text)
lists-append c es fs text front_text back_text parted =
    let form = form_by c in
    let hs = handled_elements c false es in
    let ks = handled_elements c (ends_after (last_variable_by c) false es) fs in
    let whole : handled_elements c false (es ++ fs) ≡ hs ++ ks = handled-append c.settings.alternate_handling (last_variable_by c) false es fs in
    let stay : stayed_elements (handled_elements c false (es ++ fs)) ≡ stayed_elements hs ++ stayed_elements ks = ap stayed_elements whole ∙ stayed_elements-append hs ks in
    record {
      primaries = ap primaries stay ∙ weights-append primary_of primary_of (stayed_elements hs) (stayed_elements ks);
      secondaries = ap secondaries stay ∙ weights-append secondary_of secondary_of (stayed_elements hs) (stayed_elements ks);
      cases = ap (cases_in form.secondary form.cases) stay ∙ cases_in-append form.secondary form.cases (stayed_elements hs) (stayed_elements ks);
      tertiaries = ap (tertiaries_in form.tertiary) stay ∙ tertiaries_in-append form.tertiary (stayed_elements hs) (stayed_elements ks);
      quaternaries = ap (quaternaries (reorder c.tables)) whole ∙ quaternaries-append (reorder c.tables) hs ks;
      characters = parted;
    }

pub lists_begin : (c : Collation) (front back : List ℕ) → is_place_before (reading_by c) (front ++ back) back ≡ true
    → (rest : LevelLists) × HasFront (lists_by c (nfd front)) (lists_by c (nfd (front ++ back))) rest
unfolding lists_by
lists_begin c front back h =
    let reading = reading_by c in
    let es = elements_of reading (nfd front) in
    let fs = elements_after reading (context_left reading [] (nfd front)) (nfd back) in
    let p = place_at reading (front ++ back) front back h in
    let parted : nfd (front ++ back) ≡ nfd front ++ nfd back = p.whole_is ∙ ap (λ (t : List ℕ). nfd front ++ t) (sym p.back_is) in
    let rest : LevelLists = level_lists (reorder c.tables) (form_by c) (handled_elements c (ends_after (last_variable_by c) false es) fs) (nfd back) in
    let front_lists : LevelLists = level_lists (reorder c.tables) (form_by c) (handled_elements c false es) (nfd front) in
    let has = lists-append c es fs (nfd (front ++ back)) (nfd front) (nfd back) parted in (
      rest,
      subst (λ (es : List Element). HasFront front_lists (level_lists (reorder c.tables) (form_by c) (handled_elements c false es) (nfd (front ++ back))) rest)
          (sym (read_as_in_whole reading front back h)) has,
    )

-- ---- places of the part

pub part_has_places : (reading : Reading) (front : List ℕ) (c : ℕ) (mid back : List ℕ) → is_place_before reading (front ++ (c ∷ mid ++ back)) back ≡ true
    → is_place_before reading (front ++ (c ∷ mid ++ back)) (c ∷ mid ++ back) ≡ is_place_before reading (front ++ c ∷ mid) (c ∷ mid)
part_has_places reading front c mid [] h = absurd (false≢true h)
part_has_places reading front c mid (b ∷ bs) h =
    let l = leads_at (decompose Nfd b) (and_parts (first_leads (decompose Nfd b)) _ h).0 in
    let y = l.first ∷ rest_after b l.first l.more bs l.is l.starter in
    let part = front ++ c ∷ mid in
    let whole = front ++ (c ∷ mid ++ b ∷ bs) in
    let whole_is : nfd whole ≡ nfd part ++ y = ap nfd (sym (append_assoc front (c ∷ mid) (b ∷ bs))) ∙ nfd-parted b l.first l.more bs l.is l.starter part in
    let rest_is : nfd (c ∷ mid ++ b ∷ bs) ≡ nfd (c ∷ mid) ++ y = nfd-parted b l.first l.more bs l.is l.starter (c ∷ mid) in
    let there : comes_to (nfd part ++ y) reading [] (nfd part ++ y) y ≡ true =
    subst (λ (t : List ℕ). reaches reading t y ≡ true) whole_is
    (subst (λ (t : List ℕ). reaches reading (nfd whole) t ≡ true) (nfd-begins b l.first l.more bs l.is l.starter) (reaches_back reading whole (b ∷ bs) h)) in
    ap (λ r. first_leads (decompose Nfd c) && r)
    (ap (λ (t : List ℕ). reaches reading t (nfd (c ∷ mid ++ b ∷ bs))) whole_is
    ∙ ap (λ (t : List ℕ). reaches reading (nfd part ++ y) t) rest_is
    ∙ part_places reading [] (nfd part) (nfd (c ∷ mid)) l.first (rest_after b l.first l.more bs l.is l.starter) l.starter there)
