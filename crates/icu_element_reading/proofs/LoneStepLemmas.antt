-- Steps that give one element, and look at nothing or at what follows directly.
use Rattle.std.proofs.Common.{◌≡◌, ℕ, ◌<◌, ◌≤◌, zero, suc, Bool, true, false, ◌&&◌, ◌||◌, ◌==◌, List, [], ◌∷◌, length, drop, Option, Some, None, Result, Ok, Err, is_some, refl, sym, ap, subst, ◌∙◌, arith}
use Rattle.std.specs.Prelude.{⊤, if◌then◌else◌, nat_lt, IsTrue, IfSome, IfOk, MatchOption, slice_get}
use Rattle.std.proofs.lemmas.Bool.{and_parts, eqb-true, true≢false}
use Rattle.std.specs.List.{list_any}
use Rattle.icu_element_reading.specs.declared.decomposed_source.DecomposedSource.{DecomposedSource}
use Rattle.unicode_normalization.specs.Order.{is_starter}
use Rattle.icu_table_entries.specs.declared.entry.EntryKind.{EntryKind}
use Rattle.icu_table_entries.specs.declared.entry.EntryKind.TheVariants.{Simple, LongPrimary, LongSecondary, Implicit, Expansion32, Expansion, Prefix, Contraction, Digit, Offset}
use Rattle.icu_table_entries.specs.Elements.{Element}
use Rattle.icu_table_entries.specs.Entries.{kind_of, entry_index, low_byte, special_low_byte, simple_element, long_primary_element, simple_or_long_primary, self_contained}
use Rattle.icu_table_data.proofs.EntryLemmas.{test_inside}
use Rattle.icu_table_data.specs.Contexts.{ascend_from}
use Rattle.icu_table_data.specs.Data.{Mapping, Context, Data, HomedEntry, homed, context_of, longest_mapping}
use Rattle.icu_table_provider.specs.Tables.{entry_of, diacritic_of}
use Rattle.icu_element_matches.specs.Texts.{still_unread}
use Rattle.icu_element_matches.specs.inner.Mappings.{mapping_at}
use Rattle.icu_element_matches.specs.Matches.{Match, after_prefix, with_marks, contracted, match_of}
use Rattle.icu_element_matches.specs.MatchesAhead.{are_decided, mapping_length, lone_match}
use Rattle.icu_element_matches.specs.WellFormedEntries.{IsWellFormedFrom}
use Rattle.icu_table_data.specs.DataConditions.{is_inside, fits_offset, is_readable}
use Rattle.icu_table_data.specs.Final.{final_elements}
use Rattle.icu_table_data.specs.Reachable.{reachable_from}
use Rattle.icu_element_reading.proofs.ReadableLemmas.{readable_among, itself}
use Rattle.icu_element_matches.proofs.ReadAheadLemmas.{longest_from-decided, are_decided-longer, longest_mapping-has_chars, longest_mapping-fits, contracted_by, match_of-contraction, match_of-other}
use Rattle.icu_element_reading.specs.TextElements.{Reading, Step, entry_step, diacritic_step, matched_step, step, consumed, last_two}
use Rattle.icu_element_reading.specs.LastChars.{recent_chars}
use Rattle.icu_element_reading.specs.ReadAhead.{HasWholeStep}
use Rattle.icu_element_reading.specs.declared.reader.position.Position.{Position}
use Rattle.icu_element_reading.specs.inner.Positions.{consumed_last, unread_at, IsStep}
use Rattle.icu_element_reading.specs.inner.ReadsAhead.{ReadsTo, ReadsMore, IsBegun, HasWholeContraction}
use Rattle.icu_element_reading.specs.inner.StepsTaken.{LooksAtNothing, IsSingle, mapping_or, chosen_mapping, IsDecidedMapping, NoMarkFirst, StarterFirst, IsWholeMatch, IsDirectMatch, IsDirectStep, StepsOrLooks}
use Rattle.icu_element_reading.proofs.EnoughLemmas.{HasWholeStep-other, HasWholeStep-contraction}
use Rattle.icu_element_reading.proofs.AheadLemmas.{HasWholeStep-by_dot}
use Rattle.icu_element_reading.proofs.ReadsAheadLemmas.{ReadsTo-none, ReadsTo-weaker, ReadsTo-then}

-- ---- kinds of entries

no_prefix : (k : EntryKind) (x y : ℕ) → LooksAtNothing k → (elim k as (λ _. ℕ) [ Prefix ↦ x | _ ↦ y ]) ≡ y
no_prefix Prefix x y h = absurd h
no_prefix _ x y h = refl

no_contraction : (k : EntryKind) → LooksAtNothing k → k ≡ Contraction → ⊥
no_contraction Contraction h is = h
no_contraction _ h is = cc

no_digit : (k : EntryKind) → LooksAtNothing k → k ≡ Digit → ⊥
no_digit Digit h is = h
no_digit _ h is = cc

no_digit_step : (k : EntryKind) (x y : Step) → LooksAtNothing k → (elim k as (λ _. Step) [ Digit ↦ x | _ ↦ y ]) ≡ y
no_digit_step Digit x y h = absurd h
no_digit_step _ x y h = refl

contraction_no_prefix : (k : EntryKind) (x y : ℕ) → k ≡ Contraction → (elim k as (λ _. ℕ) [ Prefix ↦ x | _ ↦ y ]) ≡ y
contraction_no_prefix Contraction x y h = refl
contraction_no_prefix _ x y h = cc

-- ---- entries that are one element by their low byte

simple_kind : (e : ℕ) → nat_lt (low_byte e) special_low_byte ≡ true → kind_of e ≡ Simple
unfolding kind_of
simple_kind e below = rw (below) refl

long_kind : (e : ℕ) → low_byte e ≡ 0xC1 → kind_of e ≡ LongPrimary
unfolding kind_of
long_kind e is = rw (is) refl

final_simple : (k : EntryKind) (x y z v w : List Element) → k ≡ Simple → (elim k as (λ _. List Element) [ Expansion32 ↦ x | Expansion ↦ y | Offset ↦ z | Implicit ↦ v | _ ↦ w ]) ≡ w
final_simple Simple x y z v w is = refl
final_simple _ x y z v w is = cc

final_long : (k : EntryKind) (x y z v w : List Element) → k ≡ LongPrimary → (elim k as (λ _. List Element) [ Expansion32 ↦ x | Expansion ↦ y | Offset ↦ z | Implicit ↦ v | _ ↦ w ]) ≡ w
final_long LongPrimary x y z v w is = refl
final_long _ x y z v w is = cc

own_simple : (k : EntryKind) (x y z : List Element) → k ≡ Simple → (elim k as (λ _. List Element) [ Simple ↦ x | LongPrimary ↦ y | LongSecondary ↦ z | _ ↦ [] ]) ≡ x
own_simple Simple x y z is = refl
own_simple _ x y z is = cc

own_long : (k : EntryKind) (x y z : List Element) → k ≡ LongPrimary → (elim k as (λ _. List Element) [ Simple ↦ x | LongPrimary ↦ y | LongSecondary ↦ z | _ ↦ [] ]) ≡ y
own_long LongPrimary x y z is = refl
own_long _ x y z is = cc

simple_elements : (home : Data) (e c : ℕ) → kind_of e ≡ Simple → final_elements (homed home e) c ≡ simple_element e ∷ []
unfolding final_elements self_contained
simple_elements home e c is = final_simple (kind_of e) _ _ _ _ _ is ∙ own_simple (kind_of e) _ _ _ is

long_elements : (home : Data) (e c : ℕ) → kind_of e ≡ LongPrimary → final_elements (homed home e) c ≡ long_primary_element e ∷ []
unfolding final_elements self_contained
long_elements home e c is = final_long (kind_of e) _ _ _ _ _ is ∙ own_long (kind_of e) _ _ _ is

plain_of : (home : Data) (e c : ℕ) (a b : Bool) → nat_lt (low_byte e) special_low_byte ≡ a → (low_byte e == 0xC1) ≡ b
    → IfSome (if a then Some (simple_element e) else if b then Some (long_primary_element e) else None) (IsSingle (homed home e) c)
plain_of home e c true b below long =
    let is : kind_of e ≡ Simple = simple_kind e below in
    record { kind = subst LooksAtNothing (sym is) tt; elements = simple_elements home e c is }
plain_of home e c false true below long =
    let is : kind_of e ≡ LongPrimary = long_kind e (eqb-true (low_byte e) 0xC1 long) in
    record { kind = subst LooksAtNothing (sym is) tt; elements = long_elements home e c is }
plain_of home e c false false below long = tt

-- the element that an entry spells by its low byte is all that it gives
pub plain_single : (h : HomedEntry) (home : Data) (e c : ℕ) (o : Option Element) → h ≡ homed home e → o ≡ simple_or_long_primary e → IfSome o (IsSingle h c)
plain_single h home e c o of is =
    subst (λ (k : HomedEntry). IfSome o (IsSingle k c)) (sym of)
    (subst (λ (p : Option Element). IfSome p (IsSingle (homed home e) c)) (sym is) (plain_of home e c (nat_lt (low_byte e) special_low_byte) (low_byte e == 0xC1) refl refl))

-- ---- steps

-- the step of a match that came to an entry of one element
abbrev one_step_by : Element → Match → Step
one_step_by e m = record { elements = e ∷ []; suffix = m.suffix; rest = m.rest }

single_entry_step : (reading : Reading) (home : Data) (c : ℕ) (m : Match) (e : Element) → IsSingle (homed home m.entry) c e → entry_step reading home c m ≡ one_step_by e m
unfolding entry_step
single_entry_step reading home c m e single =
    let with_elements : List Element → Step = λ es. record { elements = es; suffix = m.suffix; rest = m.rest } in
    no_digit_step (kind_of m.entry) _ _ single.kind ∙ ap with_elements single.elements

abbrev step_by : Reading → List ℕ → ℕ → Option ℕ → List ℕ → Step
step_by reading before c o text =
    elim o as (λ _. Step) [
      | Some secondary ↦ diacritic_step reading secondary c text
      | None ↦ entry_step reading (entry_of reading.tables c).home c (match_of (entry_of reading.tables c) before text)
    ]

module _ (reading : Reading) (before : List ℕ) (c : ℕ) (text : List ℕ) (none : diacritic_of reading.tables c ≡ None) (e : Element) where
  abbrev own : HomedEntry
  own = entry_of reading.tables c

  step_by_entry : step reading before c text ≡ entry_step reading own.home c (match_of own before text)
  unfolding matched_step
  step_by_entry = ap (λ o. step_by reading before c o text) none

  -- an entry that looks at nothing
  module _ (single : IsSingle own c e) where
    same_entry : after_prefix own before ≡ own.entry
    unfolding after_prefix
    same_entry = no_prefix (kind_of own.entry) _ own.entry single.kind

    no_context : kind_of (after_prefix own before) ≡ Contraction → ⊥
    no_context is = no_contraction (kind_of own.entry) single.kind (sym (ap kind_of same_entry) ∙ is)

    pub single_step : step reading before c text ≡ record { elements = e ∷ []; suffix = []; rest = text }
    single_step =
        step_by_entry
        ∙ ap (entry_step reading own.home c) (match_of-other own before text no_context ∙ ap (λ n. lone_match n text) same_entry)
        ∙ single_entry_step reading own.home c (lone_match own.entry text) e single

    pub single_whole : HasWholeStep reading before c text
    single_whole = HasWholeStep-other reading before c text none no_context (λ on digit. absurd (no_digit (kind_of own.entry) single.kind (sym (ap kind_of same_entry) ∙ digit)))

-- ---- contractions

no_mark_joins : (mappings : List Mapping) (entry : ℕ) (suffix text : List ℕ) → NoMarkFirst text → with_marks mappings entry suffix [] text ≡ record { entry = entry; suffix = suffix; rest = text }
unfolding with_marks
no_mark_joins mappings entry suffix [] h = refl
no_mark_joins mappings entry suffix (m ∷ ms) h = rw h refl

abbrev direct : Mapping → List ℕ → Match
direct m text = record { entry = m.entry; suffix = m.chars; rest = drop (length m.chars) text }

contracted_at : (context : Context) (text : List ℕ) (o : Option Mapping) → longest_mapping context.mappings text ≡ o → NoMarkFirst (drop (length (mapping_or context o).chars) text)
    → contracted context text ≡ direct (mapping_or context o) text
contracted_at context text (Some m) is unmarked = contracted_by context text (Some m) is ∙ no_mark_joins context.mappings m.entry m.chars (drop (length m.chars) text) unmarked
contracted_at context text None is unmarked = contracted_by context text None is ∙ no_mark_joins context.mappings context.default [] text unmarked

length_or : (context : Context) (o : Option Mapping) → mapping_length o ≡ length (mapping_or context o).chars
length_or context (Some m) = refl
length_or context None = refl

module _ (reading : Reading) (before : List ℕ) (c : ℕ) (text : List ℕ) (none : diacritic_of reading.tables c ≡ None) (e : Element) (context : Context) (m : Mapping) where
  abbrev begun : HomedEntry
  begun = entry_of reading.tables c

  module _ (is : kind_of begun.entry ≡ Contraction) (found : context ≡ context_of begun) (single : IsSingle (homed begun.home m.entry) c e) (longest : m ≡ mapping_or context (longest_mapping context.mappings text)) where
    begins : after_prefix begun before ≡ begun.entry
    unfolding after_prefix
    begins = contraction_no_prefix (kind_of begun.entry) _ begun.entry is

    still_begins : kind_of (after_prefix begun before) ≡ Contraction
    still_begins = ap kind_of begins ∙ is

    same_context : context_of (homed begun.home (after_prefix begun before)) ≡ context
    same_context = ap (λ n. context_of (homed begun.home n)) begins ∙ sym found

    pub direct_step : NoMarkFirst (drop (length m.chars) text) → step reading before c text ≡ record { elements = e ∷ []; suffix = m.chars; rest = drop (length m.chars) text }
    direct_step unmarked =
        let matched : match_of begun before text ≡ direct m text =
        match_of-contraction begun before text still_begins
        ∙ ap (λ (x : Context). contracted x text) same_context
        ∙ contracted_at context text (longest_mapping context.mappings text) refl (subst (λ (n : Mapping). NoMarkFirst (drop (length n.chars) text)) longest unmarked)
        ∙ ap (λ (n : Mapping). direct n text) (sym longest) in
        step_by_entry reading before c text none e
        ∙ ap (entry_step reading begun.home c) matched
        ∙ single_entry_step reading begun.home c (direct m text) e single

    default_is : (o : Option Mapping) → o ≡ None → (mapping_or context o).entry ≡ context.default
    default_is (Some x) h = cc
    default_is None h = refl

    pub direct_whole : ascend_from [] context.mappings ≡ true → IsWholeMatch context m text → HasWholeStep reading before c text
    direct_whole ascend whole =
        let count : mapping_length (longest_mapping context.mappings text) ≡ length m.chars = length_or context (longest_mapping context.mappings text) ∙ ap (λ (n : Mapping). length n.chars) (sym longest) in
        let read : HasWholeContraction reading context text = record {
          decided = whole.decided;
          behind = subst (λ n. list_any is_starter (drop n text) ≡ true) (sym count) whole.behind;
          run = λ nothing on digit.
              let entry : m.entry ≡ context.default = ap (λ (n : Mapping). n.entry) longest ∙ default_is (longest_mapping context.mappings text) nothing in
              absurd (no_digit (kind_of m.entry) single.kind (ap kind_of entry ∙ digit));
        } in
        HasWholeStep-contraction reading before c text none still_begins
        (subst (λ (x : Context). ascend_from [] x.mappings ≡ true) (sym same_context) ascend)
        (subst (λ (x : Context). HasWholeContraction reading x text) (sym same_context) read)

-- ---- what a call did

-- a step that gives one element, by what it consumed and left
pub IsStep-one : (s : Step) (c : ℕ) (before : List ℕ) (e : Element) (p : Position) (suffix rest : List ℕ) → s ≡ record { elements = e ∷ []; suffix = suffix; rest = rest }
    → consumed_last p ≡ last_two before (c ∷ suffix) → unread_at p ≡ rest → IsStep s c before [] (e ∷ []) p
IsStep-one s c before e p suffix rest is recent left =
    let one : Step = record { elements = e ∷ []; suffix = suffix; rest = rest } in
    subst (λ (t : Step). IsStep t c before [] (e ∷ []) p) (sym is) (record { elements = refl; recent = recent; rest = left })

same_char : (x y : ℕ) → Some x ≡ Some y → x ≡ y
same_char x y h = cc

-- a text without marks at its beginning
pub no_mark-at : (text : List ℕ) (n : ℕ) → slice_get text n ≡ None → NoMarkFirst (drop n text)
no_mark-at [] zero h = tt
no_mark-at [] (suc n) h = tt
no_mark-at (x ∷ text) zero h = cc
no_mark-at (x ∷ text) (suc n) h = no_mark-at text n h

pub starter-at : (text : List ℕ) (n d : ℕ) → slice_get text n ≡ Some d → is_starter d ≡ true → NoMarkFirst (drop n text)
starter-at [] n d h is = cc
starter-at (x ∷ text) zero d h is = subst (λ y. is_starter y ≡ true) (sym (same_char x d h)) is
starter-at (x ∷ text) (suc n) d h is = starter-at text n d h is

-- a text that begins with a starter has one
pub starter_head : (text : List ℕ) (d : ℕ) → slice_get text 0 ≡ Some d → is_starter d ≡ true → StarterFirst text
starter_head [] d h is = cc
starter_head (x ∷ text) d h is = subst (λ y. is_starter y ≡ true) (sym (same_char x d h)) is

some_starter : (text : List ℕ) → StarterFirst text → list_any is_starter text ≡ true
some_starter [] is = absurd is
some_starter (x ∷ text) is = ap (λ (b : Bool). b || list_any is_starter text) is

no_mark_before : (text : List ℕ) → StarterFirst text → NoMarkFirst text
no_mark_before [] is = tt
no_mark_before (x ∷ text) is = is

-- ---- an entry that was looked up

at_context : (k : EntryKind) (a b d f g h : Bool) → k ≡ Contraction → IsTrue (elim k as (λ _. Bool) [ Expansion32 ↦ a | Expansion ↦ b | Prefix ↦ d | Contraction ↦ f | Digit ↦ g | Offset ↦ h | _ ↦ true ]) → IsTrue f
at_context Contraction a b d f g h is t = t
at_context _ a b d f g h is t = cc

module _ (home : Data) (c e : ℕ) (well_formed : IsWellFormedFrom home c e) where
  readable : IsTrue (is_readable home c e)
  readable = readable_among home c e (reachable_from home e) well_formed (itself home e)

  pub found_inside : IsTrue (is_inside home e)
  unfolding is_readable
  found_inside = (and_parts _ _ (and_parts _ _ readable).0).0

  pub context_inside : kind_of e ≡ Contraction → entry_index e < length home.contexts
  unfolding is_inside
  context_inside is = test_inside _ _ (at_context (kind_of e) _ _ _ _ _ _ is found_inside)

  pub found_fits : IsTrue (fits_offset home c e)
  unfolding is_readable
  found_fits = (and_parts _ _ readable).1

-- ---- no text

not_begun_empty : (text : List ℕ) → text ≡ [] → IsBegun text → ⊥
not_begun_empty [] none some = omega (arith, some)
not_begun_empty (x ∷ text) none some = cc

no_chars : (xs : List ℕ) → length xs ≤ 0 → xs ≡ []
no_chars [] h = refl
no_chars (x ∷ xs) h = absurd (omega (arith, h))

-- no mapping begins it, since none is empty
nothing_begins : (mappings : List Mapping) → ascend_from [] mappings ≡ true → longest_mapping mappings [] ≡ None
nothing_begins mappings ascend = at_found (longest_mapping mappings []) refl
  where
    at_found : (o : Option Mapping) → longest_mapping mappings [] ≡ o → o ≡ None
    at_found None is = refl
    at_found (Some m) is = absurd (longest_mapping-has_chars mappings [] m ascend is (no_chars m.chars (longest_mapping-fits mappings [] m is)))

-- ---- steps that were taken, or none

module _ {I : Type 0} (steps : I → Option ℕ → I → Type 0) (reading : Reading) (c : ℕ) (s : DecomposedSource I) (at p : Position) where
  same_text : p.text ≡ at.text → ReadsMore steps s (unread_at at) s (unread_at p)
  same_text same = subst (λ (l : List ℕ). ReadsMore steps s (unread_at at) s l) (sym (ap still_unread same)) (ReadsTo-none steps (λ _. ⊤) s (unread_at at) tt)

  diacritic_step_is : (secondary : ℕ) → diacritic_of reading.tables c ≡ Some secondary → step reading (consumed_last at) c (unread_at at) ≡ diacritic_step reading secondary c (unread_at at)
  unfolding matched_step
  diacritic_step_is secondary is = ap (λ o. step_by reading (consumed_last at) c o (unread_at at)) is

  -- at a diacritic
  pub diacritic_steps : (secondary : ℕ) (o : Option Element) → diacritic_of reading.tables c ≡ Some secondary → p.text ≡ at.text
      → IfSome o (λ e. IsStep (diacritic_step reading secondary c (unread_at at)) c (consumed_last at) [] (e ∷ []) p)
      → IfSome o (λ e. (reading.lithuanian && c == 0x307) ≡ false)
      → (o ≡ None → consumed_last p ≡ consumed_last at)
      → StepsOrLooks steps reading c s at s p o
  diacritic_steps secondary (Some e) is same taken sounds before = record {
    text = unread_at at;
    ahead =
        ReadsTo-none steps (HasWholeStep reading (consumed_last at) c) s (unread_at at)
        (HasWholeStep-by_dot reading (consumed_last at) c (unread_at at) (ap is_some is) (λ dot. absurd (true≢false (sym dot ∙ sounds))));
    taken = subst (λ (t : Step). IsStep t c (consumed_last at) [] (e ∷ []) p) (sym (diacritic_step_is secondary is)) taken;
  }
  diacritic_steps secondary None is same taken sounds before = record { ahead = same_text same; before = before refl }

  -- at an entry that looks at nothing
  pub single_steps : (e : Element) → diacritic_of reading.tables c ≡ None → IsSingle (entry_of reading.tables c) c e → p.text ≡ at.text → consumed_last p ≡ last_two (consumed_last at) (c ∷ [])
      → StepsOrLooks steps reading c s at s p (Some e)
  single_steps e none single same recent = record {
    text = unread_at at;
    ahead =
        ReadsTo-none steps (HasWholeStep reading (consumed_last at) c) s (unread_at at)
        (single_whole reading (consumed_last at) c (unread_at at) none e single);
    taken =
        IsStep-one (step reading (consumed_last at) c (unread_at at)) c (consumed_last at) e p [] (unread_at at)
        (single_step reading (consumed_last at) c (unread_at at) none e single) recent (ap still_unread same);
  }

  -- none was taken
  pub none_taken : p.text ≡ at.text → consumed_last p ≡ consumed_last at → StepsOrLooks steps reading c s at s p None
  none_taken same before = record { ahead = same_text same; before = before }

module _ {I : Type 0} (steps : I → Option ℕ → I → Type 0) (reading : Reading) (c : ℕ) (old new : DecomposedSource I) (at p : Position) where
  -- more was read, and none was taken
  pub looked : ReadsMore steps old (unread_at at) new (unread_at p) → p.recent ≡ at.recent → StepsOrLooks steps reading c old at new p None
  looked more same = record { ahead = more; before = ap recent_chars same }

  -- at a contraction
  pub direct_steps : (e : Element) (context : Context) → diacritic_of reading.tables c ≡ None → kind_of (entry_of reading.tables c).entry ≡ Contraction → context ≡ context_of (entry_of reading.tables c)
      → ascend_from [] context.mappings ≡ true → IsDirectStep steps context c old (unread_at at) (consumed_last at) new (unread_at p) (consumed_last p) e
      → StepsOrLooks steps reading c old at new p (Some e)
  direct_steps e context none is found ascend d =
      let m = chosen_mapping context d.at in
      let single : IsSingle (homed (entry_of reading.tables c).home m.entry) c e = d.single (entry_of reading.tables c).home in
      let longest : m ≡ mapping_or context (longest_mapping context.mappings d.longer) = ap (mapping_or context) (sym d.found.longest) in
      record {
        text = d.longer;
        ahead =
            ReadsTo-weaker steps (HasWholeStep reading (consumed_last at) c) (IsWholeMatch context m) old new (unread_at at) d.longer
            (λ whole. direct_whole reading (consumed_last at) c d.longer none e context m is found single longest ascend whole) d.found.ahead;
        taken =
            IsStep-one (step reading (consumed_last at) c d.longer) c (consumed_last at) e p m.chars (drop (length m.chars) d.longer)
            (direct_step reading (consumed_last at) c d.longer none e context m is found single longest d.found.unmarked) d.consumed d.rest_is;
      }

  -- at a contraction, or where more was read
  pub direct_or_looked : (context : Context) → diacritic_of reading.tables c ≡ None → kind_of (entry_of reading.tables c).entry ≡ Contraction → context ≡ context_of (entry_of reading.tables c)
      → ascend_from [] context.mappings ≡ true → (found : Option Element)
      → MatchOption found (ReadsMore steps old (unread_at at) new (unread_at p)) (IsDirectStep steps context c old (unread_at at) (consumed_last at) new (unread_at p) (consumed_last p))
      → (found ≡ None → p.recent ≡ at.recent)
      → StepsOrLooks steps reading c old at new p found
  direct_or_looked context none is of ascend (Some e) d same = direct_steps e context none is of ascend d
  direct_or_looked context none is of ascend None more same = looked more (same refl)

-- what holds of what a call gives holds where something that implies it does
pub if_ok : {T E : Type 0} (r : Result T E) (P Q R : T → Type 0) → ((x : T) → P x → Q x → R x) → IfOk r P → IfOk r Q → IfOk r R
if_ok (Ok x) P Q R f p q = f x p q
if_ok (Err e) P Q R f p q = tt

-- ---- a match that no mark joins

module _ {I : Type 0} (steps : I → Option ℕ → I → Type 0) (context : Context) (old mid new : DecomposedSource I) (text middle longer : List ℕ) where
  -- no text was left
  pub direct_at_end : ascend_from [] context.mappings ≡ true → ReadsTo steps IsBegun old text mid middle → middle ≡ [] → IsDirectMatch steps context old text mid middle None
  direct_at_end ascend begun none = record {
    ahead = ReadsTo-weaker steps (IsWholeMatch context (mapping_or context None)) IsBegun old mid text middle (λ some. absurd (not_begun_empty middle none some)) begun;
    longest = ap (longest_mapping context.mappings) none ∙ nothing_begins context.mappings ascend;
    unmarked = subst NoMarkFirst (sym none) tt;
  }

  -- the text begins with a starter, and none of the mappings begins it
  pub direct_apart : ReadsTo steps IsBegun old text mid middle → StarterFirst middle → IsDecidedMapping context middle None
      → IsDirectMatch steps context old text mid middle None
  direct_apart begun starter found = record {
    ahead =
        ReadsTo-weaker steps (IsWholeMatch context (mapping_or context None)) IsBegun old mid text middle
        (λ _. record { decided = found.decided; behind = some_starter middle starter }) begun;
    longest = found.longest;
    unmarked = no_mark_before middle starter;
  }

  -- a starter was read on to, or no text is left behind it
  pub direct_behind : (at : Option ℕ) (n : ℕ) → n ≡ length (chosen_mapping context at).chars → ReadsTo steps IsBegun old text mid middle → IsDecidedMapping context middle at
      → ReadsTo steps (λ l. list_any is_starter (drop n l) ≡ true) mid middle new longer → NoMarkFirst (drop n longer)
      → IsDirectMatch steps context old text new longer at
  direct_behind at n count begun found behind unmarked =
      let decided : List ℕ → Type 0 = λ l. are_decided context.mappings l ≡ true in
      record {
        ahead =
            ReadsTo-weaker steps (IsWholeMatch context (chosen_mapping context at)) (λ l. decided l × (list_any is_starter (drop n l) ≡ true)) old new text longer
            (λ both. record { decided = both.0; behind = subst (λ k. list_any is_starter (drop k longer) ≡ true) count both.1 })
            (ReadsTo-then steps (λ l. list_any is_starter (drop n l) ≡ true) decided old mid new text middle longer
            (λ more is. are_decided-longer context.mappings middle more is)
            (ReadsTo-weaker steps decided IsBegun old mid text middle (λ _. found.decided) begun) behind);
        longest = ap (longest_mapping context.mappings) behind.grown ∙ longest_from-decided None context.mappings middle behind.more found.decided ∙ found.longest;
        unmarked = subst (λ k. NoMarkFirst (drop k longer)) count unmarked;
      }

  -- where none was found, more was read
  pub only_read : (n : ℕ) → ReadsTo steps IsBegun old text mid middle → ReadsTo steps (λ l. list_any is_starter (drop n l) ≡ true) mid middle new longer → ReadsMore steps old text new longer
  only_read n begun behind =
      ReadsTo-weaker steps (λ _. ⊤) (λ l. ⊤ × (list_any is_starter (drop n l) ≡ true)) old new text longer (λ _. tt)
      (ReadsTo-then steps (λ l. list_any is_starter (drop n l) ≡ true) (λ _. ⊤) old mid new text middle longer (λ more is. is)
      (ReadsTo-weaker steps (λ _. ⊤) IsBegun old mid text middle (λ _. tt) begun) behind)

at_least : (n : ℕ) → 0 ≤ n
at_least n = omega arith

-- the mapping fits into the text
fits_at : (context : Context) (text : List ℕ) (o : Option Mapping) → longest_mapping context.mappings text ≡ o → length (mapping_or context o).chars ≤ length text
fits_at context text (Some m) is = longest_mapping-fits context.mappings text m is
fits_at context text None is = at_least (length text)

pub fits_inside : (context : Context) (text : List ℕ) (at : Option ℕ) → IsDecidedMapping context text at → length (chosen_mapping context at).chars ≤ length text
fits_inside context text at found = fits_at context text (mapping_at context.mappings at) found.longest

same_element : (x y : Element) → Some x ≡ Some y → x ≡ y
same_element x y h = cc

single_of : (o : Option Element) (e : Element) (P : Element → Type 0) → o ≡ Some e → IfSome o P → P e
single_of (Some x) e P some h = subst P (same_element x e some) h
single_of None e P some h = cc

module _ {I : Type 0} (steps : I → Option ℕ → I → Type 0) (context : Context) (old new : DecomposedSource I) (text longer : List ℕ) (at : Option ℕ) (direct : IsDirectMatch steps context old text new longer at) where
  -- what it consumes was taken off
  pub taken_direct : (c : ℕ) (before rest after : List ℕ) (m : Mapping) (n : ℕ) (o : Option Element) (e : Element) → m ≡ chosen_mapping context at → n ≡ length m.chars → o ≡ Some e
      → ((home : Data) → IfSome o (IsSingle (homed home m.entry) c)) → rest ≡ drop n longer → after ≡ last_two before (c ∷ m.chars)
      → IsDirectStep steps context c old text before new rest after e
  taken_direct c before rest after m n o e is count some single left consumed = record {
    at = at;
    longer = longer;
    found = direct;
    single = λ home.
        subst (λ (k : Mapping). IsSingle (homed home k.entry) c e) is (single_of o e (IsSingle (homed home m.entry) c) some (single home));
    rest_is = left ∙ ap (λ k. drop k longer) (count ∙ ap (λ (k : Mapping). length k.chars) is);
    consumed = consumed ∙ ap (λ (k : Mapping). last_two before (c ∷ k.chars)) is;
  }

  -- nothing was taken off
  pub read_for_direct : ReadsMore steps old text new longer
  read_for_direct = ReadsTo-weaker steps (λ _. ⊤) (IsWholeMatch context (chosen_mapping context at)) old new text longer (λ _. tt) direct.ahead
