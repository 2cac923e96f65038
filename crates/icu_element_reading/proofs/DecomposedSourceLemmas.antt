-- What a source of decomposed characters has left once it was read.
use Rattle.std.proofs.Common.{◌≡◌, ℕ, ◌<◌, true, false, List, [], ◌∷◌, ◌++◌, flat_map, Option, Some, None, refl, sym, ap, subst, ◌∙◌, arith}
use Rattle.ucd_normal.specs.CanonicalCombiningClass.{canonical_combining_class as ccc}
use Rattle.ucd_normal.specs.declared.forms.Form.TheVariants.{Nfd}
use Rattle.ucd_normal.specs.declared.forms.QuickCheck.TheVariants.{Yes}
use Rattle.ucd_normal.specs.QuickCheck.{quick_check}
use Rattle.unicode_normalization.specs.Decompose.{decompose_canonical}
use Rattle.unicode_normalization.specs.Forms.{nfd, decomposed}
use Rattle.unicode_normalization.specs.Iter.{Spells, SourceSpells, IsFirstOf}
use Rattle.unicode_normalization.specs.Order.{is_starter, canonical_order}
use Rattle.unicode_normalization.proofs.DecomposeLemmas.{decompose-final}
use Rattle.unicode_normalization.proofs.FormsLemmas.{normalize-Nfd, is_final-Nfd, class-latin, quick_check-below}
use Rattle.unicode_normalization.proofs.IterLemmas.{Spells-next, Spells-end}
use Rattle.unicode_normalization.proofs.OrderLemmas.{canonical_order-nil, canonical_order-at_starter}
use Rattle.std.proofs.lemmas.Bool.{eqb-true, eq-eqb, not-true, not-false}
use Rattle.std.specs.Prelude.{is_some, not, IfSome, IfNone, MatchOption}
use Rattle.icu_element_reading.specs.declared.decomposed_source.DecomposedSource.{DecomposedSource}
use Rattle.icu_element_reading.specs.declared.decomposed_source.held_chars.HeldChars.{HeldChars}
use Rattle.icu_element_reading.specs.inner.HeldChars.{held_before, held_count, marks_count, PassesOn}
use Rattle.icu_element_reading.specs.inner.Iterating.{StillSpells, StillReads, ReadsNext, GivesChar}
use Rattle.icu_element_reading.proofs.HeldCharLemmas.{held_before-empty}

-- a starter stays before what comes after it
starter_first : (c : ℕ) (cs : List ℕ) → is_starter c ≡ true → canonical_order (c ∷ cs) ≡ c ∷ canonical_order cs
starter_first c cs starter =
    let class : ccc c ≡ 0 = eqb-true (ccc c) 0 starter in
    canonical_order-at_starter [] c cs (omega arith) ∙ ap (λ (l : List ℕ). l ++ c ∷ canonical_order cs) canonical_order-nil

module _ {I : Type 0} (steps : I → Option ℕ → I → Type 0) where
  -- ---- its delegate

  pub spelled_by : (s : DecomposedSource I) (cs : List ℕ) → s.is_done ≡ false → Spells steps s.iter cs → StillSpells steps s cs
  spelled_by s cs e h = subst (λ b. SourceSpells steps b s.iter cs) (sym e) h

  spells : (s : DecomposedSource I) (cs : List ℕ) → s.is_done ≡ false → StillSpells steps s cs → Spells steps s.iter cs
  spells s cs e h = subst (λ b. SourceSpells steps b s.iter cs) e h

  spelled_none : (s : DecomposedSource I) → s.is_done ≡ true → StillSpells steps s []
  spelled_none s e = subst (λ b. SourceSpells steps b s.iter []) (sym e) refl

  moved : (old new : DecomposedSource I) (cs : List ℕ) → new.iter ≡ old.iter → new.is_done ≡ old.is_done → StillSpells steps old cs → StillSpells steps new cs
  moved old new cs iter done h = subst (λ b. SourceSpells steps b new.iter cs) (sym done) (subst (λ (it : I). SourceSpells steps old.is_done it cs) (sym iter) h)

  -- it has ended
  pub ReadsNext-done : (s : DecomposedSource I) → s.is_done ≡ true → ReadsNext steps None s s
  ReadsNext-done s e = λ cs h. (subst (λ b. SourceSpells steps b s.iter cs) e h, spelled_none s e)

  -- it ends
  pub ReadsNext-none : (old new : DecomposedSource I) (t : I) → old.is_done ≡ false → steps old.iter None t → new.is_done ≡ true → ReadsNext steps None old new
  ReadsNext-none old new t before step after = λ cs h. (Spells-end steps old.iter t cs step (spells old cs before h), spelled_none new after)

  -- it gave a character
  pub ReadsNext-some : (old new : DecomposedSource I) (c : ℕ) → old.is_done ≡ false → steps old.iter (Some c) new.iter → new.is_done ≡ false → ReadsNext steps (Some c) old new
  ReadsNext-some old new c before step after = λ cs h.
      let next = Spells-next steps old.iter new.iter c cs step (spells old cs before h) in (next.0, next.1, spelled_by new next.0 after next.2)

  pub ReadsNext-read : (old new : DecomposedSource I) (found : Option ℕ) → old.is_done ≡ false → steps old.iter found new.iter → is_some found ≡ not new.is_done → ReadsNext steps found old new
  ReadsNext-read old new (Some c) before step after = ReadsNext-some old new c before step (not-true _ (sym after))
  ReadsNext-read old new None before step after = ReadsNext-none old new new.iter before step (not-false _ (sym after))

  -- ---- what it gives

  -- nothing was read yet
  pub StillReads-start : (s : DecomposedSource I) (cs : List ℕ) → s.is_done ≡ false → held_count s.held ≡ 0 → Spells steps s.iter cs → StillReads steps s (nfd cs)
  unfolding decomposed
  StillReads-start s cs running empty h =
      record { unread = cs; spelled = spelled_by s cs running h; text = normalize-Nfd cs ∙ sym (held_before-empty s.held _ empty) }

  -- nothing is held, and the delegate has no more
  pub GivesChar-none : (old new : DecomposedSource I) → ReadsNext steps None old new → held_count old.held ≡ 0 → held_count new.held ≡ 0 → GivesChar steps None old new
  GivesChar-none old new reads empty still = λ cs h.
      let none = reads h.unread h.spelled in (
        h.text ∙ ap (λ (l : List ℕ). held_before old.held (flat_map decompose_canonical l)) none.0 ∙ held_before-empty old.held [] empty ∙ canonical_order-nil,
        record { unread = []; spelled = none.1; text = sym (held_before-empty new.held [] still ∙ canonical_order-nil) },
      )

  -- nothing is held, and the delegate gave a starter that decomposes to itself
  pub GivesChar-starter : (old new : DecomposedSource I) (c : ℕ) → ReadsNext steps (Some c) old new → held_count old.held ≡ 0 → held_count new.held ≡ 0 → is_starter c ≡ true → decompose_canonical c ≡ c ∷ [] → GivesChar steps (Some c) old new
  GivesChar-starter old new c reads empty still starter itself = λ cs h.
      let next = reads h.unread h.spelled in
      let later = flat_map decompose_canonical next.0 in (
        canonical_order later,
        h.text ∙ ap (λ (l : List ℕ). held_before old.held (flat_map decompose_canonical l)) next.1 ∙ held_before-empty old.held _ empty
            ∙ ap (λ (l : List ℕ). canonical_order (l ++ later)) itself ∙ starter_first c later starter,
        record { unread = next.0; spelled = next.2; text = sym (held_before-empty new.held later still) },
      )

  -- a character of the delegate went to those that are held, and what is left is the same
  pub StillReads-pushed : (old mid new : DecomposedSource I) (c : ℕ) → ReadsNext steps (Some c) old mid → new.iter ≡ mid.iter → new.is_done ≡ mid.is_done → PassesOn old.held (decompose_canonical c) [] new.held
      → (cs : List ℕ) → StillReads steps old cs → StillReads steps new cs
  StillReads-pushed old mid new c reads iter done pushed cs h =
      let next = reads h.unread h.spelled in
      record {
        unread = next.0;
        spelled = moved mid new next.0 iter done next.2;
        text = h.text ∙ ap (λ (l : List ℕ). held_before old.held (flat_map decompose_canonical l)) next.1 ∙ pushed.at (flat_map decompose_canonical next.0);
      }

  -- one of those that are held was ready
  pub GivesChar-ready : (old new : DecomposedSource I) (found : Option ℕ) → new.iter ≡ old.iter → new.is_done ≡ old.is_done → marks_count old.held < held_count old.held
      → IfSome found (λ c. PassesOn old.held [] (c ∷ []) new.held) → IfNone found ((new.held ≡ old.held) × (held_count old.held ≡ marks_count old.held)) → GivesChar steps found old new
  GivesChar-ready old new (Some c) iter done ready some none = λ cs h. (
    held_before new.held (flat_map decompose_canonical h.unread),
    h.text ∙ some.at (flat_map decompose_canonical h.unread),
    record { unread = h.unread; spelled = moved old new h.unread iter done h.spelled; text = refl },
  )
  GivesChar-ready old new None iter done ready some none = absurd (omega arith)

  last_of : (new : DecomposedSource I) (settled : HeldChars) (found : Option ℕ) (cs : List ℕ) → StillSpells steps new [] → cs ≡ held_before settled [] → marks_count settled ≡ 0
      → IfSome found (λ c. PassesOn settled [] (c ∷ []) new.held) → IfNone found ((new.held ≡ settled) × (held_count settled ≡ marks_count settled))
      → MatchOption found ((cs ≡ []) × StillReads steps new []) (IsFirstOf (StillReads steps) cs new)
  last_of new settled (Some c) cs spelled left ready some none = (held_before new.held [], left ∙ some.at [], record { unread = []; spelled = spelled; text = refl })
  last_of new settled None cs spelled left ready some none =
      let nothing : held_before settled [] ≡ [] = held_before-empty settled [] (omega (arith, none.1)) ∙ canonical_order-nil in
      (left ∙ nothing, record { unread = []; spelled = spelled; text = sym (ap (λ (h : HeldChars). held_before h []) none.0 ∙ nothing) })

  -- the delegate had no more: those that are held were put in order, and the first of them taken, or none was there
  pub GivesChar-last : (old mid new : DecomposedSource I) (settled : HeldChars) (found : Option ℕ) → ReadsNext steps None old mid → new.iter ≡ mid.iter → new.is_done ≡ mid.is_done
      → held_before settled [] ≡ held_before old.held [] → marks_count settled ≡ 0
      → IfSome found (λ c. PassesOn settled [] (c ∷ []) new.held) → IfNone found ((new.held ≡ settled) × (held_count settled ≡ marks_count settled)) → GivesChar steps found old new
  GivesChar-last old mid new settled found reads iter done same ready some none = λ cs h.
      let ended = reads h.unread h.spelled in
      let spelled = moved mid new [] iter done ended.1 in
      let left : cs ≡ held_before settled [] = h.text ∙ ap (λ (l : List ℕ). held_before old.held (flat_map decompose_canonical l)) ended.0 ∙ sym same in
      last_of new settled found cs spelled left ready some none

-- what is given of what is left after more was read is given of what was left before
pub GivesChar-then : {I : Type 0} (steps : I → Option ℕ → I → Type 0) (old mid new : DecomposedSource I) (found : Option ℕ) → ((cs : List ℕ) → StillReads steps old cs → StillReads steps mid cs) → GivesChar steps found mid new → GivesChar steps found old new
GivesChar-then steps old mid new found same gives = λ cs h. gives cs (same cs h)

-- a character of class 0 that passes the quick check is a starter that decomposes to itself
pub decomposed_starter : (c : ℕ) → ccc c ≡ 0 → quick_check Nfd c ≡ Yes → (is_starter c ≡ true) × (decompose_canonical c ≡ c ∷ [])
decomposed_starter c class passes = (eq-eqb (ccc c) 0 class, decompose-final Nfd c (is_final-Nfd c passes))

-- so is each below U+00C0
pub latin_starter : (c : ℕ) → c < 0xC0 → (is_starter c ≡ true) × (decompose_canonical c ≡ c ∷ [])
latin_starter c low = decomposed_starter c (class-latin c (omega arith)) (quick_check-below Nfd c low)
