-- What is left of a text after steps of reading it.
use Rattle.std.proofs.Common.{◌≡◌, ℕ, ◌+◌, ◌-◌, ◌<◌, ◌≤◌, List, [], ◌∷◌, ◌++◌, Option, length, refl, sym, ap, ◌∙◌, arith, subst}
use Rattle.icu_table_entries.specs.Elements.{Element}
use Rattle.icu_element_reading.specs.TextElements.{Reading, step, consumed, last_two}
use Rattle.icu_element_reading.specs.declared.step_reader.StepReader.{StepReader}
use Rattle.icu_element_reading.specs.StepReaders.{HasLeft, TakesStep, reading_in, elements_given}
use Rattle.icu_search_places.specs.declared.place_reader.gathered_steps.GatheredSteps.{GatheredSteps}
use Rattle.icu_search_places.specs.SearchPlaces.{reaches}
use Rattle.icu_search_places.specs.place_reader.inner.StepsGathered.{StillComesTo, LeavesUnread, ReadsStep, ReadsPast, HasReadTo}
use Rattle.icu_search_places.proofs.place_reader.ReadOnLemmas.{StillComesTo-start, StillComesTo-step, skipped}

module _ {I : Type 0} (steps : I → Option ℕ → I → Type 0) (old new : GatheredSteps I) (text : List ℕ) (n count : ℕ) where
  -- a step was taken, and its elements were kept
  pub ReadsStep-taken : (h : LeavesUnread steps old text n) → TakesStep steps old.steps h.before h.rest count new.steps → reading_in new.steps ≡ reading_in old.steps
      → new.elements.items ≡ old.elements.items ++ elements_given new.steps → ReadsStep steps new text n count
  ReadsStep-taken h t same kept =
      let reading = reading_in old.steps in
      let s = step reading h.before t.char t.later in
      let after = last_two h.before (consumed t.char s) in
      let reads : StillComesTo reading text old.elements.items h.before (t.char ∷ t.later) = subst (StillComesTo reading text old.elements.items h.before) t.text_is h.reads in
      let gathered : old.elements.items ++ s.elements ≡ new.elements.items = sym (kept ∙ ap (λ (es : List Element). old.elements.items ++ es) t.elements) in
      let stepped : StillComesTo reading text (old.elements.items ++ s.elements) after s.rest = StillComesTo-step reading text old.elements.items h.before t.char t.later reads in
      let by_items : StillComesTo reading text new.elements.items after s.rest = subst (λ (es : List Element). StillComesTo reading text es after s.rest) gathered stepped in
      record {
        unread = length s.rest;
        read = record {
          before = after;
          rest = s.rest;
          left = t.left;
          reads = subst (λ (r : Reading). StillComesTo r text new.elements.items after s.rest) (sym same) by_items;
          length_is = refl;
        };
        unread_is = omega (arith, t.count_is, ap length t.text_is, h.length_is);
        skips = λ l long short.
            ap (λ (r : Reading). reaches r text l) same
            ∙ skipped reading text old.elements.items h.before t.char t.later reads l long (omega (arith, short, ap length t.text_is, h.length_is));
      }

-- ---- steps until what is owed is consumed

-- of the characters that were owed so many still are, and no more than are left
pub record StillOwes {I : Type 0} (steps : I → Option ℕ → I → Type 0) (g : GatheredSteps I) (text : List ℕ) (n owed still : ℕ) : Type 0 where
  pub unread : ℕ
  pub read : LeavesUnread steps g text unread
  pub still_is : unread + owed ≡ n + still
  pub fits : still ≤ unread

module _ {I : Type 0} (steps : I → Option ℕ → I → Type 0) (g : GatheredSteps I) (text : List ℕ) (n owed : ℕ) where
  -- before the first step
  pub owes_all : LeavesUnread steps g text n → owed ≤ n → StillOwes steps g text n owed owed
  owes_all h fits = record { unread = n; read = h; still_is = refl; fits = fits }

  -- the last step
  pub paid : (still count unread more : ℕ) → unread + owed ≡ n + still → ReadsStep steps g text unread count → more + still ≡ count + 1 → 0 < still → ReadsPast steps g text n owed more
  paid still count unread more is s enough some = record {
    unread = s.unread;
    read = s.read;
    unread_is = omega (arith, s.unread_is, is, enough);
    skips = λ l long short. s.skips l long (omega (arith, short, s.unread_is, enough, some));
  }

  -- another one
  pub owes_less : (still count unread : ℕ) → unread + owed ≡ n + still → still ≤ unread → ReadsStep steps g text unread count → count + 1 < still → StillOwes steps g text n owed (still - (count + 1))
  owes_less still count unread is fits s less = record { unread = s.unread; read = s.read; still_is = omega (arith, s.unread_is, is, less); fits = omega (arith, s.unread_is, fits, less) }

-- ---- what was asked for

-- it doesn't depend on how many were read ahead
pub unread_still : {I : Type 0} (steps : I → Option ℕ → I → Type 0) (old new : GatheredSteps I) (text : List ℕ) (n : ℕ) → new.steps ≡ old.steps → new.elements.items ≡ old.elements.items → LeavesUnread steps old text n → LeavesUnread steps new text n
unread_still {I = I} steps old new text n same kept h =
    let left = subst (λ (r : StepReader I). HasLeft steps r h.before h.rest) (sym same) h.left in
    let reads = subst (λ (r : StepReader I). StillComesTo (reading_in r) text old.elements.items h.before h.rest) (sym same) h.reads in
    record {
      before = h.before;
      rest = h.rest;
      left = left;
      reads = subst (λ (es : List Element). StillComesTo (reading_in new.steps) text es h.before h.rest) (sym kept) reads;
      length_is = h.length_is;
    }

-- nothing was read yet
pub HasReadTo-start : {I : Type 0} (steps : I → Option ℕ → I → Type 0) (g : GatheredSteps I) (text : List ℕ) → HasLeft steps g.steps [] text → g.elements.items ≡ [] → g.ahead ≡ 0 → HasReadTo steps g text (length text)
HasReadTo-start steps g text left none asked = record {
  unread = length text;
  read = record {
    before = [];
    rest = text;
    left = left;
    reads = subst (λ (es : List Element). StillComesTo (reading_in g.steps) text es [] text) (sym none) (StillComesTo-start (reading_in g.steps) text);
    length_is = refl;
  };
  ahead_is = omega (arith, asked);
  skips = λ l long short. absurd (omega (arith, long, short));
}

module _ {I : Type 0} (steps : I → Option ℕ → I → Type 0) (old new : GatheredSteps I) (text : List ℕ) (n count : ℕ) where
  -- enough was read before
  pub consumed_ahead : HasReadTo steps old text n → count ≤ old.ahead → new.steps ≡ old.steps → new.elements.items ≡ old.elements.items → new.ahead + count ≡ old.ahead → HasReadTo steps new text (n - count)
  consumed_ahead h enough same kept less = record {
    unread = h.unread;
    read = unread_still steps old new text h.unread same kept h.read;
    ahead_is = omega (arith, h.ahead_is, less);
    skips = λ l long short.
        ap (λ (r : StepReader I). reaches (reading_in r) text l) same ∙ h.skips l long (omega (arith, short));
  }

  -- more was read
  pub consumed_more : (mid : GatheredSteps I) (owed : ℕ) → (h : HasReadTo steps old text n) → owed + old.ahead ≡ count → count ≤ n → ReadsPast steps mid text h.unread owed new.ahead → new.steps ≡ mid.steps → new.elements.items ≡ mid.elements.items
      → HasReadTo steps new text (n - count)
  consumed_more mid owed h is fits p same kept = record {
    unread = p.unread;
    read = unread_still steps mid new text p.unread same kept p.read;
    ahead_is = omega (arith, p.unread_is, h.ahead_is, is);
    skips = λ l long short.
        ap (λ (r : StepReader I). reaches (reading_in r) text l) same ∙ p.skips l long (omega (arith, short, p.unread_is, h.ahead_is, is));
  }
