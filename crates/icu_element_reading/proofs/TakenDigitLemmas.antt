-- What the digits that are still to be taken off a text come to.
use Rattle.std.proofs.Common.{◌≡◌, ℕ, ◌<◌, Bool, true, false, List, [], ◌∷◌, ◌++◌, length, drop, map, Some, None, refl, sym, ap, ◌∙◌, append_assoc, append-nil, arith, slice_get, if◌then◌else◌}
use Rattle.std.proofs.lemmas.List.Sums.{take_while-cons}
use Rattle.icu_table_entries.specs.declared.entry.EntryKind.{EntryKind}
use Rattle.icu_table_entries.specs.declared.entry.EntryKind.TheVariants.{Digit}
use Rattle.icu_table_entries.specs.Entries.{digit_value}
use Rattle.icu_table_provider.specs.Tables.{Tables}
use Rattle.icu_element_matches.specs.Matches.{Match}
use Rattle.icu_element_reading.specs.declared.reader.position.Position.{Position}
use Rattle.icu_element_reading.specs.TextElements.{is_digit_kind, continues_number, digit_of_char, last_two}
use Rattle.icu_element_reading.specs.inner.Positions.{consumed_last, unread_at}
use Rattle.icu_element_reading.specs.inner.TakenDigits.{run_of, IsNoDigit, IsDigitTaken, IsRunTaken, stands_alone, IsNumberTaken}
use Rattle.icu_element_reading.proofs.ReaderLemmas.{last_two-append, none_more}

-- ---- runs of digits

pub other_kind : (k : EntryKind) → (k ≡ Digit → ⊥) → is_digit_kind k ≡ false
other_kind Digit h = absurd (h refl)
other_kind _ h = refl

pub run_goes_on : (tables : Tables) (c : ℕ) (text : List ℕ) → continues_number tables c ≡ true → run_of tables (c ∷ text) ≡ c ∷ run_of tables text
run_goes_on tables c text on = take_while-cons (continues_number tables) c text ∙ rw on refl

pub run_ends : (tables : Tables) (c : ℕ) (text : List ℕ) → continues_number tables c ≡ false → run_of tables (c ∷ text) ≡ []
run_ends tables c text off = take_while-cons (continues_number tables) c text ∙ rw off refl

pub continuing : (b : Bool) (d e : ℕ) → Some e ≡ (if b then Some d else None) → (b ≡ true) × (e ≡ d)
continuing true d e h = (refl, (cc))
continuing false d e h = absurd (cc)

pub not_continuing : (b : Bool) (d : ℕ) → (if b then Some d else None) ≡ None → b ≡ false
not_continuing true d h = absurd (cc)
not_continuing false d h = refl

pub first_char : (xs : List ℕ) (c : ℕ) → slice_get xs 0 ≡ Some c → xs ≡ c ∷ drop 1 xs
first_char [] c h = absurd (cc)
first_char (x ∷ xs) c h = let same : x ≡ c = cc in ap (λ y. y ∷ xs) same

pub no_char : (xs : List ℕ) → slice_get xs 0 ≡ None → xs ≡ []
no_char [] h = refl
no_char (x ∷ xs) h = absurd (cc)

pub none_left : (tables : Tables) (p : Position) → slice_get (unread_at p) 0 ≡ None → IsNoDigit tables p p
none_left tables p h = record { run = rw (no_char (unread_at p) h) refl; unread = refl; before = refl }

pub no_digit : (tables : Tables) (p : Position) (c d : ℕ) → slice_get (unread_at p) 0 ≡ Some c → (if continues_number tables c then Some d else None) ≡ None → IsNoDigit tables p p
no_digit tables p c d first h = record {
  run = ap (run_of tables) (first_char (unread_at p) c first) ∙ run_ends tables c (drop 1 (unread_at p)) (not_continuing (continues_number tables c) d h);
  unread = refl;
  before = refl;
}

pub digit_taken : (tables : Tables) (p q : Position) (c d : ℕ) → slice_get (unread_at p) 0 ≡ Some c → Some d ≡ (if continues_number tables c then Some (digit_of_char tables c) else None) → d < 10
    → unread_at q ≡ drop 1 (unread_at p) → consumed_last q ≡ last_two (consumed_last p) (c ∷ []) → IsDigitTaken tables d p q
digit_taken tables p q c d first h decimal rest before =
    let on = continuing (continues_number tables c) (digit_of_char tables c) d h in
    record {
      char = c;
      taken = first_char (unread_at p) c first ∙ ap (λ (l : List ℕ). c ∷ l) (sym rest);
      continues = on.0;
      digit = on.1;
      decimal = decimal;
      before = before;
    }

-- a digit is one character fewer
pub fewer : (tables : Tables) (d : ℕ) (old new : Position) → IsDigitTaken tables d old new → length (unread_at new) < length (unread_at old)
fewer tables d old new t =
    let all : length (unread_at old) ≡ length (t.char ∷ unread_at new) = ap length t.taken in omega (arith, all)

-- what reading on from here comes to is what reading on from there came to
pub record ComesTo (tables : Tables) (here : Position) (ds : List ℕ) (there : Position) (es : List ℕ) : Type 0 where
  pub digits : ds ++ map (digit_of_char tables) (run_of tables (unread_at here)) ≡ es ++ map (digit_of_char tables) (run_of tables (unread_at there))
  pub rest : drop (length (run_of tables (unread_at here))) (unread_at here) ≡ drop (length (run_of tables (unread_at there))) (unread_at there)
  pub before : last_two (consumed_last here) (run_of tables (unread_at here)) ≡ last_two (consumed_last there) (run_of tables (unread_at there))

pub ComesTo-itself : (tables : Tables) (here : Position) (digits : List ℕ) → ComesTo tables here digits here digits
ComesTo-itself tables here digits = record { digits = refl; rest = refl; before = refl }

dropped : (c : ℕ) (xs ys run more : List ℕ) → ys ≡ c ∷ xs → more ≡ c ∷ run → drop (length run) xs ≡ drop (length more) ys
dropped c xs ys run more e f = rw (e, f) refl

module _ (tables : Tables) (old new there : Position) (before_run start : List ℕ) (h : ComesTo tables old before_run there start) where
  -- one digit more
  pub ComesTo-taken : (d : ℕ) → IsDigitTaken tables d old new → ComesTo tables new (before_run ++ d ∷ []) there start
  ComesTo-taken d t =
      let run : List ℕ = run_of tables (unread_at new) in
      let more : run_of tables (unread_at old) ≡ t.char ∷ run = ap (run_of tables) t.taken ∙ run_goes_on tables t.char (unread_at new) t.continues in
      record {
        digits =
            append_assoc before_run (d ∷ []) (map (digit_of_char tables) run)
            ∙ ap (λ x. before_run ++ x ∷ map (digit_of_char tables) run) t.digit
            ∙ ap (λ (l : List ℕ). before_run ++ map (digit_of_char tables) l) (sym more)
            ∙ h.digits;
        rest = dropped t.char (unread_at new) (unread_at old) run _ t.taken more ∙ h.rest;
        before =
            ap (λ (l : List ℕ). last_two l run) t.before
            ∙ last_two-append (consumed_last old) (t.char ∷ []) run
            ∙ ap (last_two (consumed_last old)) (sym more)
            ∙ h.before;
      }

  -- none is left
  pub IsRunTaken-end : IsNoDigit tables old new → IsRunTaken tables there start new before_run
  IsRunTaken-end n =
      let none : List ℕ → List ℕ = λ l. before_run ++ map (digit_of_char tables) l in
      record {
        digits = sym (append-nil before_run) ∙ ap none (sym n.run) ∙ h.digits;
        rest = n.unread ∙ ap (λ (l : List ℕ). drop (length l) (unread_at old)) (sym n.run) ∙ h.rest;
        before = n.before ∙ sym (none_more old.recent) ∙ ap (last_two (consumed_last old)) (sym n.run) ∙ h.before;
      }

-- ---- numbers

module _ (tables : Tables) (c : ℕ) (m : Match) (old new : Position) (ds : List ℕ) where
  pub taken_alone : stands_alone m ≡ true → ds ≡ digit_value m.entry ∷ [] → unread_at new ≡ m.rest → consumed_last new ≡ last_two (consumed_last old) (c ∷ m.suffix) → IsNumberTaken tables c m old new ds
  taken_alone alone is rest before = record {
    digits = rw alone is;
    rest = rw alone rest;
    before = rw alone (before ∙ ap (λ (l : List ℕ). last_two (consumed_last old) (c ∷ l)) (sym (append-nil m.suffix)));
  }

  pub taken_together : (mid : Position) → stands_alone m ≡ false → unread_at mid ≡ m.rest → consumed_last mid ≡ last_two (consumed_last old) (c ∷ m.suffix) → IsRunTaken tables mid (digit_value m.entry ∷ []) new ds
      → IsNumberTaken tables c m old new ds
  taken_together mid together rest before t =
      let run : List ℕ → List ℕ = run_of tables in
      record {
        digits = rw together (t.digits ∙ ap (λ l. digit_value m.entry ∷ map (digit_of_char tables) (run l)) rest);
        rest = rw together (t.rest ∙ ap (λ l. drop (length (run l)) l) rest);
        before =
            rw together (t.before ∙ ap (λ l. last_two (consumed_last mid) (run l)) rest ∙ ap (λ l. last_two l (run m.rest)) before
            ∙ last_two-append (consumed_last old) (c ∷ m.suffix) (run m.rest));
      }
