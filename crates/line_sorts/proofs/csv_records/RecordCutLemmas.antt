-- Records that are cut off a text one by one are those of the text.
use Rattle.std.proofs.Common.{◌≡◌, ◌≢◌, ℕ, ◌+◌, ◌-◌, ◌<◌, ◌≤◌, Bool, true, false, List, [], ◌∷◌, ◌++◌, Option, Some, None, drop, get_or, length, take, refl, sym, ap, ◌∙◌, subst, arith}
use Rattle.std.proofs.lemmas.List.{append-nil, append_assoc, take_all, take_more}
use Rattle.csv.specs.Reading.{is_bom, strip_bom}
use Rattle.line_sorts.specs.csv_records.CsvCuts.{HasRecords, behind_from, past_line_ends, record_end, record_from}
use Rattle.line_sorts.specs.csv_records.RecordPlaces.{behind_byte, ends_line}
use Rattle.line_sorts.specs.declared.csv_records.record_place.RecordPlace.{RecordPlace}
use Rattle.line_sorts.specs.declared.csv_records.record_place.RecordPlace.TheVariants.{FieldStart}

-- a text whose line ends are passed has none to pass
pub passed_once : (text : List ℕ) → past_line_ends (past_line_ends text) ≡ past_line_ends text
passed_once [] = refl
passed_once (b ∷ bs) = by (ends_line b) refl (passed_once bs) where
  by : (t : Bool) → ends_line b ≡ t → past_line_ends (past_line_ends bs) ≡ past_line_ends bs
      → past_line_ends (past_line_ends (b ∷ bs)) ≡ past_line_ends (b ∷ bs)
  by false e h = rw e (rw e refl)
  by true e h = rw e h

not_longer : (text : List ℕ) → length (past_line_ends text) ≤ length text
not_longer [] = omega arith
not_longer (b ∷ bs) = by (ends_line b) refl (not_longer bs) where
  by : (t : Bool) → ends_line b ≡ t → length (past_line_ends bs) ≤ length bs → length (past_line_ends (b ∷ bs)) ≤ length (b ∷ bs)
  by false e h = rw e (omega arith)
  by true e h = rw e (omega (arith, h))

behind_by : (d : ℕ) (bs : List ℕ) → ((p : RecordPlace) → length (behind_from d p bs) ≤ length bs)
    → (next : Option RecordPlace) → length {A = ℕ} (elim next [ None ↦ bs | Some p ↦ behind_from d p bs ]) ≤ length bs
behind_by d bs h None = omega arith
behind_by d bs h (Some p) = h p

behind_not_longer : (d : ℕ) (place : RecordPlace) (text : List ℕ) → length (behind_from d place text) ≤ length text
behind_not_longer d place [] = omega arith
behind_not_longer d place (b ∷ bs) =
    let n : length (behind_from d place (b ∷ bs)) ≤ length bs = behind_by d bs (λ p. behind_not_longer d p bs) (behind_byte d place b) in
    omega (arith, n)

shorter_from : (d : ℕ) (place : RecordPlace) (b : ℕ) (bs : List ℕ) → length (behind_from d place (b ∷ bs)) ≤ length bs
shorter_from d place b bs = behind_by d bs (λ p. behind_not_longer d p bs) (behind_byte d place b)

-- behind a record less is left
pub left_shorter : (d : ℕ) (text : List ℕ) → 0 < length text → length (past_line_ends (behind_from d FieldStart text)) < length text
left_shorter d [] h = absurd (omega (arith, h))
left_shorter d (b ∷ bs) h =
    let n = not_longer (behind_from d FieldStart (b ∷ bs)) in
    let m = shorter_from d FieldStart b bs in
    omega (arith, n, m)

-- one byte more, which ends a record and belongs to it
pub with_byte : (text : List ℕ) (i : ℕ) → i < length text → get_or text i 0 ≡ 13 → take (i + 1) text ≡ take i text ++ record_end (get_or text i 0)
with_byte text i below is = take_more text i 0 below ∙ ap (λ b. take i text ++ b ∷ []) is ∙ ap (λ b. take i text ++ record_end b) (sym is)

-- the records of a text are these, and then those of what is left
abbrev pub GoesOn : ℕ → List ℕ → List (List ℕ) → List ℕ → Type 0
GoesOn d text records left = (rest : List (List ℕ)) → HasRecords d left rest → HasRecords d text (records ++ rest)

passed_has : (d : ℕ) (text : List ℕ) (rest : List (List ℕ)) → HasRecords d (past_line_ends text) rest → HasRecords d text rest
unfolding HasRecords
passed_has d text [] h = sym (passed_once text) ∙ h
passed_has d text (r ∷ rs) h = subst (λ (t : List ℕ). (t ≢ []) × (r ≡ record_from d FieldStart t) × HasRecords d (behind_from d FieldStart t) rs) (passed_once text) h

-- no record was cut
pub none_cut : (d : ℕ) (text : List ℕ) → GoesOn d text [] (past_line_ends text)
none_cut d text = λ rest h. passed_has d text rest h

-- one more was
pub one_more_cut : (d : ℕ) (text : List ℕ) (records : List (List ℕ)) (left : List ℕ) → past_line_ends left ≡ left → 0 < length left
    → GoesOn d text records left → GoesOn d text (records ++ record_from d FieldStart left ∷ []) (past_line_ends (behind_from d FieldStart left))
unfolding HasRecords
one_more_cut d text records left passed some on = λ rest h.
    let this : HasRecords d left (record_from d FieldStart left ∷ rest) =
    subst (λ (t : List ℕ). (t ≢ []) × (record_from d FieldStart left ≡ record_from d FieldStart t) × HasRecords d (behind_from d FieldStart t) rest) (sym passed)
    (λ is. absurd (omega (arith, some, ap length is)), refl, passed_has d (behind_from d FieldStart left) rest h) in
    subst (λ rs. HasRecords d text rs) (sym (append_assoc records (record_from d FieldStart left ∷ []) rest)) (on (record_from d FieldStart left ∷ rest) this)

-- all were
pub all_cut : (d : ℕ) (text : List ℕ) (records : List (List ℕ)) (left : List ℕ) → length left ≡ 0 → GoesOn d text records left → HasRecords d text records
unfolding HasRecords
all_cut d text records [] none on = subst (λ rs. HasRecords d text rs) (append-nil records) (on [] refl)
all_cut d text records (b ∷ bs) none on = absurd (omega (arith, none))

-- ---- the byte order mark

-- a short text has none
pub short_unmarked : (text : List ℕ) → length text < 3 → text ≡ strip_bom text
unfolding strip_bom
short_unmarked [] h = refl
short_unmarked (a ∷ []) h = refl
short_unmarked (a ∷ b ∷ []) h = refl
short_unmarked (a ∷ b ∷ c ∷ rest) h = absurd (omega (arith, h))

-- one with it, without it
pub marked : (text : List ℕ) → 3 ≤ length text → is_bom (get_or text 0 0) (get_or text 1 0) (get_or text 2 0) ≡ true
    → take (length text - 3) (drop 3 text) ≡ strip_bom text
unfolding strip_bom
marked [] h is = absurd (omega (arith, h))
marked (a ∷ []) h is = absurd (omega (arith, h))
marked (a ∷ b ∷ []) h is = absurd (omega (arith, h))
marked (a ∷ b ∷ c ∷ rest) h is = rw is (take_all (length (a ∷ b ∷ c ∷ rest) - 3) rest (omega arith))

-- one that begins with other bytes
pub unmarked : (text : List ℕ) → 3 ≤ length text → is_bom (get_or text 0 0) (get_or text 1 0) (get_or text 2 0) ≡ false → text ≡ strip_bom text
unfolding strip_bom
unmarked [] h is = absurd (omega (arith, h))
unmarked (a ∷ []) h is = absurd (omega (arith, h))
unmarked (a ∷ b ∷ []) h is = absurd (omega (arith, h))
unmarked (a ∷ b ∷ c ∷ rest) h is = rw is refl
