-- What changes of one leaf do to the entries of all.
use Rattle.std.proofs.Common.{◌≡◌, ℕ, zero, suc, ◌+◌, ◌-◌, ◌/◌, ◌<◌, ◌≤◌, List, [], ◌∷◌, ◌++◌, drop, get_or, length, take, refl, sym, ap, ◌∙◌, arith, append_assoc, add-one, length-drop, subst}
use Rattle.std.proofs.Math.ListN.{set}
use Rattle.std.proofs.lemmas.List.{take-append-drop}
use Rattle.std.specs.Global.{Vec}
use Rattle.std.specs.List.{insert}
use Rattle.icu_index_keys.proofs.LeafPlaceLemmas.{leaf_got}
use Rattle.icu_index_keys.specs.declared.name_entries.Entry.{Entry}
use Rattle.icu_index_keys.specs.inner.Leaves.{AreFilled, before, behind, entries_cut, entries_of, leaf_at}

-- ---- another leaf in the place of one

pub entries_set : (ls : List (Vec Entry)) (i : ℕ) (l : Vec Entry) → i < length ls
    → entries_of (set ls i l) ≡ entries_of (take i ls) ++ (l.items ++ entries_of (drop (suc i) ls))
entries_set [] i l low = absurd (omega arith)
entries_set (m ∷ ls) zero l low = refl
entries_set (m ∷ ls) (suc i) l low =
    ap (λ es. m.items ++ es) (entries_set ls i l (omega arith)) ∙ sym (append_assoc m.items (entries_of (take i ls)) (l.items ++ entries_of (drop (suc i) ls)))

pub filled_set : (ls : List (Vec Entry)) (i : ℕ) (l : Vec Entry) → AreFilled ls → 0 < length l.items → AreFilled (set ls i l)
filled_set [] i l filled some = filled
filled_set (m ∷ ls) zero l filled some = (some, filled.1)
filled_set (m ∷ ls) (suc i) l filled some = (filled.0, filled_set ls i l filled.1 some)

pub entries_whole : (ls : List (Vec Entry)) (i : ℕ) → entries_of (take i ls) ++ (leaf_at ls i ++ entries_of (drop (suc i) ls)) ≡ entries_of ls
entries_whole [] zero = refl
entries_whole [] (suc i) = refl
entries_whole (m ∷ ls) zero = refl
entries_whole (m ∷ ls) (suc i) =
    append_assoc m.items (entries_of (take i ls)) (leaf_at ls i ++ entries_of (drop (suc i) ls)) ∙ ap (λ es. m.items ++ es) (entries_whole ls i)

pub filled_at : (ls : List (Vec Entry)) (i : ℕ) → AreFilled ls → i < length ls → 0 < length (leaf_at ls i)
filled_at [] i filled low = absurd (omega arith)
filled_at (m ∷ ls) zero filled low = filled.0
filled_at (m ∷ ls) (suc i) filled low = filled_at ls i filled.1 (omega arith)

-- a leaf that stays
pub entries_same : (ls : List (Vec Entry)) (i : ℕ) (l : Vec Entry) → i < length ls → l.items ≡ leaf_at ls i → entries_of (set ls i l) ≡ entries_of ls
entries_same ls i l low is = entries_set ls i l low ∙ (ap (λ es. entries_of (take i ls) ++ (es ++ entries_of (drop (suc i) ls))) is ∙ entries_whole ls i)

pub filled_same : (ls : List (Vec Entry)) (i : ℕ) (l : Vec Entry) → i < length ls → AreFilled ls → l.items ≡ leaf_at ls i → AreFilled (set ls i l)
filled_same ls i l low filled is = filled_set ls i l filled (subst (λ es. 0 < length es) (sym is) (filled_at ls i filled low))

-- ---- one with an entry more

shifted : (xs bs cs ds : List Entry) (e : Entry) → xs ++ ((bs ++ e ∷ cs) ++ ds) ≡ (xs ++ bs) ++ e ∷ (cs ++ ds)
shifted xs bs cs ds e = ap (λ es. xs ++ es) (append_assoc bs (e ∷ cs) ds) ∙ sym (append_assoc xs bs (e ∷ (cs ++ ds)))

pub entries_put : (ls : List (Vec Entry)) (i j : ℕ) (e : Entry) (l : Vec Entry) → i < length ls → l.items ≡ take j (leaf_at ls i) ++ e ∷ drop j (leaf_at ls i)
    → entries_of (set ls i l) ≡ before ls i j ++ e ∷ behind ls i j
entries_put ls i j e l low is =
    entries_set ls i l low
    ∙ (ap (λ es. entries_of (take i ls) ++ (es ++ entries_of (drop (suc i) ls))) is
    ∙ shifted (entries_of (take i ls)) (take j (leaf_at ls i)) (drop j (leaf_at ls i)) (entries_of (drop (suc i) ls)) e)

some_put : (xs bs : List Entry) (e : Entry) → 0 < length (xs ++ e ∷ bs)
some_put [] bs e = omega arith
some_put (x ∷ xs) bs e = omega arith

pub filled_put : (ls : List (Vec Entry)) (i j : ℕ) (e : Entry) (l : Vec Entry) → AreFilled ls → l.items ≡ take j (leaf_at ls i) ++ e ∷ drop j (leaf_at ls i)
    → AreFilled (set ls i l)
filled_put ls i j e l filled is =
    filled_set ls i l filled (subst (λ es. 0 < length es) (sym is) (some_put (take j (leaf_at ls i)) (drop j (leaf_at ls i)) e))

-- ---- one parted in two

cut_again : (ls : List (Vec Entry)) (i m : ℕ) (u : Vec Entry) → i < length ls → u.items ≡ drop m (leaf_at ls i)
    → entries_cut (insert ls (suc i) u) i m ≡ entries_of ls
cut_again [] i m u low is = absurd (omega arith)
cut_again (l ∷ ls) zero m u low is =
    ap (λ es. take m l.items ++ (es ++ entries_of ls)) is
    ∙ (sym (append_assoc (take m l.items) (drop m l.items) (entries_of ls)) ∙ ap (λ es. es ++ entries_of ls) (take-append-drop m l.items))
cut_again (l ∷ ls) (suc i) m u low is =
    append_assoc l.items (entries_of (take i (insert ls (suc i) u))) (take m (leaf_at (insert ls (suc i) u) i) ++ entries_of (drop (suc i) (insert ls (suc i) u)))
    ∙ ap (λ es. l.items ++ es) (cut_again ls i m u (omega arith) is)

pub entries_split : (ls : List (Vec Entry)) (i m : ℕ) (u : Vec Entry) (new : List (Vec Entry)) → i < length ls → u.items ≡ drop m (leaf_at ls i)
    → new ≡ insert ls (i + 1) u → entries_cut new i m ≡ entries_of ls
entries_split ls i m u new low is e =
    ap (λ xs. entries_cut xs i m) (e ∙ ap (λ n. insert ls n u) (add-one i)) ∙ cut_again ls i m u low is

filled_between : (ls : List (Vec Entry)) (i : ℕ) (u : Vec Entry) → AreFilled ls → 0 < length u.items → AreFilled (insert ls i u)
filled_between [] zero u filled some = (some, filled)
filled_between [] (suc i) u filled some = (some, filled)
filled_between (l ∷ ls) zero u filled some = (some, filled)
filled_between (l ∷ ls) (suc i) u filled some = (filled.0, filled_between ls i u filled.1 some)

pub filled_split : (ls : List (Vec Entry)) (i m : ℕ) (u : Vec Entry) (new : List (Vec Entry)) → AreFilled ls → u.items ≡ drop m (leaf_at ls i)
    → m < length (leaf_at ls i) → new ≡ insert ls (i + 1) u → AreFilled new
filled_split ls i m u new filled is low e =
    subst AreFilled (sym e) (filled_between ls (i + 1) u filled (subst (λ es. 0 < length es) (sym is) (omega (arith, length-drop m (leaf_at ls i)))))

-- the leaf that was parted stands where it stood
pub leaf_split : (ls : List (Vec Entry)) (i : ℕ) (u : Vec Entry) (new : List (Vec Entry)) → i < length ls → new ≡ insert ls (i + 1) u → leaf_at new i ≡ leaf_at ls i
leaf_split ls i u new low e = ap (λ xs. leaf_at xs i) (e ∙ ap (λ n. insert ls n u) (add-one i)) ∙ stays ls i low where
  stays : (xs : List (Vec Entry)) (n : ℕ) → n < length xs → leaf_at (insert xs (suc n) u) n ≡ leaf_at xs n
  stays [] n h = absurd (omega arith)
  stays (x ∷ xs) zero h = refl
  stays (x ∷ xs) (suc n) h = stays xs n (omega arith)

-- ---- the first leaf

pub none_there : (ls : List (Vec Entry)) (i j : ℕ) → length ls ≤ i → j ≤ length (leaf_at ls i) → (before ls i j ≡ entries_of ls) × (behind ls i j ≡ [])
none_there [] zero zero low inside = (refl, refl)
none_there [] (suc i) zero low inside = (refl, refl)
none_there [] zero (suc j) low inside = (refl, refl)
none_there [] (suc i) (suc j) low inside = (refl, refl)
none_there (l ∷ ls) zero j low inside = absurd (omega arith)
none_there (l ∷ ls) (suc i) j low inside =
    let is = none_there ls i j (omega arith) inside in
    (append_assoc l.items (entries_of (take i ls)) (take j (leaf_at ls i)) ∙ ap (λ es. l.items ++ es) is.0, is.1)

pub entries_pushed : (ls : List (Vec Entry)) (l : Vec Entry) → entries_of (ls ++ l ∷ []) ≡ entries_of ls ++ (l.items ++ [])
entries_pushed [] l = refl
entries_pushed (m ∷ ls) l = ap (λ es. m.items ++ es) (entries_pushed ls l) ∙ sym (append_assoc m.items (entries_of ls) (l.items ++ []))

pub filled_pushed : (ls : List (Vec Entry)) (l : Vec Entry) → AreFilled ls → 0 < length l.items → AreFilled (ls ++ l ∷ [])
filled_pushed [] l filled some = (some, tt)
filled_pushed (m ∷ ls) l filled some = (filled.0, filled_pushed ls l filled.1 some)

pub leaf_there : (ls : List (Vec Entry)) (i : ℕ) → 0 < length (leaf_at ls i) → i < length ls
leaf_there [] i some = absurd (omega arith)
leaf_there (l ∷ ls) zero some = omega arith
leaf_there (l ∷ ls) (suc i) some = let more = leaf_there ls i some in omega (arith, more)

pub entries_shortened : (ls : List (Vec Entry)) (i m : ℕ) (d old l : Vec Entry) → i < length ls → old ≡ get_or ls i d → l.items ≡ take m old.items
    → entries_of (set ls i l) ≡ entries_cut ls i m
entries_shortened ls i m d old l low was is =
    entries_set ls i l low
    ∙ ap (λ es. entries_of (take i ls) ++ (es ++ entries_of (drop (suc i) ls)))
    (is ∙ ap (take m) (ap (λ (o : Vec Entry). o.items) was ∙ sym (leaf_got ls i d low)))

whole : (n : ℕ) (xs : List Entry) → length xs ≤ n → take n xs ≡ xs
whole zero [] h = refl
whole (suc n) [] h = refl
whole zero (x ∷ xs) h = absurd (omega arith)
whole (suc n) (x ∷ xs) h = ap (λ ys. x ∷ ys) (whole n xs (omega arith))

-- the second half of a leaf that is read from a slice
module _ (ls read : List (Vec Entry)) (i : ℕ) (xs : List Entry) (is : read ≡ ls) (at : xs ≡ leaf_at read i) where
  pub at_it : xs ≡ leaf_at ls i
  at_it = at ∙ ap (λ l. leaf_at l i) is

  pub half_there : (length xs / 2 ≡ 0 → ⊥) → i < length ls
  half_there some = leaf_there ls i (subst (λ es. 0 < length es) at_it (omega (arith, some)))

  pub half_within : (length xs / 2 ≡ 0 → ⊥) → length xs / 2 < length (leaf_at ls i)
  half_within some = subst (λ es. length xs / 2 < length es) at_it (omega (arith, some))

  pub half_is : (u : Vec Entry) → u.items ≡ take (length xs - length xs / 2) (drop (length xs / 2) xs) → u.items ≡ drop (length xs / 2) (leaf_at ls i)
  half_is u e =
      e ∙ (whole (length xs - length xs / 2) (drop (length xs / 2) xs) (omega (arith, length-drop (length xs / 2) xs))
      ∙ ap (drop (length xs / 2)) at_it)

length_between : {X : Type 0} (xs : List X) (i : ℕ) (u : X) → length (insert xs i u) ≡ suc (length xs)
length_between [] zero u = refl
length_between [] (suc i) u = refl
length_between (x ∷ xs) zero u = refl
length_between (x ∷ xs) (suc i) u = ap suc (length_between xs i u)

pub there_after : (ls : List (Vec Entry)) (i n : ℕ) (u : Vec Entry) (new : List (Vec Entry)) → i < length ls → new ≡ insert ls n u → i < length new
there_after ls i n u new low is = subst (λ xs. i < length xs) (sym is) (omega (arith, length_between ls n u))
