-- Lists of bytes to which a level is written.
use Rattle.std.proofs.Common.{◌≡◌, ℕ, zero, suc, Bool, ◌&&◌, if◌then◌else◌, List, [], ◌++◌, refl, sym, ap, subst, ◌∙◌, append_assoc, eq-eqb, replicate, Result, Ok, Err, OnOk}
use Rattle.icu_order_levels.specs.Cases.{is_only, case_runs}
use Rattle.icu_order_levels.specs.declared.forms.CaseForm.{CaseForm}
use Rattle.icu_key_writers.specs.Sinks.{SinkEffects}
use Rattle.icu_key_writers.specs.Writes.{Feeds}

-- what a list that appends what it takes holds and what is still to be written, before a call that is fed and after it
pub fed_held : {X St F E A B : Type 0} (items : X → List ℕ) (effects : SinkEffects X St F E)
    → ((x y : X) (s t : St) (b : List ℕ) → effects.took x s b y t → items y ≡ items x ++ b)
    → (x y : X) (s t : St) (before after : A × B → List ℕ) (r : Result Unit E) → Feeds effects x s before after r y t
    → OnOk r ((a : A) (b : B) → items x ++ before (a, b) ≡ items y ++ after (a, b))
fed_held items effects appends x y s t before after (Ok v) w = λ a b.
    ap (λ l. items x ++ l) (w.leaves (a, b))
    ∙ (sym (append_assoc (items x) w.front (after (a, b))) ∙ ap (λ l. l ++ after (a, b)) (sym (appends x y s t w.front w.taken)))
fed_held items effects appends x y s t before after (Err e) w = tt

-- more of the one number that a list is of alone
pub only_commons : (n m : ℕ) (ws : List ℕ) → is_only n (replicate m n ++ ws) ≡ is_only n ws
only_commons n zero ws = refl
only_commons n (suc m) ws = rw (eq-eqb n n refl) (only_commons n m ws)

-- a level that is written as nothing where it is of one number alone, and a list that appends what it takes, fed more
-- of that number
pub vanishing_fed : {X St F E : Type 0} (items : X → List ℕ) (effects : SinkEffects X St F E)
    → ((x y : X) (s t : St) (b : List ℕ) → effects.took x s b y t → items y ≡ items x ++ b)
    → (x y : X) (s t : St) (before after : List ℕ → List ℕ) (v : Bool) (n m : ℕ) (r : Result Unit E)
    → Feeds effects x s (λ ws. before (replicate m n ++ ws)) after r y t
    → OnOk r ((ws : List ℕ) → (if v && is_only n (replicate m n ++ ws) then [] else items x ++ before (replicate m n ++ ws))
    ≡ (if v && is_only n ws then [] else items y ++ after ws))
vanishing_fed items effects appends x y s t before after v n m (Ok u) w = λ ws.
    let joined : items x ++ before (replicate m n ++ ws) ≡ items y ++ after ws =
    ap (λ l. items x ++ l) (w.leaves ws)
    ∙ (sym (append_assoc (items x) w.front (after ws)) ∙ ap (λ l. l ++ after ws) (sym (appends x y s t w.front w.taken))) in
    rw (only_commons n m ws, joined) refl
vanishing_fed items effects appends x y s t before after v n m (Err e) w = tt

-- a case level fed more of its common rank, by a form that stays
pub vanishing_cases : {X St F E : Type 0} (items : X → List ℕ) (effects : SinkEffects X St F E)
    → ((x y : X) (s t : St) (b : List ℕ) → effects.took x s b y t → items y ≡ items x ++ b)
    → (x y : X) (s t : St) (before after : List ℕ → List ℕ) (v : Bool) (form left : CaseForm) → left ≡ form → (m : ℕ) (r : Result Unit E)
    → Feeds effects x s (λ ranks. before (replicate m (case_runs form).common ++ ranks)) after r y t
    → OnOk r ((ranks : List ℕ) → (if v && is_only (case_runs form).common (replicate m (case_runs form).common ++ ranks) then []
    else items x ++ before (replicate m (case_runs form).common ++ ranks))
    ≡ (if v && is_only (case_runs left).common ranks then [] else items y ++ after ranks))
vanishing_cases items effects appends x y s t before after v form left e m r w =
    subst (λ (f : CaseForm). OnOk r ((ranks : List ℕ) → (if v && is_only (case_runs form).common (replicate m (case_runs form).common ++ ranks) then []
    else items x ++ before (replicate m (case_runs form).common ++ ranks))
    ≡ (if v && is_only (case_runs f).common ranks then [] else items y ++ after ranks))) (sym e)
    (vanishing_fed items effects appends x y s t before after v (case_runs form).common m r w)
