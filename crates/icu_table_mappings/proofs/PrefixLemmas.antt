-- The entries of a character behind each of its prefixes, prefix by prefix.
use Rattle.std.proofs.Common.{◌≡◌, ℕ, ◌<◌, Bool, true, false, List, [], ◌∷◌, length, Option, Some, None, refl, sym, ap, subst, ◌∙◌, if◌then◌else◌, arith, inl, inr}
use Rattle.std.proofs.lemmas.List.{nil_from_length}
use Rattle.std.specs.Prelude.{is_some, ◌||◌, ◌⊎◌}
use Rattle.std.specs.BTreeMap.{insert_entry}
use Rattle.std.specs.Global.{Vec}
use Rattle.std.specs.Map.{keys_of}
use Rattle.std.specs.Str.{bytes_eq}
use Rattle.icu_table_entries.specs.declared.entry.EntryKind.{EntryKind}
use Rattle.icu_table_entries.specs.declared.entry.EntryKind.TheVariants.{Contraction, Prefix}
use Rattle.icu_table_data.specs.Data.{Data}
use Rattle.icu_table_mappings.specs.Given.{Leads, LeadsJust, Gives, GivesJust}
use Rattle.icu_table_mappings.specs.GrownLists.{Extends}
use Rattle.icu_table_mappings.specs.Surroundings.{IsBehind, Suffixes, Surroundings, entry_at, nearest, own_entry, value_among}
use Rattle.icu_table_mappings.specs.inner.ContextParts.{LeadsNearest, is_among}
use Rattle.icu_table_mappings.proofs.GrownListLemmas.{just_further}
use Rattle.icu_table_mappings.proofs.SurroundingLemmas.{inserted_among, key_order, same_from_true}

-- a map with one entry more
pub record Inserts (old new : Suffixes) (k : List ℕ) (v : ℕ) : Type 0 where
  pub copy : Vec ℕ
  pub chars : copy.items ≡ k
  pub entries : new.entries ≡ insert_entry key_order old.entries copy v

inserted_at : (old new : Suffixes) (k : List ℕ) (v : ℕ) → Inserts old new k v → (chars : List ℕ)
    → entry_at new chars ≡ (if bytes_eq k chars then Some v else entry_at old chars)
inserted_at old new k v i chars =
    ap (λ es. value_among es chars) i.entries
    ∙ inserted_among chars old.entries i.copy v
    ∙ ap (λ ks. if bytes_eq ks chars then Some v else entry_at old chars) i.chars

-- ---- which prefixes have an entry

covers_here : (b r : Bool) (v : ℕ) (o : Option ℕ) → (is_some o ≡ true) ⊎ ((b || r) ≡ true) → (is_some (if b then Some v else o) ≡ true) ⊎ (r ≡ true)
covers_here true r v o h = inl refl
covers_here false r v o h = h

-- one prefix more
pub covers_turn : (left next : List (Vec ℕ)) (k : Vec ℕ) (v : ℕ) (old new : Suffixes) → left ≡ k ∷ next → Inserts old new k.items v
    → (before : List ℕ) → (is_some (entry_at old before) ≡ true) ⊎ (is_among left before ≡ true)
    → (is_some (entry_at new before) ≡ true) ⊎ (is_among next before ≡ true)
unfolding is_among
covers_turn left next k v old new steps i before h =
    let at : (is_some (entry_at old before) ≡ true) ⊎ ((bytes_eq k.items before || is_among next before) ≡ true) =
    subst (λ ks. (is_some (entry_at old before) ≡ true) ⊎ (is_among ks before ≡ true)) steps h in
    subst (λ o. (is_some o ≡ true) ⊎ (is_among next before ≡ true)) (sym (inserted_at old new k.items v i before))
    (covers_here (bytes_eq k.items before) (is_among next before) v (entry_at old before) at)

skip_here : (b r : Bool) (o : Option ℕ) → (b ≡ true → is_some o ≡ true) → (is_some o ≡ true) ⊎ ((b || r) ≡ true) → (is_some o ≡ true) ⊎ (r ≡ true)
skip_here true r o has h = inl (has refl)
skip_here false r o has h = h

-- no prefix has its entry from the start
pub covers_skip : (left next : List (Vec ℕ)) (k : Vec ℕ) (entries : Suffixes) (default : ℕ) → left ≡ k ∷ next → length k.items ≡ 0
    → entry_at entries [] ≡ Some default → (before : List ℕ) → (is_some (entry_at entries before) ≡ true) ⊎ (is_among left before ≡ true)
    → (is_some (entry_at entries before) ≡ true) ⊎ (is_among next before ≡ true)
unfolding is_among
covers_skip left next k entries default steps none alone before h =
    let at : (is_some (entry_at entries before) ≡ true) ⊎ ((bytes_eq k.items before || is_among next before) ≡ true) =
    subst (λ ks. (is_some (entry_at entries before) ≡ true) ⊎ (is_among ks before ≡ true)) steps h in
    skip_here (bytes_eq k.items before) (is_among next before) (entry_at entries before)
    (λ same. ap (λ cs. is_some (entry_at entries cs)) (sym (same_from_true k.items before same) ∙ nil_from_length k.items none) ∙ ap is_some alone)
    at

-- all have one
pub covers_end : (left : List (Vec ℕ)) (entries : Suffixes) → left ≡ []
    → (before : List ℕ) → (is_some (entry_at entries before) ≡ true) ⊎ (is_among left before ≡ true) → is_some (entry_at entries before) ≡ true
unfolding is_among
covers_end left entries done before (inl h) = h
covers_end left entries done before (inr h) = let e : false ≡ true = sym (ap (λ ks. is_among ks before) done) ∙ h in cc

-- ---- what their entries lead to

not_none : (xs : List ℕ) (v : ℕ) (o : Option ℕ) → 0 < length xs → (if bytes_eq xs [] then Some v else o) ≡ o
not_none [] v o h = absurd (omega arith)
not_none (x ∷ xs) v o h = refl

-- no prefix keeps its entry
pub alone_turn : (old new : Suffixes) (k : List ℕ) (v default : ℕ) → Inserts old new k v → 0 < length k → entry_at old [] ≡ Some default → entry_at new [] ≡ Some default
alone_turn old new k v default i some alone = inserted_at old new k v i [] ∙ not_none k v (entry_at old []) some ∙ alone

leads_here : (all : Surroundings) (own : ℕ) (d : Data) (k before : List ℕ) (v e : ℕ) (o : Option ℕ) (b : Bool) → (b ≡ true → k ≡ before)
    → LeadsNearest all own d k v → (o ≡ Some e → LeadsNearest all own d before e) → (if b then Some v else o) ≡ Some e → LeadsNearest all own d before e
leads_here all own d k before v e o true same new old h =
    let is : v ≡ e = cc in
    subst (λ cs. LeadsNearest all own d cs e) (same refl) (subst (λ x. LeadsNearest all own d k x) is new)
leads_here all own d k before v e o false same new old h = old h

-- one prefix more
pub leads_turn : (all : Surroundings) (own : ℕ) (d more : Data) (k : List ℕ) (v : ℕ) (old new : Suffixes) → Inserts old new k v → Extends d more
    → LeadsNearest all own more k v → ((before : List ℕ) (e : ℕ) → entry_at old before ≡ Some e → LeadsNearest all own d before e)
    → (before : List ℕ) (e : ℕ) → entry_at new before ≡ Some e → LeadsNearest all own more before e
leads_turn all own d more k v old new i grows here kept before e h =
    leads_here all own more k before v e (entry_at old before) (bytes_eq k before) (λ same. same_from_true k before same) here
    (λ was. just_further Contraction d more e (nearest all own before) grows.lists (kept before e was))
    (sym (inserted_at old new k v i before) ∙ h)

-- at first no prefix alone has an entry
pub leads_first : (all : Surroundings) (own : ℕ) (d : Data) (default : ℕ) (entries : Suffixes) → ((chars : List ℕ) → entry_at entries chars ≡ own_entry default chars)
    → LeadsNearest all own d [] default → (before : List ℕ) (e : ℕ) → entry_at entries before ≡ Some e → LeadsNearest all own d before e
leads_first all own d default entries are here [] e h =
    let same : Some default ≡ Some e = sym (are []) ∙ h in
    let is : default ≡ e = cc in
    subst (λ x. LeadsNearest all own d [] x) is here
leads_first all own d default entries are here (b ∷ bs) e h = let no_such : None ≡ Some e = sym (are (b ∷ bs)) ∙ h in cc

-- ---- all together

known : (o : Option ℕ) → is_some o ≡ true → (e : ℕ) × (o ≡ Some e)
known None h = cc
known (Some e) h = (e, refl)

key_there : (es : List (Vec ℕ × Suffixes)) (chars : List ℕ) → is_some (value_among es chars) ≡ true → is_among (keys_of es) chars ≡ true
unfolding value_among is_among
key_there [] chars h = cc
key_there (e ∷ es) chars h = here (bytes_eq e.0.items chars) (key_there es chars) h where
  here : (b : Bool) → (is_some (value_among es chars) ≡ true → is_among (keys_of es) chars ≡ true)
      → is_some (if b then Some e.1 else value_among es chars) ≡ true → (b || is_among (keys_of es) chars) ≡ true
  here true more h = refl
  here false more h = more h

-- the entry of a character by the entries behind prefixes: just those that were put in
pub gives_just : (all : Surroundings) (own : ℕ) (d new : Data) (entries : Suffixes) (default result : ℕ) → Extends d new
    → ((before : List ℕ) (e : ℕ) → entry_at entries before ≡ Some e → LeadsNearest all own d before e)
    → ((before : List ℕ) → is_among (keys_of all.entries) before ≡ true → is_some (entry_at entries before) ≡ true)
    → entry_at entries [] ≡ Some default
    → LeadsJust Prefix new result (entry_at entries) → GivesJust new result all own
gives_just all own d new entries default result grows leads covers alone prefix = record {
  behind = entry_at entries;
  prefix = prefix;
  prefixes = there_is;
  contraction = λ before b is. just_further Contraction d new b (nearest all own before) grows.lists (leads before b is);
} where
  there_is : (before : List ℕ) → IsBehind all before → is_some (entry_at entries before) ≡ true
  there_is before (inl none) = ap (λ cs. is_some (entry_at entries cs)) none ∙ ap is_some alone
  there_is before (inr some) = covers before (key_there all.entries before some)

leads_one : (kind : EntryKind) (d : Data) (e : ℕ) (found : List ℕ → Option ℕ) → LeadsJust kind d e found
    → (chars : List ℕ) (f : ℕ) → found chars ≡ Some f → Leads kind d e chars f
leads_one kind d e found (inl r) chars f h = inl (record { kind_is = r.kind_is; inside = r.inside; entry = r.entries chars ∙ h })
leads_one kind d e found (inr own) [] f h = inr (refl, let same : Some e ≡ Some f = own [] ∙ h in cc)
leads_one kind d e found (inr own) (c ∷ cs) f h = let same : None ≡ Some f = own (c ∷ cs) ∙ h in cc

-- behind what has an entry the character's entry comes to that of the longest prefix
pub gives_nearest : (all : Surroundings) (own : ℕ) (d : Data) (e : ℕ) → GivesJust d e all own
    → (before after : List ℕ) (f : ℕ) → IsBehind all before → nearest all own before after ≡ Some f → Gives d e before after f
gives_nearest all own d e gives before after f behind h =
    let found : (b : ℕ) × (gives.behind before ≡ Some b) = known (gives.behind before) (gives.prefixes before behind) in
    record {
      behind = found.0;
      prefix = leads_one Prefix d e gives.behind gives.prefix before found.0 found.1;
      contraction = leads_one Contraction d found.0 (nearest all own before) (gives.contraction before found.0 found.1) after f h;
    }
