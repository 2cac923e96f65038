-- Where a reordering takes lead bytes: it changes the lead alone, and weights that share their two highest bytes go
-- alike, but for the limit between them.
use Rattle.std.proofs.Common.{◌≡◌, ℕ, ◌+◌, ◌*◌, ◌/◌, ◌%◌, ◌^◌, ◌<◌, ◌≤◌, true, false, List, Option, Some, None, refl, inl, inr, sym, ◌∙◌, ap, subst, arith, get_or}
use Rattle.std.specs.Prelude.{◌==◌, ◌||◌, nat_le, nat_lt, All, find, bit_or, slice_index}
use Rattle.std.proofs.lemmas.Bool.{cases_Bool}
use Rattle.std.proofs.lemmas.Bool.Decides.{nat_tests}
use Rattle.std.proofs.lemmas.Grind.{common_steps}
use Rattle.icu_table_provider.specs.Reorderings.{Reordering, lead_byte, with_lead, lies_below, moved, reordered}
use Rattle.icu_table_provider.proofs.ReachedRangeLemmas.{block_end}
use Rattle.icu_table_provider.specs.well_formed.Leads.{reordered_lead, TakesLead, TakesBlock}

block_end-same : (p q : ℕ) → p / 65536 ≡ q / 65536 → bit_or p 0xFFFF ≡ bit_or q 0xFFFF
block_end-same p q e = block_end p ∙ ap (λ h. h * 65536 + 65535) e ∙ sym (block_end q)

pub lead-with_lead : (t p : ℕ) → lead_byte (with_lead t p) ≡ t
lead-with_lead t p = omega arith

rest-with_lead : (t p : ℕ) → with_lead t p % 2 ^ 24 ≡ p % 2 ^ 24
rest-with_lead t p = omega arith

-- ---- moved weights, by the range that was found

abbrev moved_by : Option ℕ → ℕ → ℕ
moved_by (Some range) p = with_lead ((lead_byte p + range % 256) % 256) p
moved_by None p = p

moved-found : (ranges : List ℕ) (p : ℕ) → moved ranges p ≡ moved_by (find (lies_below p) ranges) p
unfolding moved
moved-found ranges p =
    elim (find (lies_below p) ranges) as (λ o. (elim o [ Some range ↦ with_lead ((lead_byte p + range % 256) % 256) p | None ↦ p ]) ≡ moved_by o p) [
      | Some range ↦ refl
      | None ↦ refl
    ]

moved_by-rest : (found : Option ℕ) (p : ℕ) → moved_by found p % 2 ^ 24 ≡ p % 2 ^ 24
moved_by-rest (Some range) p = rest-with_lead _ p
moved_by-rest None p = refl

moved_by-bound : (found : Option ℕ) (p : ℕ) → p < 2 ^ 32 → moved_by found p < 2 ^ 32
moved_by-bound (Some range) p small = omega arith
moved_by-bound None p small = small

moved_by-lead : (found : Option ℕ) (p q : ℕ) → lead_byte p ≡ lead_byte q → lead_byte (moved_by found p) ≡ lead_byte (moved_by found q)
moved_by-lead (Some range) p q e =
    lead-with_lead ((lead_byte p + range % 256) % 256) p ∙ ap (λ l. (l + range % 256) % 256) e
    ∙ sym (lead-with_lead ((lead_byte q + range % 256) % 256) q)
moved_by-lead None p q e = e

moved-lead : (ranges : List ℕ) (p q : ℕ) → p / 65536 ≡ q / 65536 → lead_byte (moved ranges p) ≡ lead_byte (moved ranges q)
moved-lead ranges p q e =
    let same : find (lies_below p) ranges ≡ find (lies_below q) ranges = ap (λ m. find (λ range. nat_lt m range) ranges) (block_end-same p q e) in
    let leads : lead_byte p ≡ lead_byte q = omega arith in
    ap (λ w. lead_byte w) (moved-found ranges p) ∙ moved_by-lead (find (lies_below p) ranges) p q leads
    ∙ ap (λ o. lead_byte (moved_by o q)) same ∙ sym (ap (λ w. lead_byte w) (moved-found ranges q))

-- ---- reordered weights, by the three ways of a lead

pub replaced : (r : Reordering) (p : ℕ) → (slice_index r.leads (lead_byte p) == 0) ≡ false → reordered r p ≡ with_lead (slice_index r.leads (lead_byte p)) p
unfolding reordered
replaced r p h = rw h refl

pub stays : (r : Reordering) (p : ℕ) → (slice_index r.leads (lead_byte p) == 0) ≡ true → (nat_le p 1 || nat_le r.limit p) ≡ true → reordered r p ≡ p
unfolding reordered
stays r p h s = rw (h, s) refl

moves : (r : Reordering) (p : ℕ) → (slice_index r.leads (lead_byte p) == 0) ≡ true → (nat_le p 1 || nat_le r.limit p) ≡ false → reordered r p ≡ moved r.ranges p
unfolding reordered
moves r p h s = rw (h, s) refl

-- what holds of a weight with any byte of the table as its lead, of the weight itself, and of what a range makes of it
by_ways : (P : ℕ → Type 0) (r : Reordering) (p : ℕ) → P (with_lead (slice_index r.leads (lead_byte p)) p) → P p
    → ((found : Option ℕ) → P (moved_by found p)) → P (reordered r p)
by_ways P r p in_table same in_range =
    elim (cases_Bool (slice_index r.leads (lead_byte p) == 0)) [
      | inr given ↦ subst P (sym (replaced r p given)) in_table
      | inl zero_byte ↦ elim (cases_Bool (nat_le p 1 || nat_le r.limit p)) [
        | inl s ↦ subst P (sym (stays r p zero_byte s)) same
        | inr s ↦ subst P (sym (moves r p zero_byte s ∙ moved-found r.ranges p)) (in_range (find (lies_below p) r.ranges))
      ]
    ]

-- reordering changes the lead alone
pub reordered-rest : (r : Reordering) (p : ℕ) → reordered r p % 2 ^ 24 ≡ p % 2 ^ 24
reordered-rest r p =
    by_ways (λ w. w % 2 ^ 24 ≡ p % 2 ^ 24) r p (rest-with_lead (slice_index r.leads (lead_byte p)) p) refl (λ found. moved_by-rest found p)

byte_at : (leads : List ℕ) (i : ℕ) → All (λ b. b < 256) leads → get_or leads i 0 < 256
byte_at leads i bytes = grind (arith, common_steps)

-- and keeps weights within four bytes
pub reordered-bound : (r : Reordering) (p : ℕ) → All (λ b. b < 256) r.leads → p < 2 ^ 32 → reordered r p < 2 ^ 32
reordered-bound r p bytes small =
    let byte : get_or r.leads (lead_byte p) 0 < 256 = byte_at r.leads (lead_byte p) bytes in
    by_ways (λ w. w < 2 ^ 32) r p (omega arith) small (λ found. moved_by-bound found p small)

-- so a weight whose lead stays is the same after it
pub reordered-same : (r : Reordering) (p : ℕ) → reordered_lead r p ≡ lead_byte p → reordered r p ≡ p
reordered-same r p e = omega (arith, reordered-rest r p)

pub takes_lead-same : (r : Reordering) (b p : ℕ) → TakesLead r b b → p < 2 ^ 32 → lead_byte p ≡ b → reordered r p ≡ p
takes_lead-same r b p takes small e = reordered-same r p (takes p small e ∙ sym e)

-- ---- leads as wholes

-- The weights of a block go where its first or its last goes: under a byte of the table all go alike, and else those
-- below the limit move alike, and those from it on keep their lead.
pub block_where_ends : (P : ℕ → Type 0) (r : Reordering) (h p : ℕ) → 256 ≤ h → p / 65536 ≡ h → P (reordered_lead r (h * 65536)) → P (reordered_lead r (h * 65536 + 65535))
    → P (reordered_lead r p)
block_where_ends P r h p high at first last =
    let a : ℕ = h * 65536 in
    let z : ℕ = h * 65536 + 65535 in
    let lead_a : lead_byte a ≡ lead_byte p = omega arith in
    let lead_z : lead_byte z ≡ lead_byte p = omega arith in
    let same_a : a / 65536 ≡ p / 65536 = omega arith in
    elim (cases_Bool (slice_index r.leads (lead_byte p) == 0)) [
      | inr given ↦
          let given_a : (slice_index r.leads (lead_byte a) == 0) ≡ false = ap (λ l. slice_index r.leads l == 0) lead_a ∙ given in
          let with_first : reordered_lead r p ≡ reordered_lead r a =
          ap (λ w. lead_byte w) (replaced r p given) ∙ lead-with_lead (slice_index r.leads (lead_byte p)) p ∙ ap (λ l. slice_index r.leads l) (sym lead_a)
          ∙ sym (lead-with_lead (slice_index r.leads (lead_byte a)) a) ∙ sym (ap (λ w. lead_byte w) (replaced r a given_a)) in
          subst P (sym with_first) first
      | inl zero_byte ↦
          let zero_a : (slice_index r.leads (lead_byte a) == 0) ≡ true = ap (λ l. slice_index r.leads l == 0) lead_a ∙ zero_byte in
          let zero_z : (slice_index r.leads (lead_byte z) == 0) ≡ true = ap (λ l. slice_index r.leads l == 0) lead_z ∙ zero_byte in
          elim (cases_Bool (nat_le p 1 || nat_le r.limit p)) [
            | inl s ↦
                let s_z : (nat_le z 1 || nat_le r.limit z) ≡ true = grind (arith, nat_tests) in
                let with_last : reordered_lead r p ≡ reordered_lead r z =
                ap (λ w. lead_byte w) (stays r p zero_byte s) ∙ sym lead_z ∙ sym (ap (λ w. lead_byte w) (stays r z zero_z s_z)) in
                subst P (sym with_last) last
            | inr s ↦
                let s_a : (nat_le a 1 || nat_le r.limit a) ≡ false = grind (arith, nat_tests) in
                let with_first : reordered_lead r p ≡ reordered_lead r a =
                ap (λ w. lead_byte w) (moves r p zero_byte s) ∙ moved-lead r.ranges p a (sym same_a) ∙ sym (ap (λ w. lead_byte w) (moves r a zero_a s_a)) in
                subst P (sym with_first) first
          ]
    ]

block_by_ends : (r : Reordering) (h d p : ℕ) → 256 ≤ h → p / 65536 ≡ h → reordered_lead r (h * 65536) ≡ d → reordered_lead r (h * 65536 + 65535) ≡ d
    → reordered_lead r p ≡ d
block_by_ends r h d p high at first last = block_where_ends (λ lead. lead ≡ d) r h p high at first last

pub takes_block : (r : Reordering) (h d : ℕ) → 256 ≤ h → reordered_lead r (h * 65536) ≡ d → reordered_lead r (h * 65536 + 65535) ≡ d → TakesBlock r h d
takes_block r h d high first last = λ p small at. block_by_ends r h d p high at first last

-- its ends are among them
pub block_first : (r : Reordering) (h d : ℕ) → h < 2 ^ 16 → TakesBlock r h d → reordered_lead r (h * 65536) ≡ d
block_first r h d small takes = takes (h * 65536) (omega arith) (omega arith)

pub block_last : (r : Reordering) (h d : ℕ) → h < 2 ^ 16 → TakesBlock r h d → reordered_lead r (h * 65536 + 65535) ≡ d
block_last r h d small takes = takes (h * 65536 + 65535) (omega arith) (omega arith)

-- a lead is taken whole exactly if each of its blocks is
pub takes_lead : (r : Reordering) (b d : ℕ) → ((s : ℕ) → s < 256 → TakesBlock r (b * 256 + s) d) → TakesLead r b d
takes_lead r b d blocks = λ p small at. blocks (p / 65536 % 256) (omega arith) p small (omega arith)

pub lead_block : (r : Reordering) (b d s : ℕ) → s < 256 → TakesLead r b d → TakesBlock r (b * 256 + s) d
lead_block r b d s below takes = λ p small at. takes p small (omega arith)
