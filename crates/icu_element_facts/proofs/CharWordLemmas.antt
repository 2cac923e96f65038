-- Words of characters, as they are made block by block.
use Rattle.std.proofs.Common.{◌≡◌, ℕ, ◌+◌, ◌-◌, ◌*◌, ◌/◌, ◌%◌, ◌<◌, ◌≤◌, List, [], ◌∷◌, ◌++◌, length, length-append, append_assoc, append-nil, get_or, replicate, slice_index, All, sym, ap, subst, ◌∙◌, inl, inr, arith}
use Rattle.std.proofs.lemmas.Bool.{cases_lt}
use Rattle.std.proofs.lemmas.List.{get_or_append_left, get_or-append_right, get_or_push, length-replicate, get_or-replicate}
use Rattle.std.proofs.lemmas.List.Elements.{All-get_or, All-push}
use Rattle.icu_element_reading.specs.TextElements.{Reading}
use Rattle.icu_element_facts.specs.KeptFacts.{IsOwn}
use Rattle.icu_element_facts.specs.KeptChars.{KeptChar, IsOneMore}
use Rattle.icu_element_facts.specs.CharWords.{IsWord}
use Rattle.icu_element_facts.specs.inner.WordBlocks.{IsOneWord, AreMoreWords, AreWordsFrom, AreBlocks}
use Rattle.icu_element_facts.specs.declared.char_facts.CharFacts.{CharFacts}

-- ---- one word

pub own_word : (reading : Reading) (facts : List CharFacts) (c : ℕ) → IsOwn reading c → IsWord reading facts c 0
own_word reading facts c is = record { own = λ _. is; inside = omega arith; kept = λ other few. absurd (omega (arith, few)) }

pub no_word : (reading : Reading) (facts : List CharFacts) (c : ℕ) → IsWord reading facts c 1
no_word reading facts c = record { own = λ e. absurd (omega (arith, e)); inside = omega arith; kept = λ other few. absurd (omega (arith, few)) }

-- of the facts that were added last
pub last_word : (reading : Reading) (facts : List CharFacts) (c word : ℕ) (l : CharFacts) → word ≡ length facts + 2 → KeptChar reading c l → IsWord reading (facts ++ l ∷ []) c word
last_word reading facts c word l at is = record {
  own = λ e. absurd (omega (arith, e, at));
  inside = omega (arith, at, length-append facts (l ∷ []));
  kept = λ other few. subst (λ (m : CharFacts). KeptChar reading c m) (sym (get_or_push facts l other (word - 2) (omega (arith, at)))) is;
}

-- it stays true as facts are added
pub word_stays : (reading : Reading) (facts more : List CharFacts) (c word : ℕ) → IsWord reading facts c word → IsWord reading (facts ++ more) c word
word_stays reading facts more c word h = record {
  own = h.own;
  inside = omega (arith, h.inside, length-append facts more);
  kept = λ other few.
      subst (λ (m : CharFacts). KeptChar reading c m) (sym (get_or_append_left facts more other (word - 2) (omega (arith, few, h.inside)))) (h.kept other few);
}

-- ---- facts that are added

pub more_facts : (reading : Reading) (c word : ℕ) (old new : List CharFacts) → IsOneMore reading c old new → word ≡ length old + 2 → IsOneWord reading c word old new
more_facts reading c word old new one at = record {
  more = one.facts ∷ [];
  added = one.appended;
  is = subst (λ (fs : List CharFacts). IsWord reading fs c word) (sym one.appended) (last_word reading old c word one.facts at one.kept);
}

pub same_facts : (reading : Reading) (c word : ℕ) (facts : List CharFacts) → IsWord reading facts c word → IsOneWord reading c word facts facts
same_facts reading c word facts is = record { more = []; added = sym (append-nil facts); is = is }

-- ---- words in order

pub no_words : (reading : Reading) (facts : List CharFacts) (first : ℕ) → AreWordsFrom reading facts first []
no_words reading facts first = λ k below. absurd (omega (arith, below))

-- one more after those there are, by facts to which more were added
pub words_more : (reading : Reading) (facts more : List CharFacts) (first code word : ℕ) (words : List ℕ) → first + length words ≡ code → AreWordsFrom reading facts first words
    → IsWord reading (facts ++ more) code word → AreWordsFrom reading (facts ++ more) first (words ++ word ∷ [])
words_more reading facts more first code word words at are is = λ k below.
    elim (cases_lt k (length words)) [
      | inl before ↦
          subst (λ w. IsWord reading (facts ++ more) (first + k) w) (sym (get_or_append_left words (word ∷ []) 0 k before)) (word_stays reading facts more (first + k) _ (are k before))
      | inr past ↦
          let last : length words ≡ k = omega (arith, past, below, length-append words (word ∷ [])) in
          let place : code ≡ first + k = omega (arith, at, last) in
          subst (λ w. IsWord reading (facts ++ more) (first + k) w) (sym (get_or_push words word 0 k last)) (subst (λ c. IsWord reading (facts ++ more) c word) place is)
    ]

-- one more after more words
pub more_words : (reading : Reading) (first code word : ℕ) (words : List ℕ) (old mid new : List CharFacts) → first + length words ≡ code → AreMoreWords reading first words old mid
    → IsOneWord reading code word mid new → AreMoreWords reading first (words ++ word ∷ []) old new
more_words reading first code word words old mid new at before one = record {
  more = before.more ++ one.more;
  added = one.added ∙ ap (λ (l : List CharFacts). l ++ one.more) before.added ∙ append_assoc old before.more one.more;
  are = subst (λ (fs : List CharFacts). AreWordsFrom reading fs first (words ++ word ∷ [])) (sym one.added)
      (words_more reading mid one.more first code word words at before.are (subst (λ (fs : List CharFacts). IsWord reading fs code word) one.added one.is));
}

pub none_more : (reading : Reading) (first : ℕ) (facts : List CharFacts) → AreMoreWords reading first [] facts facts
none_more reading first facts = record { more = []; added = sym (append-nil facts); are = no_words reading facts first }

-- ---- blocks

block_inside : (blocks words : List ℕ) → All (λ b. 64 * b + 64 ≤ length words) blocks → (i : ℕ) → i < length blocks → 64 * slice_index blocks i + 64 ≤ length words
block_inside blocks words all i below = All-get_or (λ b. 64 * b + 64 ≤ length words) blocks i 0 below all

module _ (reading : Reading) (blocks words : List ℕ) (facts : List CharFacts) (h : AreBlocks reading blocks words facts) where
  -- facts were added
  pub facts_added : (more : List CharFacts) → AreBlocks reading blocks words (facts ++ more)
  facts_added more = record {
    whole = h.whole;
    two = h.two;
    inside = h.inside;
    zeros = h.zeros;
    ones = h.ones;
    are = λ c below. word_stays reading facts more c _ (h.are c below);
  }

  -- the words of a block were added
  pub words_added : (more : List ℕ) → length more ≡ 64 → AreBlocks reading blocks (words ++ more) facts
  words_added more count =
      let longer : length (words ++ more) ≡ length words + 64 = length-append words more ∙ ap (λ n. length words + n) count in
      record {
        whole = omega (arith, h.whole, longer);
        two = omega (arith, h.two, longer);
        inside = λ i d below. omega (arith, h.inside i d below, longer);
        zeros = λ k below. get_or_append_left words more 0 k (omega (arith, below, h.two)) ∙ h.zeros k below;
        ones = λ k below. get_or_append_left words more 0 (64 + k) (omega (arith, below, h.two)) ∙ h.ones k below;
        are = λ c below.
            let fits = block_inside blocks words h.inside (c / 64) (omega (arith, below)) in
            subst (λ w. IsWord reading facts c w) (sym (get_or_append_left words more 0 (64 * slice_index blocks (c / 64) + c % 64) (omega (arith, fits)))) (h.are c below);
      }

  -- 64 characters more have the words of a block
  pub block_added : (b : ℕ) → 64 * b + 64 ≤ length words → ((k : ℕ) → k < 64 → IsWord reading facts (64 * length blocks + k) (slice_index words (64 * b + k)))
      → AreBlocks reading (blocks ++ b ∷ []) words facts
  block_added b fits is = record {
    whole = h.whole;
    two = h.two;
    inside = All-push (λ b. 64 * b + 64 ≤ length words) blocks b h.inside fits;
    zeros = h.zeros;
    ones = h.ones;
    are = λ c below.
        let count = length-append blocks (b ∷ []) in
        elim (cases_lt c (64 * length blocks)) [
          | inl before ↦
              let here : slice_index (blocks ++ b ∷ []) (c / 64) ≡ slice_index blocks (c / 64) = get_or_append_left blocks (b ∷ []) 0 (c / 64) (omega (arith, before)) in
              subst (λ n. IsWord reading facts c (slice_index words (64 * n + c % 64))) (sym here) (h.are c before)
          | inr past ↦
              let last : length blocks ≡ c / 64 = omega (arith, past, below, count) in
              let here : slice_index (blocks ++ b ∷ []) (c / 64) ≡ b = get_or_push blocks b 0 (c / 64) last in
              let place : 64 * length blocks + c % 64 ≡ c = omega (arith, last) in
              subst (λ n. IsWord reading facts c (slice_index words (64 * n + c % 64))) (sym here)
              (subst (λ d. IsWord reading facts d (slice_index words (64 * b + c % 64))) place (is (c % 64) (omega arith)))
        ];
  }

-- two blocks, and no character yet
pub two_blocks : (reading : Reading) (blocks words : List ℕ) (facts : List CharFacts) → blocks ≡ [] → words ≡ replicate 64 0 ++ replicate 64 1 → AreBlocks reading blocks words facts
two_blocks reading blocks words facts none is =
    let first : List ℕ = replicate 64 0 in
    let second : List ℕ = replicate 64 1 in
    let one : length first ≡ 64 = length-replicate {A = ℕ} 64 0 in
    let other : length second ≡ 64 = length-replicate {A = ℕ} 64 1 in
    let count : length words ≡ 128 = ap length is ∙ length-append first second ∙ omega (arith, one, other) in
    let empty : length blocks ≡ 0 = ap length none in
    record {
      whole = omega (arith, count);
      two = omega (arith, count);
      inside = λ i d below. absurd (omega (arith, below, empty));
      zeros = λ k small. ap (λ (l : List ℕ). get_or l k 0) is ∙ get_or_append_left first second 0 k (omega (arith, small, one)) ∙ get_or-replicate {A = ℕ} 64 k 0 0 small;
      ones = λ k small.
          let at : 64 + k - 64 ≡ k = omega arith in
          ap (λ (l : List ℕ). get_or l (64 + k) 0) is ∙ get_or-append_right first second 64 (64 + k) 0 one (omega arith)
          ∙ ap (λ i. get_or second i 0) at ∙ get_or-replicate {A = ℕ} 64 k 1 0 small;
      are = λ c below. absurd (omega (arith, below, empty));
    }
