-- The slots that tags and a core's pages make, and the free slots that tags link.
use Rattle.std.proofs.Common.{◌≡◌, ℕ, zero, suc, ◌+◌, ◌-◌, ◌<◌, ◌≤◌, Bool, false, cond, List, [], ◌∷◌, length, replicate, Option, Some, None, refl, ap, sym, ◌∙◌, ◌⊎◌, inl, inr, arith}
use Rattle.std.specs.Prelude.{slice_set, slice_index_or, count_by, nat_lt, ◌==◌}
use Rattle.std.specs.Option.{option_map}
use Rattle.std.proofs.lemmas.Bool.{cases_eq, cases_lt, eq-eqb, ne_eqb, lt-ltb, le-ltb}
use Rattle.std.proofs.lemmas.List.{length-set, length-replicate, get_or-set_same, get_or-set_other, set-get_or}
use Rattle.std.proofs.lemmas.List.Sums.{sum_by-cons}
use Rattle.merge_core.specs.Pmap.{Pmap}
use Rattle.merge_core.specs.Shown.{Shown}
use Rattle.merge_core.specs.Stays.{frame_at}
use Rattle.lent_slots.specs.declared.holding.Holding.{Holding}
use Rattle.lent_slots.specs.Fits.{Fits}
use Rattle.lent_slots.specs.Slots.{holding, is_of, lent_slots}
use Rattle.lent_slots.specs.Tags.{held_as, slots_from, slots_of, next_free, chain}
use Rattle.lent_slots.proofs.SlotLists.{held_within, set_same, set_other}

-- there are as many slots as tags
length_from : (pmap : Pmap) (ppn : ℕ) (tags : List ℕ) → length (slots_from pmap ppn tags) ≡ length tags
length_from pmap ppn [] = refl
length_from pmap ppn (tag ∷ tags) = ap suc (length_from pmap (ppn + 1) tags)

pub slots_length : (pmap : Pmap) (tags : List ℕ) → length (slots_of pmap tags) ≡ length tags
slots_length pmap tags = length_from pmap 0 tags

-- what each of them holds
holding_from : (pmap : Pmap) (ppn : ℕ) (tags : List ℕ) (n : ℕ) → n < length tags → holding (slots_from pmap ppn tags) n ≡ held_as (slice_index_or tags n 0) (frame_at pmap 0 (ppn + n))
holding_from pmap ppn [] n less = absurd (omega arith)
holding_from pmap ppn (tag ∷ tags) zero less = ap (λ (k : ℕ). held_as tag (frame_at pmap 0 k)) (omega arith)
holding_from pmap ppn (tag ∷ tags) (suc n) less =
    holding_from pmap (ppn + 1) tags n (omega arith) ∙ ap (λ (k : ℕ). held_as (slice_index_or tags n 0) (frame_at pmap 0 k)) (omega arith)

pub holding_is : (pmap : Pmap) (tags : List ℕ) (n : ℕ) → n < length tags → holding (slots_of pmap tags) n ≡ held_as (slice_index_or tags n 0) (frame_at pmap 0 n)
holding_is pmap tags n less = holding_from pmap 0 tags n less ∙ ap (λ (k : ℕ). held_as (slice_index_or tags n 0) (frame_at pmap 0 k)) (omega arith)

-- the tag of a slot that is held is its client
abbrev client_or : Option Holding → ℕ → ℕ
client_or None n = n
client_or (Some h) n = h.client

client_is : (tag : ℕ) (o : Option ℕ) (h : Holding) → held_as tag o ≡ Some h → h.client ≡ tag
client_is tag None h e = sym (ap (λ (x : Option Holding). client_or x tag) e)
client_is tag (Some mpn) h e = sym (ap (λ (x : Option Holding). client_or x tag) e)

pub tag_is : (pmap : Pmap) (tags : List ℕ) (n : ℕ) (h : Holding) → holding (slots_of pmap tags) n ≡ Some h → h.client ≡ slice_index_or tags n 0
tag_is pmap tags n h held =
    let less : n < length tags = omega (arith, held_within (slots_of pmap tags) n h held, slots_length pmap tags) in
    client_is (slice_index_or tags n 0) (frame_at pmap 0 n) h (sym (holding_is pmap tags n less) ∙ held)

-- what the core says of a slot's page
pub held_none : (pmap : Pmap) (tags : List ℕ) (n : ℕ) → n < length tags → None ≡ frame_at pmap 0 n → None ≡ holding (slots_of pmap tags) n
held_none pmap tags n less free = ap (held_as (slice_index_or tags n 0)) free ∙ sym (holding_is pmap tags n less)

pub held_some : (pmap : Pmap) (tags : List ℕ) (n tag mpn : ℕ) → n < length tags → tag ≡ slice_index_or tags n 0 → Some mpn ≡ frame_at pmap 0 n
    → (let h : Option Holding = Some (record { client = tag; frame = mpn }) in h) ≡ holding (slots_of pmap tags) n
held_some pmap tags n tag mpn less is has =
    ap (λ (k : ℕ). let h : Option Holding = Some (record { client = k; frame = mpn }) in h) is
    ∙ ap (held_as (slice_index_or tags n 0)) has ∙ sym (holding_is pmap tags n less)

-- a slot with another tag isn't the client's
other_tag : (tag client : ℕ) (o : Option ℕ) → (tag ≡ client → ⊥) → false ≡ is_of client (held_as tag o)
other_tag tag client None ne = refl
other_tag tag client (Some mpn) ne = sym (ne_eqb tag client ne)

pub not_of : (pmap : Pmap) (tags : List ℕ) (n tag client : ℕ) → n < length tags → tag ≡ slice_index_or tags n 0 → (tag ≡ client → ⊥) → false ≡ is_of client (holding (slots_of pmap tags) n)
not_of pmap tags n tag client less is ne =
    other_tag tag client (frame_at pmap 0 n) ne ∙ ap (λ (k : ℕ). is_of client (held_as k (frame_at pmap 0 n))) is ∙ sym (ap (is_of client) (holding_is pmap tags n less))

-- Slots that fit a core are those that the tags make, if each client is its slot's tag.
held_back : (tag : ℕ) (o : Option Holding) → ((h : Holding) → o ≡ Some h → h.client ≡ tag) → held_as tag (option_map (λ h. h.frame) o) ≡ o
held_back tag None own = refl
held_back tag (Some h) own = ap (λ (n : ℕ). let x : Option Holding = Some (record { client = n; frame = h.frame }) in x) (sym (own h refl))

slots_same : (a b : List (Option Holding)) → length a ≡ length b → ((n : ℕ) → n < length a → holding a n ≡ holding b n) → a ≡ b
slots_same [] [] e h = refl
slots_same [] (y ∷ b) e h = absurd (omega arith)
slots_same (x ∷ a) [] e h = absurd (omega arith)
slots_same (x ∷ a) (y ∷ b) e h =
    ap (λ (z : Option Holding). z ∷ a) (h 0 (omega arith)) ∙ ap (λ (l : List (Option Holding)). y ∷ l) (slots_same a b (omega arith) (λ n less. h (suc n) (omega (arith, less))))

pub slots_are : (c : Shown) (slots : List (Option Holding)) (tags : List ℕ) → Fits slots c → length slots ≡ length tags
    → ((n : ℕ) (h : Holding) → holding slots n ≡ Some h → h.client ≡ slice_index_or tags n 0) → slots_of c.pmap tags ≡ slots
slots_are c slots tags fits size own =
    slots_same (slots_of c.pmap tags) slots (slots_length c.pmap tags ∙ sym size)
    (λ n less. holding_is c.pmap tags n (omega (arith, less, slots_length c.pmap tags)) ∙ ap (held_as (slice_index_or tags n 0)) (fits.frames n)
    ∙ held_back (slice_index_or tags n 0) (holding slots n) (λ h e. own n h e))

-- the slots where nothing changed, for a core that they fit
pub slots_stay : (c : Shown) (pmap : Pmap) (tags : List ℕ) → Fits (slots_of pmap tags) c → slots_of c.pmap tags ≡ slots_of pmap tags
slots_stay c pmap tags fits = slots_are c (slots_of pmap tags) tags fits (slots_length pmap tags) (λ n h e. tag_is pmap tags n h e)

-- the slots where one changed, and got its client as its tag, or any if it is free now
pub slots_set : (c : Shown) (pmap : Pmap) (tags : List ℕ) (ppn tag : ℕ) (x : Option Holding) → ppn < length tags → ((h : Holding) → x ≡ Some h → h.client ≡ tag)
    → Fits (slice_set (slots_of pmap tags) ppn x) c → slots_of c.pmap (slice_set tags ppn tag) ≡ slice_set (slots_of pmap tags) ppn x
slots_set c pmap tags ppn tag x there own fits =
    slots_are c (slice_set (slots_of pmap tags) ppn x) (slice_set tags ppn tag) fits
    (length-set (slots_of pmap tags) ppn x ∙ slots_length pmap tags ∙ sym (length-set tags ppn tag)) (λ n h e. each n h (cases_eq n ppn) e) where
      each : (n : ℕ) (h : Holding) → ((n ≡ ppn) ⊎ (n ≡ ppn → ⊥)) → holding (slice_set (slots_of pmap tags) ppn x) n ≡ Some h → h.client ≡ slice_index_or (slice_set tags ppn tag) n 0
      each n h (inl at) e =
          own h (sym (set_same (slots_of pmap tags) ppn x (omega (arith, there, slots_length pmap tags))) ∙ sym (ap (holding (slice_set (slots_of pmap tags) ppn x)) at) ∙ e)
          ∙ sym (ap (λ (k : ℕ). slice_index_or (slice_set tags ppn tag) k 0) at ∙ get_or-set_same tags ppn tag 0 there)
      each n h (inr ne) e = tag_is pmap tags n h (sym (set_other (slots_of pmap tags) ppn n x ne) ∙ e) ∙ sym (get_or-set_other tags ppn n tag 0 ne)

pub slots_lent : (c : Shown) (pmap : Pmap) (tags : List ℕ) (client ppn mpn : ℕ) → ppn < length tags → Fits (lent_slots client ppn mpn (slots_of pmap tags)) c
    → slots_of c.pmap (slice_set tags ppn client) ≡ lent_slots client ppn mpn (slots_of pmap tags)
slots_lent c pmap tags client ppn mpn there fits =
    slots_set c pmap tags ppn client (Some (record { client = client; frame = mpn })) there (λ h e. sym (ap (λ (x : Option Holding). client_or x client) e)) fits

-- a page was lent, and its slot has the tag that it had
pub slots_tagged : (c : Shown) (pmap : Pmap) (tags : List ℕ) (tag ppn mpn : ℕ) → ppn < length tags → tag ≡ slice_index_or tags ppn 0
    → Fits (lent_slots tag ppn mpn (slots_of pmap tags)) c → slots_of c.pmap tags ≡ lent_slots tag ppn mpn (slots_of pmap tags)
slots_tagged c pmap tags tag ppn mpn there is fits =
    ap (slots_of c.pmap) (sym (ap (slice_set tags ppn) is ∙ set-get_or tags ppn 0)) ∙ slots_lent c pmap tags tag ppn mpn there fits

none_of : (tag : ℕ) (h : Holding) → None ≡ Some h → h.client ≡ tag
none_of tag h e = cc

pub slots_taken : (c : Shown) (pmap : Pmap) (tags : List ℕ) (ppn tag : ℕ) → ppn < length tags → Fits (slice_set (slots_of pmap tags) ppn None) c
    → slots_of c.pmap (slice_set tags ppn tag) ≡ slice_set (slots_of pmap tags) ppn None
slots_taken c pmap tags ppn tag there fits = slots_set c pmap tags ppn tag None there (λ h e. none_of tag h e) fits

none_in : (count n tag : ℕ) (h : Holding) → holding (replicate count None) n ≡ Some h → h.client ≡ tag
none_in zero n tag h e = none_of tag h e
none_in (suc count) zero tag h e = none_of tag h e
none_in (suc count) (suc n) tag h e = none_in count n tag h e

-- no slot is held yet
pub slots_new : (c : Shown) (tags : List ℕ) (count : ℕ) → length tags ≡ count → Fits (replicate count None) c → slots_of c.pmap tags ≡ replicate count None
slots_new c tags count size fits =
    slots_are c (replicate count None) tags fits (length-replicate {A = Option Holding} count None ∙ sym size) (λ n h e. none_in count n (slice_index_or tags n 0) h e)

-- how often a slot stands in a list
abbrev pub bit : Bool → ℕ
bit b = cond b 1 0

abbrev pub times : ℕ → List ℕ → ℕ
times q free = count_by (λ p. p == q) free

pub times_cons : (q n : ℕ) (free : List ℕ) → times q (n ∷ free) ≡ bit (n == q) + times q free
times_cons q n free = sum_by-cons (λ (p : ℕ). bit (p == q)) n free

-- there are as many free slots in a row as it says
pub chain_length : (tags : List ℕ) (first n : ℕ) → length (chain tags first n) ≡ n
chain_length tags first zero = refl
chain_length tags first (suc n) = ap suc (chain_length tags (next_free first (slice_index_or tags first 0)) n)

pub chain_first : (tags : List ℕ) (first n : ℕ) → 1 ≤ n → chain tags first n ≡ first ∷ chain tags (next_free first (slice_index_or tags first 0)) (n - 1)
chain_first tags first zero some = absurd (omega arith)
chain_first tags first (suc n) some = ap (λ (k : ℕ). first ∷ chain tags (next_free first (slice_index_or tags first 0)) k) (omega arith)

-- other tags make the same row, if they agree on each slot in it
pub chain_same : (tags after : List ℕ) (first n : ℕ) → ((q : ℕ) → 1 ≤ times q (chain tags first n) → slice_index_or after q 0 ≡ slice_index_or tags q 0) → chain after first n ≡ chain tags first n
chain_same tags after first zero agree = refl
chain_same tags after first (suc n) agree =
    let second : ℕ = next_free first (slice_index_or tags first 0) in
    let rest : List ℕ = chain tags second n in
    let tag : slice_index_or after first 0 ≡ slice_index_or tags first 0 = agree first (omega (arith, times_cons first first rest, ap bit (eq-eqb first first refl))) in
    ap (λ (k : ℕ). first ∷ chain after (next_free first k) n) tag
    ∙ ap (λ (l : List ℕ). first ∷ l) (chain_same tags after second n (λ q some. agree q (omega (arith, times_cons q first rest, some))))

-- such as where a slot outside of it has another tag
pub chain_set : (tags : List ℕ) (first n ppn tag : ℕ) → times ppn (chain tags first n) ≡ 0 → chain (slice_set tags ppn tag) first n ≡ chain tags first n
chain_set tags first n ppn tag none = chain_same tags (slice_set tags ppn tag) first n (λ q some. get_or-set_other tags ppn q tag 0 (λ e. apart q some e)) where
  apart : (q : ℕ) → 1 ≤ times q (chain tags first n) → q ≡ ppn → ⊥
  apart q some e = absurd (omega (arith, none, some, ap (λ (k : ℕ). times k (chain tags first n)) e))

-- a slot that was put before the first: its tag links that one, and is any if there is none
pub chain_more : (tags : List ℕ) (first n ppn tag m : ℕ) → ppn < length tags → times ppn (chain tags first n) ≡ 0 → (1 ≤ n → tag ≡ first + 1) → m ≡ n + 1
    → chain (slice_set tags ppn tag) ppn m ≡ ppn ∷ chain tags first n
chain_more tags first n ppn tag zero there none links is = absurd (omega (arith, is))
chain_more tags first zero ppn tag (suc k) there none links is =
    let after : List ℕ = slice_set tags ppn tag in
    let last : k ≡ 0 = omega (arith, is) in
    ap (λ (i : ℕ). ppn ∷ chain after (next_free ppn (slice_index_or after ppn 0)) i) last
chain_more tags first (suc n) ppn tag (suc k) there none links is =
    let after : List ℕ = slice_set tags ppn tag in
    let same : k ≡ suc n = omega (arith, is) in
    let linked : tag ≡ suc first = links (omega arith) ∙ omega arith in
    let next : next_free ppn (slice_index_or after ppn 0) ≡ first = ap (next_free ppn) (get_or-set_same tags ppn tag 0 there ∙ linked) in
    ap (λ (i : ℕ). ppn ∷ chain after i k) next
    ∙ ap (λ (i : ℕ). ppn ∷ chain after first i) same ∙ ap (λ (l : List ℕ). ppn ∷ l) (chain_set tags first (suc n) ppn tag none)

-- tags of 0 link each slot to the one beside it
next_bit : (i q : ℕ) → bit (i == q) + bit (nat_lt q i) ≡ bit (nat_lt q (i + 1))
next_bit i q = pick (cases_eq i q) where
  pick : ((i ≡ q) ⊎ (i ≡ q → ⊥)) → bit (i == q) + bit (nat_lt q i) ≡ bit (nat_lt q (i + 1))
  pick (inl e) = omega (arith, ap bit (le-ltb q i (omega arith)), ap bit (eq-eqb i q e), ap bit (lt-ltb q (i + 1) (omega arith)))
  pick (inr n) = omega (arith, ap bit (ne_eqb i q n)) ∙ less (cases_lt q i) where
    less : ((q < i) ⊎ (i ≤ q)) → bit (nat_lt q i) ≡ bit (nat_lt q (i + 1))
    less (inl l) = ap bit (lt-ltb q i l) ∙ sym (ap bit (lt-ltb q (i + 1) (omega arith)))
    less (inr l) = ap bit (le-ltb q i l) ∙ sym (ap bit (le-ltb q (i + 1) (omega (arith, l, n))))

pub zeros : (n m : ℕ) → let z : ℕ = 0 in slice_index_or (replicate n z) m z ≡ z
zeros zero m = refl
zeros (suc n) zero = refl
zeros (suc n) (suc m) = zeros n m

chain_up : (count first n q : ℕ) → times q (chain (replicate count 0) first n) + bit (nat_lt q first) ≡ bit (nat_lt q (first + n))
chain_up count first zero q = omega (arith, ap (λ (k : ℕ). bit (nat_lt q k)) (plus_none first)) where
  plus_none : (k : ℕ) → k ≡ k + 0
  plus_none k = omega arith
chain_up count first (suc n) q =
    let rest : List ℕ = chain (replicate count 0) (first + 1) n in
    let begins : chain (replicate count 0) first (suc n) ≡ first ∷ rest = ap (λ (k : ℕ). first ∷ chain (replicate count 0) (next_free first k) n) (zeros count first) in
    let end : first + 1 + n ≡ first + suc n = omega arith in
    omega (arith, ap (times q) begins, times_cons q first rest, next_bit first q, chain_up count (first + 1) n q, ap (λ (k : ℕ). bit (nat_lt q k)) end)

-- so all slots are in a row from the first on, each of them once
pub chain_new : (count q : ℕ) → times q (chain (replicate count 0) 0 count) ≡ bit (nat_lt q count)
chain_new count q =
    let all : 0 + count ≡ count = omega arith in
    omega (arith, chain_up count 0 count q, ap bit (le-ltb q 0 (omega arith)), ap (λ (k : ℕ). bit (nat_lt q k)) all)
