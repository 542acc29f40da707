-- A client's message that is spelled is read again, and one that is read was spelled so.
use Rattle.std.proofs.Common.{◌≡◌, ◌⊎◌, ℕ, ◌+◌, ◌*◌, ◌%◌, ◌^◌, ◌<◌, ◌≤◌, Bool, true, false, cond, not, eqb, ltb, List, [], ◌∷◌, ◌++◌, length, take, drop, Some, None, Result, Ok, Err, refl, sym, ap, subst, ◌∙◌, append_assoc, arith, inl, inr}
use Rattle.std.specs.Prelude.{IfOk}
use Rattle.std.specs.Int.{w32, w64, from_le_bytes, to_le_bytes}
use Rattle.std.specs.List.{flat_map}
use Rattle.std.proofs.lemmas.Bool.{ltb-true, ltb-false, lt-ltb, le-ltb, eqb-true, eq-eqb}
use Rattle.std.proofs.lemmas.List.{length-append, length-drop, length-take, take-append-drop, append-nil, nil_from_length, take_at, drop_at}
use Rattle.std.proofs.lemmas.Nat.{from_le_bytes-to_le_bytes_4, from_le_bytes-to_le_bytes_8}
use Rattle.host_messages.specs.declared.limits.TheConstants.{VERSION, MAX_IN_MESSAGE, HEAD_BYTES, WANTED_BYTES, PASSING, HELLO, ASK, LEND, RELEASE}
use Rattle.host_messages.specs.declared.fault.MessageFault.{MessageFault}
use Rattle.host_messages.specs.declared.fault.MessageFault.TheVariants as fault
use Rattle.host_messages.specs.declared.item.Question.{Question}
use Rattle.host_messages.specs.declared.item.Lent.{Lent}
use Rattle.host_messages.specs.declared.client.Wanted.{Wanted}
use Rattle.host_messages.specs.declared.client.ClientMessage.{ClientMessage}
use Rattle.host_messages.specs.declared.client.ClientMessage.TheVariants as client
use Rattle.host_messages.specs.Spelling.{head, question_bytes, slot_bytes, wanted_bytes, client_bytes, FitsU64, QuestionFits, WantedFits, ClientFits}
use Rattle.host_messages.specs.Reading.{u32_at, u64_at, question_at, slot_at, items_at, count_fault, unless, hello_of, ask_of, lend_of, release_of, client_of, client_at}
use Rattle.host_messages.proofs.Items.{IsBytes, IsBytes-drop, IsItem, items_again, items_len, items_back, items_count, le4_back, le8_back, u64_below, take_last}

-- ---- tests

pub chosen : {X : Type 0} (b : Bool) (x y z : X) → cond b x y ≡ z → ((b ≡ true) × (x ≡ z)) ⊎ ((b ≡ false) × (y ≡ z))
chosen true x y z e = inl (refl, e)
chosen false x y z e = inr (refl, e)

abbrev pub done : {A : Type 0} → A → Result A MessageFault
done x = Ok x

-- a test that did not fail
pub passed : {A : Type 0} (b : Bool) (f : MessageFault) (x : Result A MessageFault) (y : A) → cond b (Err f) x ≡ done y → (b ≡ false) × (x ≡ done y)
passed true f x y e = absurd cc
passed false f x y e = (refl, e)

pub is_wrong : {A : Type 0} (f : MessageFault) (y : A) → Err f ≡ done y → ⊥
is_wrong f y e = absurd cc

pub ok_is : {A : Type 0} (x y : A) → done x ≡ done y → x ≡ y
ok_is x y e = cc

-- ---- counts

pub count_none : (width count len : ℕ) → count ≤ MAX_IN_MESSAGE → len ≡ count * width → count_fault width count len ≡ None
count_none width count len few all = rw (le-ltb MAX_IN_MESSAGE count few, eq-eqb len (count * width) all) refl

pub record Counted {M : Type 0} (width count len : ℕ) (x y : M) : Type 0 where
  pub few : count ≤ MAX_IN_MESSAGE
  pub all : len ≡ count * width
  pub same : x ≡ y

pub counted_by : {M : Type 0} (width count len : ℕ) (x y : M) (b c : Bool) → b ≡ ltb MAX_IN_MESSAGE count → c ≡ eqb len (count * width)
    → unless (cond b (Some fault.Count) (cond c None (Some fault.Length))) x ≡ done y → Counted width count len x y
counted_by width count len x y true c p q e = absurd (is_wrong fault.Count y e)
counted_by width count len x y false true p q e = record { few = ltb-false MAX_IN_MESSAGE count (sym p); all = eqb-true len (count * width) (sym q); same = ok_is x y e }
counted_by width count len x y false false p q e = absurd (is_wrong fault.Length y e)

pub counted : {M : Type 0} (width count len : ℕ) (x y : M) → unless (count_fault width count len) x ≡ done y → Counted width count len x y
counted width count len x y e = counted_by width count len x y (ltb MAX_IN_MESSAGE count) (eqb len (count * width)) refl refl e

-- ---- items

abbrev question : ℕ → ℕ → Bool → Question
question page fingerprint is_passing = record { page = page; fingerprint = fingerprint; is_passing = is_passing }

-- the word of a page's number, and whether its question isn't to be noted
abbrev word : ℕ → Bool → ℕ
word page passing = cond passing (page % PASSING + PASSING) (page % PASSING)

word_page : (page : ℕ) (passing : Bool) → page < PASSING → word page passing % PASSING ≡ page
word_page page true lt = omega (arith, lt)
word_page page false lt = omega (arith, lt)

word_flag : (page : ℕ) (passing : Bool) → page < PASSING → not (ltb (word page passing) PASSING) ≡ passing
word_flag page true lt = ap not (le-ltb (word page true) PASSING (omega (arith, lt)))
word_flag page false lt = ap not (lt-ltb (word page false) PASSING (omega (arith, lt)))

word_below : (page : ℕ) (passing : Bool) → page < PASSING → word page passing < 2 ^ 64
word_below page true lt = omega (arith, lt)
word_below page false lt = omega (arith, lt)

word_back_by : (n : ℕ) (b : Bool) → n < 2 ^ 64 → ltb n PASSING ≡ b → word (n % PASSING) (not b) ≡ n
word_back_by n true lt e = omega (arith, ltb-true n PASSING e)
word_back_by n false lt e = omega (arith, lt, ltb-false n PASSING e)

word_back : (n : ℕ) → n < 2 ^ 64 → word (n % PASSING) (not (ltb n PASSING)) ≡ n
word_back n lt = word_back_by n (ltb n PASSING) lt refl

abbrev pub lent : ℕ → ℕ → ℕ → Lent
lent slot frame sharers = record { slot = slot; frame = frame; sharers = sharers }

pub question_item : IsItem 16 question_bytes question_at QuestionFits
question_item = record {
  wide = λ q. refl;
  again = λ q fits.
      let w = word q.page q.is_passing in
      let p : u64_at 0 (question_bytes q) ≡ w = from_le_bytes-to_le_bytes_8 w (word_below q.page q.is_passing fits.page) in
      let f : u64_at 8 (question_bytes q) ≡ q.fingerprint = from_le_bytes-to_le_bytes_8 q.fingerprint fits.fingerprint in
      ap (λ (n : ℕ). question (n % PASSING) (u64_at 8 (question_bytes q)) (not (ltb n PASSING))) p
      ∙ ap (λ (n : ℕ). question (w % PASSING) n (not (ltb w PASSING))) f
      ∙ ap (λ (n : ℕ). question n q.fingerprint (not (ltb w PASSING))) (word_page q.page q.is_passing fits.page)
      ∙ ap (λ (b : Bool). question q.page q.fingerprint b) (word_flag q.page q.is_passing fits.page);
  back = λ bytes len are.
      let n = u64_at 0 bytes in
      let p : to_le_bytes w64 (word (n % PASSING) (not (ltb n PASSING))) ≡ take 8 bytes = ap (λ (k : ℕ). to_le_bytes w64 k) (word_back n (u64_below bytes are)) ∙ le8_back bytes (omega (arith, len)) are in
      let f : to_le_bytes w64 (u64_at 8 bytes) ≡ drop 8 bytes = le8_back (drop 8 bytes) (omega (arith, len, length-drop 8 bytes)) (IsBytes-drop 8 bytes are) ∙ take_last 8 8 bytes len in
      ap (λ (x : List ℕ). x ++ to_le_bytes w64 (u64_at 8 bytes)) p ∙ ap (λ (x : List ℕ). take 8 bytes ++ x) f ∙ take-append-drop 8 bytes;
  below = λ bytes len are. record { page = omega arith; fingerprint = u64_below (drop 8 bytes) (IsBytes-drop 8 bytes are) };
}

pub slot_item : IsItem 8 slot_bytes slot_at FitsU64
slot_item = record {
  wide = λ s. refl;
  again = λ s fits. from_le_bytes-to_le_bytes_8 s fits;
  back = λ bytes len are. le8_back bytes (omega (arith, len)) are ∙ take_last 8 0 bytes len;
  below = λ bytes len are. u64_below bytes are;
}

-- ---- heads

pub head_back : (bytes : List ℕ) → 8 ≤ length bytes → IsBytes bytes → head (u32_at 0 bytes) (u32_at 4 bytes) ++ drop 8 bytes ≡ bytes
head_back bytes long are =
    let k : to_le_bytes w32 (u32_at 0 bytes) ≡ take 4 bytes = le4_back bytes (omega (arith, long)) are in
    let n : to_le_bytes w32 (u32_at 4 bytes) ≡ take 4 (drop 4 bytes) = le4_back (drop 4 bytes) (omega (arith, long, length-drop 4 bytes)) (IsBytes-drop 4 bytes are) in
    let d : drop 4 (drop 4 bytes) ≡ drop 8 bytes = drop_drop_4 bytes in
    append_assoc (to_le_bytes w32 (u32_at 0 bytes)) (to_le_bytes w32 (u32_at 4 bytes)) (drop 8 bytes)
    ∙ ap (λ (x : List ℕ). x ++ (to_le_bytes w32 (u32_at 4 bytes) ++ drop 8 bytes)) k
    ∙ ap (λ (x : List ℕ). take 4 bytes ++ (x ++ drop 8 bytes)) n
    ∙ ap (λ (x : List ℕ). take 4 bytes ++ (take 4 (drop 4 bytes) ++ x)) (sym d)
    ∙ ap (λ (x : List ℕ). take 4 bytes ++ x) (take-append-drop 4 (drop 4 bytes))
    ∙ take-append-drop 4 bytes
  where
    drop_drop_4 : (xs : List ℕ) → drop 4 (drop 4 xs) ≡ drop 8 xs
    drop_drop_4 [] = refl
    drop_drop_4 (a ∷ []) = refl
    drop_drop_4 (a ∷ b ∷ []) = refl
    drop_drop_4 (a ∷ b ∷ c ∷ []) = refl
    drop_drop_4 (a ∷ b ∷ c ∷ d ∷ xs) = refl

pub client_head : (kind number : ℕ) (rest : List ℕ) → kind < 2 ^ 32 → number < 2 ^ 32 → client_at (head kind number ++ rest) ≡ client_of kind number rest
unfolding client_at
client_head kind number rest k n =
    let long : ltb (length (head kind number ++ rest)) HEAD_BYTES ≡ false = le-ltb _ _ (omega (arith, length-append (head kind number) rest)) in
    let kind-is : u32_at 0 (head kind number ++ rest) ≡ kind = from_le_bytes-to_le_bytes_4 kind k in
    let number-is : u32_at 4 (head kind number ++ rest) ≡ number = from_le_bytes-to_le_bytes_4 number n in
    ap (λ (b : Bool). cond b (Err fault.Head) (client_of (u32_at 0 (head kind number ++ rest)) (u32_at 4 (head kind number ++ rest)) rest)) long
    ∙ ap (λ (x : ℕ). client_of x (u32_at 4 (head kind number ++ rest)) rest) kind-is
    ∙ ap (λ (x : ℕ). client_of kind x rest) number-is

abbrev wanted_of : List ℕ → ℕ → Wanted
wanted_of name loans = record { name = name; loans = loans }

-- ---- what was spelled is read

wanted_again : (w : Wanted) → WantedFits w → hello_of VERSION (wanted_bytes w) ≡ Ok (client.Hello (Some w))
unfolding hello_of
wanted_again w fits =
    let l = to_le_bytes w64 w.loans in
    let x : List ℕ = w.name ++ l in
    let len : length x ≡ 24 = omega (arith, length-append w.name l, fits.name) in
    let d16 : drop 16 x ≡ l = drop_at w.name l 16 fits.name in
    let loans-is : u64_at 16 x ≡ w.loans = ap (λ (y : List ℕ). from_le_bytes w64 y) d16 ∙ from_le_bytes-to_le_bytes_8 w.loans fits.loans in
    ap (λ (b : Bool). cond b (done (client.Hello None)) (cond (not (eqb (length x) 24)) (Err fault.Length) (done (client.Hello (Some (wanted_of (take 16 x) (u64_at 16 x))))))) (eqb_less (length x) len)
    ∙ ap (λ (b : Bool). cond (not b) (Err fault.Length) (done (client.Hello (Some (wanted_of (take 16 x) (u64_at 16 x)))))) (eq-eqb (length x) 24 len)
    ∙ ap (λ (n : List ℕ). done (client.Hello (Some (wanted_of n (u64_at 16 x))))) (take_at w.name l 16 fits.name)
    ∙ ap (λ (n : ℕ). done (client.Hello (Some (wanted_of w.name n)))) loans-is
  where
    eqb_less : (n : ℕ) → n ≡ 24 → eqb n 0 ≡ false
    eqb_less n e = rw e refl

pub client_again : (m : ClientMessage) → ClientFits m → client_at (client_bytes m) ≡ Ok m
unfolding hello_of ask_of lend_of release_of
client_again (client.Hello None) fits = ap client_at (sym (append-nil (head HELLO VERSION))) ∙ client_head HELLO VERSION [] (omega arith) (omega arith)
client_again (client.Hello (Some wanted)) fits =
    client_head HELLO VERSION (wanted_bytes wanted) (omega arith) (omega arith) ∙ wanted_again wanted fits
client_again (client.Ask questions) fits =
    let items : items_at 16 question_at (length questions.items) (flat_map question_bytes questions.items) ≡ questions.items = items_again 16 question_bytes question_at QuestionFits question_item questions.items fits.1 in
    let none = count_none 16 (length questions.items) (length (flat_map question_bytes questions.items)) fits.0 (items_len 16 question_bytes question_at QuestionFits question_item questions.items) in
    client_head ASK (length questions.items) (flat_map question_bytes questions.items) (omega arith) (omega (arith, fits.0)) ∙ rw (none, items) refl
client_again (client.Lend count) fits =
    ap client_at (sym (append-nil (head LEND count))) ∙ client_head LEND count [] (omega arith) (omega (arith, fits)) ∙ rw (count_none 0 count 0 fits (omega arith)) refl
client_again (client.Release slots) fits =
    let items : items_at 8 slot_at (length slots.items) (flat_map slot_bytes slots.items) ≡ slots.items = items_again 8 slot_bytes slot_at FitsU64 slot_item slots.items fits.1 in
    let none = count_none 8 (length slots.items) (length (flat_map slot_bytes slots.items)) fits.0 (items_len 8 slot_bytes slot_at FitsU64 slot_item slots.items) in
    client_head RELEASE (length slots.items) (flat_map slot_bytes slots.items) (omega arith) (omega (arith, fits.0)) ∙ rw (none, items) refl

-- ---- what is read was spelled so

pub record SpelledAs (m : ClientMessage) (bytes : List ℕ) : Type 0 where
  pub fits : ClientFits m
  pub same : client_bytes m ≡ bytes

wanted_same : (rest : List ℕ) → length rest ≡ 24 → IsBytes rest → wanted_bytes (wanted_of (take 16 rest) (u64_at 16 rest)) ≡ rest
wanted_same rest len are =
    let l : to_le_bytes w64 (u64_at 16 rest) ≡ drop 16 rest = le8_back (drop 16 rest) (omega (arith, len, length-drop 16 rest)) (IsBytes-drop 16 rest are) ∙ take_last 8 16 rest len in
    ap (λ (x : List ℕ). take 16 rest ++ x) l ∙ take-append-drop 16 rest

hello_back : (version : ℕ) (rest : List ℕ) (m : ClientMessage) → IsBytes rest → hello_of version rest ≡ done m → SpelledAs m (head HELLO version ++ rest)
unfolding hello_of
hello_back version rest m are e =
    let w : Wanted = wanted_of (take 16 rest) (u64_at 16 rest) in
    let a = passed (not (eqb version VERSION)) fault.Version (cond (eqb (length rest) 0) (Ok (client.Hello None)) (cond (not (eqb (length rest) WANTED_BYTES)) (Err fault.Length) (Ok (client.Hello (Some w))))) m e in
    let v : version ≡ VERSION = eqb-true version VERSION (not_false (eqb version VERSION) a.0) in
    elim (chosen (eqb (length rest) 0) (Ok (client.Hello None)) (cond (not (eqb (length rest) WANTED_BYTES)) (Err fault.Length) (Ok (client.Hello (Some w)))) (done m) a.1) [
      | inl p ↦
          let nothing : rest ≡ [] = nil_from_length rest (eqb-true (length rest) 0 p.0) in
          subst (λ (x : ClientMessage). SpelledAs x (head HELLO version ++ rest)) (ok_is (client.Hello None) m p.1)
          (record { fits = tt; same = rw (v, nothing) refl })
      | inr p ↦
          let b = passed (not (eqb (length rest) WANTED_BYTES)) fault.Length (Ok (client.Hello (Some w))) m p.1 in
          let len : length rest ≡ 24 = eqb-true (length rest) WANTED_BYTES (not_false (eqb (length rest) WANTED_BYTES) b.0) in
          subst (λ (x : ClientMessage). SpelledAs x (head HELLO version ++ rest)) (ok_is (client.Hello (Some w)) m b.1) (record {
            fits = record { name = omega (arith, length-take 16 rest, len); loans = u64_below (drop 16 rest) (IsBytes-drop 16 rest are) };
            same = ap (λ (x : List ℕ). head HELLO VERSION ++ x) (wanted_same rest len are) ∙ ap (λ (n : ℕ). head HELLO n ++ rest) (sym v);
          })
    ]
  where
    not_false : (b : Bool) → not b ≡ false → b ≡ true
    not_false true e = refl
    not_false false e = absurd cc

ask_back : (count : ℕ) (rest : List ℕ) (m : ClientMessage) → IsBytes rest → ask_of count rest ≡ done m → SpelledAs m (head ASK count ++ rest)
unfolding ask_of
ask_back count rest m are e =
    let c = counted 16 count (length rest) (client.Ask (record { items = items_at 16 question_at count rest })) m e in
    let n : length (items_at 16 question_at count rest) ≡ count = items_count 16 question_at count rest in
    let back = items_back 16 question_bytes question_at QuestionFits question_item count rest c.all are in
    subst (λ (x : ClientMessage). SpelledAs x (head ASK count ++ rest)) c.same (record {
      fits = (omega (arith, n, c.few), back.fit);
      same = ap (λ (k : ℕ). head ASK k ++ flat_map question_bytes (items_at 16 question_at count rest)) n ∙ ap (λ (x : List ℕ). head ASK count ++ x) back.same;
    })

lend_back : (count : ℕ) (rest : List ℕ) (m : ClientMessage) → lend_of count rest ≡ done m → SpelledAs m (head LEND count ++ rest)
unfolding lend_of
lend_back count rest m e =
    let c = counted 0 count (length rest) (client.Lend count) m e in
    let nothing : rest ≡ [] = nil_from_length rest (omega (arith, c.all)) in
    subst (λ (x : ClientMessage). SpelledAs x (head LEND count ++ rest)) c.same (record { fits = c.few; same = rw nothing (sym (append-nil (head LEND count))) })

release_back : (count : ℕ) (rest : List ℕ) (m : ClientMessage) → IsBytes rest → release_of count rest ≡ done m → SpelledAs m (head RELEASE count ++ rest)
unfolding release_of
release_back count rest m are e =
    let c = counted 8 count (length rest) (client.Release (record { items = items_at 8 slot_at count rest })) m e in
    let n : length (items_at 8 slot_at count rest) ≡ count = items_count 8 slot_at count rest in
    let back = items_back 8 slot_bytes slot_at FitsU64 slot_item count rest c.all are in
    subst (λ (x : ClientMessage). SpelledAs x (head RELEASE count ++ rest)) c.same (record {
      fits = (omega (arith, n, c.few), back.fit);
      same = ap (λ (k : ℕ). head RELEASE k ++ flat_map slot_bytes (items_at 8 slot_at count rest)) n ∙ ap (λ (x : List ℕ). head RELEASE count ++ x) back.same;
    })

client_of_back : (kind number : ℕ) (rest : List ℕ) (m : ClientMessage) → IsBytes rest → client_of kind number rest ≡ done m → SpelledAs m (head kind number ++ rest)
client_of_back kind number rest m are e =
    elim (chosen (eqb kind HELLO) (hello_of number rest) (cond (eqb kind ASK) (ask_of number rest) (cond (eqb kind LEND) (lend_of number rest) (cond (eqb kind RELEASE) (release_of number rest) (Err fault.Kind)))) (done m) e) [
      | inl p ↦ subst (λ (k : ℕ). SpelledAs m (head k number ++ rest)) (sym (eqb-true kind HELLO p.0)) (hello_back number rest m are p.1)
      | inr p ↦ elim (chosen (eqb kind ASK) (ask_of number rest) (cond (eqb kind LEND) (lend_of number rest) (cond (eqb kind RELEASE) (release_of number rest) (Err fault.Kind))) (done m) p.1) [
        | inl q ↦ subst (λ (k : ℕ). SpelledAs m (head k number ++ rest)) (sym (eqb-true kind ASK q.0)) (ask_back number rest m are q.1)
        | inr q ↦ elim (chosen (eqb kind LEND) (lend_of number rest) (cond (eqb kind RELEASE) (release_of number rest) (Err fault.Kind)) (done m) q.1) [
          | inl r ↦ subst (λ (k : ℕ). SpelledAs m (head k number ++ rest)) (sym (eqb-true kind LEND r.0)) (lend_back number rest m r.1)
          | inr r ↦ elim (chosen (eqb kind RELEASE) (release_of number rest) (Err fault.Kind) (done m) r.1) [
            | inl s ↦ subst (λ (k : ℕ). SpelledAs m (head k number ++ rest)) (sym (eqb-true kind RELEASE s.0)) (release_back number rest m are s.1)
            | inr s ↦ absurd (is_wrong fault.Kind m s.1)
          ]
        ]
      ]
    ]

client_back : (bytes : List ℕ) (m : ClientMessage) → IsBytes bytes → client_at bytes ≡ done m → SpelledAs m bytes
unfolding client_at
client_back bytes m are e =
    let a = passed (ltb (length bytes) HEAD_BYTES) fault.Head (client_of (u32_at 0 bytes) (u32_at 4 bytes) (drop HEAD_BYTES bytes)) m e in
    let long : 8 ≤ length bytes = ltb-false (length bytes) HEAD_BYTES a.0 in
    subst (λ (x : List ℕ). SpelledAs m x) (head_back bytes long are) (client_of_back (u32_at 0 bytes) (u32_at 4 bytes) (drop 8 bytes) m (IsBytes-drop 8 bytes are) a.1)

pub client_found : (bytes : List ℕ) (r : Result ClientMessage MessageFault) → IsBytes bytes → r ≡ client_at bytes → IfOk r (λ m. ClientFits m × (client_bytes m ≡ bytes))
client_found bytes (Ok m) are e = let s = client_back bytes m are (sym e) in (s.fits, s.same)
client_found bytes (Err f) are e = tt
