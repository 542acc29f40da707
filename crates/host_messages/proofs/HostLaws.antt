-- A host's message that is spelled is read again, and one that is read was spelled so.
use Rattle.std.proofs.Common.{◌≡◌, ℕ, zero, suc, ◌*◌, ◌^◌, ◌<◌, ◌≤◌, Bool, true, false, ◌||◌, cond, not, eqb, ltb, List, [], ◌∷◌, ◌++◌, length, map, take, drop, Some, None, Result, Ok, Err, refl, sym, ap, subst, ◌∙◌, append_assoc, arith, inl, inr}
use Rattle.std.specs.Prelude.{IfOk}
use Rattle.std.specs.Int.{w32, w64, from_le_bytes, to_le_bytes}
use Rattle.std.specs.List.{flat_map, list_any}
use Rattle.std.proofs.lemmas.Bool.{ltb-false, le-ltb, eqb-true, eq-eqb, not-false}
use Rattle.std.proofs.lemmas.List.{length-append, length-drop, length-take, length-map, take-append-drop, take_at, drop_at}
use Rattle.std.proofs.lemmas.Nat.{from_le_bytes-to_le_bytes_4, from_le_bytes-to_le_bytes_8}
use Rattle.host_messages.specs.declared.limits.TheConstants.{VERSION, MAX_IN_MESSAGE, HEAD_BYTES, WELCOME, SEEN, LOANS}
use Rattle.host_messages.specs.declared.fault.MessageFault.{MessageFault}
use Rattle.host_messages.specs.declared.fault.MessageFault.TheVariants as fault
use Rattle.host_messages.specs.declared.host.Welcome.{Welcome}
use Rattle.host_messages.specs.declared.host.HostMessage.{HostMessage}
use Rattle.host_messages.specs.declared.host.HostMessage.TheVariants as host
use Rattle.host_messages.specs.Spelling.{head, lent_bytes, LentFits}
use Rattle.host_messages.specs.Reading.{u32_at, u64_at, lent_at, items_at}
use Rattle.host_messages.specs.HostSpelling.{answer_byte, welcome_bytes, host_bytes, WelcomeFits, HostFits}
use Rattle.host_messages.specs.HostReading.{is_no_answer, answer_of, answers_of, unless_at, welcome_of, seen_of, loans_of, host_of, host_at}
use Rattle.host_messages.proofs.Items.{IsBytes, IsBytes-drop, IsItem, items_again, items_len, items_back, items_count, le4_back, le8_back, u32_below, u64_below, take_last, drop_more}
use Rattle.host_messages.proofs.Laws.{chosen, done, passed, is_wrong, ok_is, count_none, counted, head_back, lent}

-- ---- loans

lent_back : (bytes : List ℕ) → length bytes ≡ 16 → IsBytes bytes → lent_bytes (lent_at bytes) ≡ bytes
lent_back bytes len are =
    let s : to_le_bytes w64 (u64_at 0 bytes) ≡ take 8 bytes = le8_back bytes (omega (arith, len)) are in
    let f : to_le_bytes w32 (u32_at 8 bytes) ≡ take 4 (drop 8 bytes) = le4_back (drop 8 bytes) (omega (arith, len, length-drop 8 bytes)) (IsBytes-drop 8 bytes are) in
    let h : to_le_bytes w32 (u32_at 12 bytes) ≡ drop 12 bytes = le4_back (drop 12 bytes) (omega (arith, len, length-drop 12 bytes)) (IsBytes-drop 12 bytes are) ∙ take_last 4 12 bytes len in
    ap (λ (x : List ℕ). x ++ to_le_bytes w32 (u32_at 8 bytes) ++ to_le_bytes w32 (u32_at 12 bytes)) s
    ∙ ap (λ (x : List ℕ). take 8 bytes ++ x ++ to_le_bytes w32 (u32_at 12 bytes)) f
    ∙ ap (λ (x : List ℕ). take 8 bytes ++ take 4 (drop 8 bytes) ++ x) h
    ∙ append_assoc (take 8 bytes) (take 4 (drop 8 bytes)) (drop 12 bytes)
    ∙ ap (λ (x : List ℕ). take 8 bytes ++ (take 4 (drop 8 bytes) ++ x)) (sym (drop_more 8 4 bytes))
    ∙ ap (λ (x : List ℕ). take 8 bytes ++ x) (take-append-drop 4 (drop 8 bytes))
    ∙ take-append-drop 8 bytes

pub lent_item : IsItem 16 lent_bytes lent_at LentFits
lent_item = record {
  wide = λ l. refl;
  again = λ l fits.
      let s : u64_at 0 (lent_bytes l) ≡ l.slot = from_le_bytes-to_le_bytes_8 l.slot fits.slot in
      let f : u32_at 8 (lent_bytes l) ≡ l.frame = from_le_bytes-to_le_bytes_4 l.frame fits.frame in
      let h : u32_at 12 (lent_bytes l) ≡ l.sharers = from_le_bytes-to_le_bytes_4 l.sharers fits.sharers in
      ap (λ (n : ℕ). lent n (u32_at 8 (lent_bytes l)) (u32_at 12 (lent_bytes l))) s ∙ ap (λ (n : ℕ). lent l.slot n (u32_at 12 (lent_bytes l))) f ∙ ap (λ (n : ℕ). lent l.slot l.frame n) h;
  back = λ bytes len are. lent_back bytes len are;
  below = λ bytes len are. record { slot = u64_below bytes are; frame = u32_below (drop 8 bytes) (IsBytes-drop 8 bytes are); sharers = u32_below (drop 12 bytes) (IsBytes-drop 12 bytes are) };
}

-- ---- answers

bytes_again : (answers : List Bool) → list_any is_no_answer (map answer_byte answers) ≡ false
bytes_again [] = refl
bytes_again (true ∷ answers) = bytes_again answers
bytes_again (false ∷ answers) = bytes_again answers

answers_again : (answers : List Bool) → map answer_of (map answer_byte answers) ≡ answers
answers_again [] = refl
answers_again (true ∷ answers) = ap (λ (x : List Bool). true ∷ x) (answers_again answers)
answers_again (false ∷ answers) = ap (λ (x : List Bool). false ∷ x) (answers_again answers)

or_left : (x y : Bool) → (x || y) ≡ false → x ≡ false
or_left false y e = refl
or_left true y e = absurd cc

answers_back : (bytes : List ℕ) → list_any is_no_answer bytes ≡ false → map answer_byte (map answer_of bytes) ≡ bytes
answers_back [] e = refl
answers_back (zero ∷ bytes) e = ap (λ (x : List ℕ). 0 ∷ x) (answers_back bytes e)
answers_back (suc zero ∷ bytes) e = ap (λ (x : List ℕ). 1 ∷ x) (answers_back bytes e)
answers_back (suc (suc b) ∷ bytes) e = absurd (omega (arith, ltb-false 1 (suc (suc b)) (or_left (ltb 1 (suc (suc b))) (list_any is_no_answer bytes) e)))

-- ---- heads

pub host_head : (kind number : ℕ) (rest : List ℕ) → kind < 2 ^ 32 → number < 2 ^ 32 → host_at (head kind number ++ rest) ≡ host_of kind number rest
unfolding host_at
host_head kind number rest k n =
    let long : ltb (length (head kind number ++ rest)) HEAD_BYTES ≡ false = le-ltb _ _ (omega (arith, length-append (head kind number) rest)) in
    let kind-is : u32_at 0 (head kind number ++ rest) ≡ kind = from_le_bytes-to_le_bytes_4 kind k in
    let number-is : u32_at 4 (head kind number ++ rest) ≡ number = from_le_bytes-to_le_bytes_4 number n in
    ap (λ (b : Bool). cond b (Err fault.Head) (host_of (u32_at 0 (head kind number ++ rest)) (u32_at 4 (head kind number ++ rest)) rest)) long
    ∙ ap (λ (x : ℕ). host_of x (u32_at 4 (head kind number ++ rest)) rest) kind-is
    ∙ ap (λ (x : ℕ). host_of kind x rest) number-is

abbrev welcome : List ℕ → ℕ → ℕ → ℕ → ℕ → Welcome
welcome name frames salt most client_cpu = record { name = name; frames = frames; salt = salt; most = most; client_cpu = client_cpu }

-- ---- the welcome

welcome_again : (w : Welcome) → WelcomeFits w → welcome_of VERSION (welcome_bytes w) ≡ Ok (host.Welcome w)
unfolding welcome_of
welcome_again w fits =
    let f = to_le_bytes w32 w.frames in
    let s = to_le_bytes w32 w.salt in
    let m = to_le_bytes w32 w.most in
    let c = to_le_bytes w32 w.client_cpu in
    let rest : List ℕ = f ++ (s ++ (m ++ c)) in
    let x : List ℕ = w.name ++ rest in
    let regrouped : welcome_bytes w ≡ x = append_assoc (w.name ++ f ++ s) m c ∙ append_assoc (w.name ++ f) s (m ++ c) ∙ append_assoc w.name f (s ++ (m ++ c)) in
    let len : length x ≡ 32 = omega (arith, length-append w.name rest, fits.name) in
    let d16 : drop 16 x ≡ rest = drop_at w.name rest 16 fits.name in
    let d20 : drop 20 x ≡ s ++ (m ++ c) = sym (drop_more 16 4 x) ∙ ap (λ (y : List ℕ). drop 4 y) d16 in
    let d24 : drop 24 x ≡ m ++ c = sym (drop_more 16 8 x) ∙ ap (λ (y : List ℕ). drop 8 y) d16 in
    let d28 : drop 28 x ≡ c = sym (drop_more 16 12 x) ∙ ap (λ (y : List ℕ). drop 12 y) d16 in
    let frames-is : u32_at 16 x ≡ w.frames = ap (λ (y : List ℕ). from_le_bytes w32 y) d16 ∙ from_le_bytes-to_le_bytes_4 w.frames fits.frames in
    let salt-is : u32_at 20 x ≡ w.salt = ap (λ (y : List ℕ). from_le_bytes w32 y) d20 ∙ from_le_bytes-to_le_bytes_4 w.salt fits.salt in
    let most-is : u32_at 24 x ≡ w.most = ap (λ (y : List ℕ). from_le_bytes w32 y) d24 ∙ from_le_bytes-to_le_bytes_4 w.most fits.most in
    let cpu-is : u32_at 28 x ≡ w.client_cpu = ap (λ (y : List ℕ). from_le_bytes w32 y) d28 ∙ from_le_bytes-to_le_bytes_4 w.client_cpu fits.client_cpu in
    ap (welcome_of VERSION) regrouped
    ∙ ap (λ (b : Bool). cond (not b) (Err fault.Length) (done (host.Welcome (welcome (take 16 x) (u32_at 16 x) (u32_at 20 x) (u32_at 24 x) (u32_at 28 x))))) (eq-eqb (length x) 32 len)
    ∙ ap (λ (n : List ℕ). done (host.Welcome (welcome n (u32_at 16 x) (u32_at 20 x) (u32_at 24 x) (u32_at 28 x)))) (take_at w.name rest 16 fits.name)
    ∙ ap (λ (n : ℕ). done (host.Welcome (welcome w.name n (u32_at 20 x) (u32_at 24 x) (u32_at 28 x)))) frames-is
    ∙ ap (λ (n : ℕ). done (host.Welcome (welcome w.name w.frames n (u32_at 24 x) (u32_at 28 x)))) salt-is
    ∙ ap (λ (n : ℕ). done (host.Welcome (welcome w.name w.frames w.salt n (u32_at 28 x)))) most-is
    ∙ ap (λ (n : ℕ). done (host.Welcome (welcome w.name w.frames w.salt w.most n))) cpu-is

host_bytes_back : (rest : List ℕ) → length rest ≡ 32 → IsBytes rest → welcome_bytes (welcome (take 16 rest) (u32_at 16 rest) (u32_at 20 rest) (u32_at 24 rest) (u32_at 28 rest)) ≡ rest
host_bytes_back rest len are =
    let name = take 16 rest in
    let f = take 4 (drop 16 rest) in
    let s = take 4 (drop 20 rest) in
    let f-is : to_le_bytes w32 (u32_at 16 rest) ≡ f = le4_back (drop 16 rest) (omega (arith, len, length-drop 16 rest)) (IsBytes-drop 16 rest are) in
    let s-is : to_le_bytes w32 (u32_at 20 rest) ≡ s = le4_back (drop 20 rest) (omega (arith, len, length-drop 20 rest)) (IsBytes-drop 20 rest are) in
    let m = take 4 (drop 24 rest) in
    let m-is : to_le_bytes w32 (u32_at 24 rest) ≡ m = le4_back (drop 24 rest) (omega (arith, len, length-drop 24 rest)) (IsBytes-drop 24 rest are) in
    let c-is : to_le_bytes w32 (u32_at 28 rest) ≡ drop 28 rest = le4_back (drop 28 rest) (omega (arith, len, length-drop 28 rest)) (IsBytes-drop 28 rest are) ∙ take_last 4 28 rest len in
    ap (λ (x : List ℕ). name ++ x ++ to_le_bytes w32 (u32_at 20 rest) ++ to_le_bytes w32 (u32_at 24 rest) ++ to_le_bytes w32 (u32_at 28 rest)) f-is
    ∙ ap (λ (x : List ℕ). name ++ f ++ x ++ to_le_bytes w32 (u32_at 24 rest) ++ to_le_bytes w32 (u32_at 28 rest)) s-is
    ∙ ap (λ (x : List ℕ). name ++ f ++ s ++ x ++ to_le_bytes w32 (u32_at 28 rest)) m-is
    ∙ ap (λ (x : List ℕ). name ++ f ++ s ++ m ++ x) (c-is ∙ sym (drop_more 24 4 rest))
    ∙ append_assoc (name ++ f ++ s) m (drop 4 (drop 24 rest))
    ∙ ap (λ (x : List ℕ). name ++ f ++ s ++ x) (take-append-drop 4 (drop 24 rest) ∙ sym (drop_more 20 4 rest))
    ∙ append_assoc (name ++ f) s (drop 4 (drop 20 rest))
    ∙ ap (λ (x : List ℕ). name ++ f ++ x) (take-append-drop 4 (drop 20 rest) ∙ sym (drop_more 16 4 rest))
    ∙ append_assoc name f (drop 4 (drop 16 rest))
    ∙ ap (λ (x : List ℕ). name ++ x) (take-append-drop 4 (drop 16 rest))
    ∙ take-append-drop 16 rest

-- ---- what was spelled is read

pub host_again : (m : HostMessage) → HostFits m → host_at (host_bytes m) ≡ Ok m
unfolding seen_of loans_of
host_again (host.Welcome w) fits = host_head WELCOME VERSION (welcome_bytes w) (omega arith) (omega arith) ∙ welcome_again w fits
host_again (host.Seen answers) fits =
    let len : length (map answer_byte answers.items) ≡ length answers.items * 1 = omega (arith, length-map answers.items answer_byte) in
    let none = count_none 1 (length answers.items) (length (map answer_byte answers.items)) fits len in
    host_head SEEN (length answers.items) (map answer_byte answers.items) (omega arith) (omega (arith, fits)) ∙ rw (none, bytes_again answers.items, answers_again answers.items) refl
host_again (host.Loans loans) fits =
    let items : items_at 16 lent_at (length loans.items) (flat_map lent_bytes loans.items) ≡ loans.items = items_again 16 lent_bytes lent_at LentFits lent_item loans.items fits.1 in
    let none = count_none 16 (length loans.items) (length (flat_map lent_bytes loans.items)) fits.0 (items_len 16 lent_bytes lent_at LentFits lent_item loans.items) in
    host_head LOANS (length loans.items) (flat_map lent_bytes loans.items) (omega arith) (omega (arith, fits.0)) ∙ rw (none, items) refl

-- ---- what is read was spelled so

pub record SpelledBy (m : HostMessage) (bytes : List ℕ) : Type 0 where
  pub fits : HostFits m
  pub same : host_bytes m ≡ bytes

welcome_back : (version : ℕ) (rest : List ℕ) (m : HostMessage) → IsBytes rest → welcome_of version rest ≡ done m → SpelledBy m (head WELCOME version ++ rest)
unfolding welcome_of
welcome_back version rest m are e =
    let w : Welcome = welcome (take 16 rest) (u32_at 16 rest) (u32_at 20 rest) (u32_at 24 rest) (u32_at 28 rest) in
    let a = passed (not (eqb version VERSION)) fault.Version (cond (not (eqb (length rest) 32)) (Err fault.Length) (Ok (host.Welcome w))) m e in
    let b = passed (not (eqb (length rest) 32)) fault.Length (Ok (host.Welcome w)) m a.1 in
    let v : version ≡ VERSION = eqb-true version VERSION (not-false (eqb version VERSION) a.0) in
    let len : length rest ≡ 32 = eqb-true (length rest) 32 (not-false (eqb (length rest) 32) b.0) in
    subst (λ (x : HostMessage). SpelledBy x (head WELCOME version ++ rest)) (ok_is (host.Welcome w) m b.1) (record {
      fits = record {
        name = omega (arith, length-take 16 rest, len);
        frames = u32_below (drop 16 rest) (IsBytes-drop 16 rest are);
        salt = u32_below (drop 20 rest) (IsBytes-drop 20 rest are);
        most = u32_below (drop 24 rest) (IsBytes-drop 24 rest are);
        client_cpu = u32_below (drop 28 rest) (IsBytes-drop 28 rest are);
      };
      same = ap (λ (x : List ℕ). head WELCOME VERSION ++ x) (host_bytes_back rest len are) ∙ ap (λ (n : ℕ). head WELCOME n ++ rest) (sym v);
    })

record SeenBy (count len : ℕ) (read : Result HostMessage MessageFault) (m : HostMessage) : Type 0 where
  few : count ≤ MAX_IN_MESSAGE
  all : len ≡ count * 1
  same : read ≡ done m

seen_by : (count len : ℕ) (read : Result HostMessage MessageFault) (m : HostMessage) (b c : Bool) → b ≡ ltb MAX_IN_MESSAGE count → c ≡ eqb len (count * 1)
    → unless_at (cond b (Some fault.Count) (cond c None (Some fault.Length))) read ≡ done m → SeenBy count len read m
seen_by count len read m true c p q e = absurd (is_wrong fault.Count m e)
seen_by count len read m false true p q e = record { few = ltb-false MAX_IN_MESSAGE count (sym p); all = eqb-true len (count * 1) (sym q); same = e }
seen_by count len read m false false p q e = absurd (is_wrong fault.Length m e)

seen_back : (count : ℕ) (rest : List ℕ) (m : HostMessage) → seen_of count rest ≡ done m → SpelledBy m (head SEEN count ++ rest)
unfolding seen_of
seen_back count rest m e =
    let c = seen_by count (length rest) (answers_of rest) m (ltb MAX_IN_MESSAGE count) (eqb (length rest) (count * 1)) refl refl e in
    let a = passed (list_any is_no_answer rest) fault.Answer (Ok (host.Seen (record { items = map answer_of rest }))) m c.same in
    let n : length (map answer_of rest) ≡ count = omega (arith, length-map rest answer_of, c.all) in
    subst (λ (x : HostMessage). SpelledBy x (head SEEN count ++ rest)) (ok_is (host.Seen (record { items = map answer_of rest })) m a.1) (record {
      fits = omega (arith, n, c.few);
      same = ap (λ (k : ℕ). head SEEN k ++ map answer_byte (map answer_of rest)) n ∙ ap (λ (x : List ℕ). head SEEN count ++ x) (answers_back rest a.0);
    })

loans_back : (count : ℕ) (rest : List ℕ) (m : HostMessage) → IsBytes rest → loans_of count rest ≡ done m → SpelledBy m (head LOANS count ++ rest)
unfolding loans_of
loans_back count rest m are e =
    let c = counted 16 count (length rest) (host.Loans (record { items = items_at 16 lent_at count rest })) m e in
    let n : length (items_at 16 lent_at count rest) ≡ count = items_count 16 lent_at count rest in
    let back = items_back 16 lent_bytes lent_at LentFits lent_item count rest c.all are in
    subst (λ (x : HostMessage). SpelledBy x (head LOANS count ++ rest)) c.same (record {
      fits = (omega (arith, n, c.few), back.fit);
      same = ap (λ (k : ℕ). head LOANS k ++ flat_map lent_bytes (items_at 16 lent_at count rest)) n ∙ ap (λ (x : List ℕ). head LOANS count ++ x) back.same;
    })

host_of_back : (kind number : ℕ) (rest : List ℕ) (m : HostMessage) → IsBytes rest → host_of kind number rest ≡ done m → SpelledBy m (head kind number ++ rest)
host_of_back kind number rest m are e =
    elim (chosen (eqb kind WELCOME) (welcome_of number rest) (cond (eqb kind SEEN) (seen_of number rest) (cond (eqb kind LOANS) (loans_of number rest) (Err fault.Kind))) (done m) e) [
      | inl p ↦ subst (λ (k : ℕ). SpelledBy m (head k number ++ rest)) (sym (eqb-true kind WELCOME p.0)) (welcome_back number rest m are p.1)
      | inr p ↦ elim (chosen (eqb kind SEEN) (seen_of number rest) (cond (eqb kind LOANS) (loans_of number rest) (Err fault.Kind)) (done m) p.1) [
        | inl q ↦ subst (λ (k : ℕ). SpelledBy m (head k number ++ rest)) (sym (eqb-true kind SEEN q.0)) (seen_back number rest m q.1)
        | inr q ↦ elim (chosen (eqb kind LOANS) (loans_of number rest) (Err fault.Kind) (done m) q.1) [
          | inl r ↦ subst (λ (k : ℕ). SpelledBy m (head k number ++ rest)) (sym (eqb-true kind LOANS r.0)) (loans_back number rest m are r.1)
          | inr r ↦ absurd (is_wrong fault.Kind m r.1)
        ]
      ]
    ]

host_back : (bytes : List ℕ) (m : HostMessage) → IsBytes bytes → host_at bytes ≡ done m → SpelledBy m bytes
unfolding host_at
host_back bytes m are e =
    let a = passed (ltb (length bytes) HEAD_BYTES) fault.Head (host_of (u32_at 0 bytes) (u32_at 4 bytes) (drop HEAD_BYTES bytes)) m e in
    let long : 8 ≤ length bytes = ltb-false (length bytes) HEAD_BYTES a.0 in
    subst (λ (x : List ℕ). SpelledBy m x) (head_back bytes long are) (host_of_back (u32_at 0 bytes) (u32_at 4 bytes) (drop 8 bytes) m (IsBytes-drop 8 bytes are) a.1)

pub host_found : (bytes : List ℕ) (r : Result HostMessage MessageFault) → IsBytes bytes → r ≡ host_at bytes → IfOk r (λ m. HostFits m × (host_bytes m ≡ bytes))
host_found bytes (Ok m) are e = let s = host_back bytes m are (sym e) in (s.fits, s.same)
host_found bytes (Err f) are e = tt
