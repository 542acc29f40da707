-- Whatever the order of events, each list of a guest begins the list before it.
use Rattle.std.proofs.Common.{◌≡◌, ℕ, zero, suc, ◌+◌, ◌<◌, ◌≤◌, Bool, true, false, cond, List, [], ◌∷◌, ◌++◌, length, take, drop, Some, refl, ap, sym, ◌∙◌, subst, arith, append_assoc, length-append}
use Rattle.std.specs.Prelude.{slice_get, nat_eq}
use Rattle.std.specs.List.{list_any}
use Rattle.std.proofs.lemmas.Bool.{eqb-true, eqb-false, ne_eqb, eq-eqb}
use Rattle.std.proofs.Math.Seq.{drop-append_seam}
use Rattle.std.proofs.lemmas.List.{take-append-drop, append-nil}
use Rattle.page_model.specs.Journal.{places_from, places, asked}
use Rattle.page_model.specs.Closing.{is_close}
use Rattle.page_model.specs.Events.{Traffic, World, start, next, sends, takes, gives, gets, at_guest, entries_of, happens, world_from, world_after, Begins, ClosesLast, GotBeforeSent}
use Rattle.page_model.proofs.Journals.{asked-append, places_from-append, length-places}
use Rattle.page_model.specs.declared.event.Event.{Event}
use Rattle.page_model.specs.declared.event.Event.TheVariants.{Send, Take, Give, Get}
use Rattle.page_model.specs.declared.request.Entry.{Entry}
use Rattle.page_model.specs.declared.request.Request.{Request}

-- beginnings of lists
begins_self : {X : Type 0} (xs : List X) → Begins xs xs
begins_self xs = record { rest = []; whole = append-nil xs }

begins_more : {X : Type 0} (xs ys more : List X) → Begins xs ys → Begins xs (ys ++ more)
begins_more xs ys more h = record { rest = h.rest ++ more; whole = sym (append_assoc xs h.rest more) ∙ ap (λ zs. zs ++ more) h.whole }

begins_next : {X : Type 0} (xs ys : List X) → Begins xs ys → Begins (xs ++ next xs ys) ys
begins_next {X} xs ys h =
    let left : drop (length xs) ys ≡ h.rest = ap (drop (length xs)) (sym h.whole) ∙ drop-append_seam xs h.rest in
    record {
      rest = drop 1 (drop (length xs) ys);
      whole = append_assoc xs (next xs ys) (drop 1 (drop (length xs) ys)) ∙ ap (λ zs. xs ++ zs) (take-append-drop 1 (drop (length xs) ys) ∙ left) ∙ h.whole;
    }

begins_length : {X : Type 0} (xs ys : List X) → Begins xs ys → length xs ≤ length ys
begins_length xs ys h = omega (arith, length-append xs h.rest, ap length h.whole)

begins_trans : {X : Type 0} (xs ys zs : List X) → Begins xs ys → Begins ys zs → Begins xs zs
begins_trans xs ys zs h k = record { rest = h.rest ++ k.rest; whole = sym (append_assoc xs h.rest k.rest) ∙ ap (λ ws. ws ++ k.rest) h.whole ∙ k.whole }

-- a longer journal has the places of a shorter one first
places-append : (i : ℕ) (es more : List Entry) → Begins (places i es) (places i (es ++ more))
places-append i es more = record { rest = places_from (0 + length es) i more; whole = sym (places_from-append 0 i es more) }

-- the entries of one guest
asked_own : (i : ℕ) (rs : List Request) → asked i (entries_of i rs) ≡ rs
asked_own i [] = refl
asked_own i (r ∷ rs) =
    let t : nat_eq i i ≡ true = eq-eqb i i refl in
    rw t (ap (λ zs. r ∷ zs) (asked_own i rs))

asked_other : (i j : ℕ) (rs : List Request) → nat_eq j i ≡ false → asked i (entries_of j rs) ≡ []
asked_other i j [] t = refl
asked_other i j (r ∷ rs) t = rw t (asked_other i j rs t)

-- two lists with one more element each
same_front : {X : Type 0} (xs ys : List X) (x y : X) → xs ++ x ∷ [] ≡ ys ++ y ∷ [] → xs ≡ ys
same_front [] [] x y h = refl
same_front [] (b ∷ ys) x y h = absurd (let n = ap length h in omega (arith, length-append ys (y ∷ [])))
same_front (a ∷ xs) [] x y h = absurd (let n = ap length h in omega (arith, length-append xs (x ∷ [])))
same_front {X} (a ∷ xs) (b ∷ ys) x y h =
    let rest : xs ≡ ys = same_front xs ys x y (ap (drop 1) h) in
    let first : a ≡ b = cc in
    ap (λ z. z ∷ xs) first ∙ ap (λ zs. b ∷ zs) rest

closes_none : ClosesLast []
closes_none front last h = absurd (let n = ap length h in omega (arith, length-append front (last ∷ [])))

-- what every order of events keeps of a guest's traffic
record Orderly (t : Traffic) (i : ℕ) (journal : List Entry) : Type 0 where
  taken : Begins t.taken t.sent
  asks : t.taken ≡ asked i journal
  given : Begins t.given (places i journal)
  got : Begins t.got t.given
  closed : ClosesLast t.sent

-- an event of this guest
sends_orderly : (t : Traffic) (i : ℕ) (journal : List Entry) (r : Request) → Orderly t i journal → Orderly (sends r t) i journal
sends_orderly t i journal r h = pick (list_any is_close t.sent) refl where
  pick : (b : Bool) → list_any is_close t.sent ≡ b → Orderly (record { sent = cond b t.sent (t.sent ++ r ∷ []); taken = t.taken; given = t.given; got = t.got }) i journal
  pick true e = h
  pick false e = record {
    taken = begins_more t.taken t.sent (r ∷ []) h.taken;
    asks = h.asks;
    given = h.given;
    got = h.got;
    closed = λ front last is. ap (list_any is_close) (same_front front t.sent last r is) ∙ e;
  }

takes_orderly : (t : Traffic) (i : ℕ) (journal : List Entry) → Orderly t i journal → Orderly (takes t) i (journal ++ entries_of i (next t.taken t.sent))
takes_orderly t i journal h =
    let new = next t.taken t.sent in
    record {
      taken = begins_next t.taken t.sent h.taken;
      asks = ap (λ zs. zs ++ new) h.asks ∙ ap (λ zs. asked i journal ++ zs) (sym (asked_own i new)) ∙ sym (asked-append i journal (entries_of i new));
      given = begins_trans t.given (places i journal) _ h.given (places-append i journal (entries_of i new));
      got = h.got;
      closed = h.closed;
    }

gives_orderly : (t : Traffic) (i : ℕ) (journal : List Entry) → Orderly t i journal → Orderly (gives (places i journal) t) i journal
gives_orderly t i journal h =
    record { taken = h.taken; asks = h.asks; given = begins_next t.given (places i journal) h.given; got = begins_more t.got t.given (next t.given (places i journal)) h.got; closed = h.closed }

gets_orderly : (t : Traffic) (i : ℕ) (journal : List Entry) → Orderly t i journal → Orderly (gets t) i journal
gets_orderly t i journal h = record { taken = h.taken; asks = h.asks; given = h.given; got = begins_next t.got t.given h.got; closed = h.closed }

-- another guest's request is taken
other_orderly : (t : Traffic) (i : ℕ) (journal : List Entry) (j : ℕ) (rs : List Request) → nat_eq j i ≡ false → Orderly t i journal → Orderly t i (journal ++ entries_of j rs)
other_orderly t i journal j rs ne h = record {
  taken = h.taken;
  asks = h.asks ∙ sym (append-nil (asked i journal)) ∙ ap (λ zs. asked i journal ++ zs) (sym (asked_other i j rs ne)) ∙ sym (asked-append i journal (entries_of j rs));
  given = begins_trans t.given (places i journal) _ h.given (places-append i journal (entries_of j rs));
  got = h.got;
  closed = h.closed;
}

-- a change of the traffic of guest j, seen by guest i
seen : (i j : ℕ) (change : Traffic → Traffic) (traffic : ℕ → Traffic) (journal : List Entry) → Orderly (traffic i) i journal → (i ≡ j → Orderly (change (traffic i)) i journal) → Orderly (at_guest j change traffic i) i journal
seen i j change traffic journal h own = pick (nat_eq i j) refl where
  pick : (b : Bool) → nat_eq i j ≡ b → Orderly (cond b (change (traffic i)) (traffic i)) i journal
  pick true e = own (eqb-true i j e)
  pick false e = h

record AllOrderly (w : World) : Type 0 where
  each : (i : ℕ) → Orderly (w.traffic i) i w.journal

taken_here : (w : World) (i j : ℕ) → i ≡ j → Orderly (w.traffic i) i w.journal → Orderly (takes (w.traffic i)) i (w.journal ++ entries_of j (next (w.traffic j).taken (w.traffic j).sent))
taken_here w i j e h =
    subst (λ n. Orderly (takes (w.traffic i)) i (w.journal ++ entries_of n (next (w.traffic n).taken (w.traffic n).sent))) e (takes_orderly (w.traffic i) i w.journal h)

given_here : (w : World) (i j : ℕ) → i ≡ j → Orderly (w.traffic i) i w.journal → Orderly (gives (places j w.journal) (w.traffic i)) i w.journal
given_here w i j e h = subst (λ n. Orderly (gives (places n w.journal) (w.traffic i)) i w.journal) e (gives_orderly (w.traffic i) i w.journal h)

take_orderly : (w : World) (i j : ℕ) → Orderly (w.traffic i) i w.journal → Orderly (at_guest j takes w.traffic i) i (w.journal ++ entries_of j (next (w.traffic j).taken (w.traffic j).sent))
take_orderly w i j h = pick (nat_eq i j) refl where
  pick : (b : Bool) → nat_eq i j ≡ b → Orderly (cond b (takes (w.traffic i)) (w.traffic i)) i (w.journal ++ entries_of j (next (w.traffic j).taken (w.traffic j).sent))
  pick true e = taken_here w i j (eqb-true i j e) h
  pick false e = other_orderly (w.traffic i) i w.journal j (next (w.traffic j).taken (w.traffic j).sent) (ne_eqb j i (λ k. eqb-false i j e (sym k))) h

happens_orderly : (w : World) (e : Event) → AllOrderly w → AllOrderly (happens w e)
happens_orderly w (Send j r) h = record { each = λ i. seen i j (sends r) w.traffic w.journal (h.each i) (λ same. sends_orderly (w.traffic i) i w.journal r (h.each i)) }
happens_orderly w (Take j) h = record { each = λ i. take_orderly w i j (h.each i) }
happens_orderly w (Give j) h = record { each = λ i. seen i j (gives (places j w.journal)) w.traffic w.journal (h.each i) (λ same. given_here w i j same (h.each i)) }
happens_orderly w (Get j) h = record { each = λ i. seen i j gets w.traffic w.journal (h.each i) (λ same. gets_orderly (w.traffic i) i w.journal (h.each i)) }

run_orderly : (w : World) (es : List Event) → AllOrderly w → AllOrderly (world_from w es)
run_orderly w [] h = h
run_orderly w (e ∷ es) h = run_orderly (happens w e) es (happens_orderly w e h)

start_orderly : AllOrderly start
start_orderly = record { each = λ i. record { taken = begins_self []; asks = refl; given = begins_self []; got = begins_self []; closed = closes_none } }

orderly : (es : List Event) (i : ℕ) → let w = world_after es in Orderly (w.traffic i) i w.journal
orderly es i = (run_orderly start es start_orderly).each i

pub taken_sent : (es : List Event) (i : ℕ) → let w = world_after es in Begins (w.traffic i).taken (w.traffic i).sent
taken_sent es i = (orderly es i).taken

pub taken_asked : (es : List Event) (i : ℕ) → let w = world_after es in (w.traffic i).taken ≡ asked i w.journal
taken_asked es i = (orderly es i).asks

pub given_places : (es : List Event) (i : ℕ) → let w = world_after es in Begins (w.traffic i).given (places i w.journal)
given_places es i = (orderly es i).given

pub got_given : (es : List Event) (i : ℕ) → let w = world_after es in Begins (w.traffic i).got (w.traffic i).given
got_given es i = (orderly es i).got

pub closes_last : (es : List Event) (i : ℕ) → ClosesLast ((world_after es).traffic i).sent
closes_last es i = (orderly es i).closed

-- the journal grows
journal_grows : (w : World) (es : List Event) → Begins w.journal (world_from w es).journal
journal_grows w [] = begins_self w.journal
journal_grows w (Send j r ∷ es) = journal_grows (happens w (Send j r)) es
journal_grows w (Take j ∷ es) =
    let new = entries_of j (next (w.traffic j).taken (w.traffic j).sent) in
    begins_trans w.journal (w.journal ++ new) _ (begins_more w.journal w.journal new (begins_self w.journal)) (journal_grows (happens w (Take j)) es)
journal_grows w (Give j ∷ es) = journal_grows (happens w (Give j)) es
journal_grows w (Get j ∷ es) = journal_grows (happens w (Get j)) es

world_from-append : (w : World) (es fs : List Event) → world_from w (es ++ fs) ≡ world_from (world_from w es) fs
world_from-append w [] fs = refl
world_from-append w (e ∷ es) fs = world_from-append (happens w e) es fs

early_journal : (n : ℕ) (es : List Event) → Begins (world_after (take n es)).journal (world_after es).journal
early_journal n es =
    let all : world_from (world_after (take n es)) (drop n es) ≡ world_after es =
    sym (world_from-append start (take n es) (drop n es)) ∙ ap world_after (take-append-drop n es) in
    subst (λ (w : World). Begins (world_after (take n es)).journal w.journal) all (journal_grows (world_after (take n es)) (drop n es))

-- where a place of a list's beginning stands, and one past it
get_left : (xs ys : List ℕ) (k : ℕ) → k < length xs → slice_get (xs ++ ys) k ≡ slice_get xs k
get_left [] ys k h = absurd (omega arith)
get_left (x ∷ xs) ys zero h = refl
get_left (x ∷ xs) ys (suc k) h = get_left xs ys k (omega arith)

-- each place lies within the journal
pub record Within (low high p : ℕ) : Type 0 where
  pub least : low ≤ p
  pub most : p < high

within_wider : (low high n m p : ℕ) → n ≤ low → high ≤ m → Within low high p → Within n m p
within_wider low high n m p l h w = record { least = let a = w.least in omega arith; most = let a = w.most in omega arith }

pub places_within : (n i : ℕ) (es : List Entry) (k p : ℕ) → slice_get (places_from n i es) k ≡ Some p → Within n (n + length es) p
places_within n i [] k p h = cc
places_within n i (e ∷ es) k p h = pick (nat_eq e.guest i) k h (λ j g. within_wider (n + 1) (n + 1 + length es) n (n + length (e ∷ es)) p (omega arith) (omega arith) (places_within (n + 1) i es j p g)) where
  pick : (b : Bool) (j : ℕ) → slice_get (cond b (n ∷ places_from (n + 1) i es) (places_from (n + 1) i es)) j ≡ Some p → ((l : ℕ) → slice_get (places_from (n + 1) i es) l ≡ Some p → Within n (n + length (e ∷ es)) p) → Within n (n + length (e ∷ es)) p
  pick true zero g rest = let same : n ≡ p = cc in record { least = omega arith; most = omega arith }
  pick true (suc j) g rest = rest j g
  pick false j g rest = rest j g

-- past the places of the beginning come places past its end
late_place : (xs ys : List ℕ) (n k p : ℕ) → length xs ≤ k → slice_get (xs ++ ys) k ≡ Some p → ((l : ℕ) → slice_get ys l ≡ Some p → n ≤ p) → n ≤ p
late_place [] ys n k p h g later = later k g
late_place (x ∷ xs) ys n zero p h g later = absurd (omega arith)
late_place (x ∷ xs) ys n (suc k) p h g later = late_place xs ys n k p (omega arith) g later

ordered : (journal more : List Entry) (a b k m p q : ℕ) → k < length (places a journal) → length (places b journal) ≤ m →
    slice_get (places a (journal ++ more)) k ≡ Some p → slice_get (places b (journal ++ more)) m ≡ Some q → p < q
ordered journal more a b k m p q h g is_p is_q =
    let n = length journal in
    let first : slice_get (places a journal) k ≡ Some p = sym (get_left (places a journal) (places_from (0 + n) a more) k h) ∙ ap (λ zs. slice_get zs k) (sym (places_from-append 0 a journal more)) ∙ is_p in
    let low : Within 0 (0 + n) p = places_within 0 a journal k p first in
    let second : slice_get (places b journal ++ places_from (0 + n) b more) m ≡ Some q = ap (λ zs. slice_get zs m) (sym (places_from-append 0 b journal more)) ∙ is_q in
    let high : 0 + n ≤ q = late_place (places b journal) (places_from (0 + n) b more) (0 + n) m q g second (λ l e. (places_within (0 + n) b more l q e).least) in
    let below : p < 0 + n = low.most in
    omega arith

pub got_before_sent : (es : List Event) → GotBeforeSent es
got_before_sent es n a b k m p q had unsent is_p is_q =
    let w = world_after (take n es) in
    let mine = orderly (take n es) a in
    let other = orderly (take n es) b in
    let grown = early_journal n es in
    let enough : k < length (places a w.journal) = omega (arith, begins_length (w.traffic a).got (w.traffic a).given mine.got, begins_length (w.traffic a).given (places a w.journal) mine.given) in
    let few : length (places b w.journal) ≤ m = omega (arith, length-places 0 b w.journal, ap length other.asks, begins_length (w.traffic b).taken (w.traffic b).sent other.taken) in
    ordered w.journal grown.rest a b k m p q enough few (ap (λ j. slice_get (places a j) k) grown.whole ∙ is_p) (ap (λ j. slice_get (places b j) m) grown.whole ∙ is_q)
