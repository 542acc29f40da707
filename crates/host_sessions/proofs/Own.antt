-- Each session's client is its own, before and after each call.
use Rattle.std.proofs.Common.{◌≡◌, ◌≢◌, ◌⊎◌, inl, inr, ℕ, zero, suc, ◌+◌, ◌<◌, ◌≤◌, Bool, true, false, cond, not, eqb, ltb, List, [], ◌∷◌, length, take, replicate, Option, Some, None, Result, Ok, Err, refl, sym, ap, subst, ◌∙◌, arith, get_or}
use Rattle.std.specs.Prelude.{slice_get, slice_set, position, MatchOption, MatchResult}
use Rattle.std.proofs.lemmas.Bool.{cases_eq, cases_lt, cases_Bool, eqb-true, false≢true}
use Rattle.std.proofs.lemmas.List.{get_or-set_same, get_or-set_other, get_or_past, length-set, length-replicate, get_or-replicate}
use Rattle.std.proofs.lemmas.List.Quantifiers.{position-Some}
use Rattle.host_messages.specs.declared.client.ClientMessage.{ClientMessage}
use Rattle.host_messages.specs.declared.client.ClientMessage.TheVariants as client
use Rattle.host_messages.specs.declared.fault.MessageFault.{MessageFault}
use Rattle.host_messages.specs.declared.item.Lent.{Lent}
use Rattle.host_messages.specs.declared.limits.TheConstants.{MAX_IN_MESSAGE}
use Rattle.host_messages.specs.Reading.{client_at}
use Rattle.share_domain.specs.declared.client.Presence.{Presence}
use Rattle.share_domain.specs.declared.client.Presence.TheVariants.{Out, In, Leaving}
use Rattle.share_domain.specs.declared.holding.Loan.{Loan}
use Rattle.share_domain.specs.declared.holding.Slot.{Slot}
use Rattle.share_domain.specs.declared.fault.LendFault.{LendFault}
use Rattle.share_domain.specs.Domains.{DomainView, is_out, next_client, with_machines, with_released, held_in, after_release}
use Rattle.share_domain.specs.Leaving.{Leaves, StaysOut, presence_of, first_slot}
use Rattle.share_domain.specs.Numbers.{slot_by}
use Rattle.share_domain.specs.Totals.{slots_of, is_present}
use Rattle.lent_slots.specs.Slots.{is_of}
use Rattle.host_sessions.specs.declared.allowance.Allowance.{Allowance}
use Rattle.host_sessions.specs.declared.allowance.Process.{Process}
use Rattle.host_sessions.specs.declared.answer.Received.{Received}
use Rattle.host_sessions.specs.declared.config.HostConfig.{HostConfig}
use Rattle.host_sessions.specs.declared.session.SessionFault.{SessionFault}
use Rattle.host_sessions.specs.declared.session.SessionFault.TheVariants as fault
use Rattle.host_sessions.specs.declared.session.Begun.{Begun}
use Rattle.host_sessions.specs.declared.session.Link.TheVariants as link
use Rattle.host_sessions.specs.declared.session.Session.{Session}
use Rattle.host_sessions.specs.declared.session.Session.TheVariants as session
use Rattle.host_sessions.specs.Ends.{EndsEmpty, Ends, EndsBegun, ended, count_of}
use Rattle.host_sessions.specs.Made.{empty_host}
use Rattle.host_sessions.specs.Own.{AreOwn, HasOwn}
use Rattle.host_sessions.specs.Table.{takes, session_at, wanted_in, loans_of, begun_of, lost_of, last_at, session_slots, heard, heard_with, lent, new_session, faulted, gone, connected, next_number}
use Rattle.host_sessions.specs.Turns.{Answers, LendsOne, LendsInTurn, after_releases, slots_in, offered, back_of}
use Rattle.host_sessions.specs.Steps.{HostView, Breaks, Greets, Begins, Resumes, TakesUp, Opens, Talks, Steps, LendsFirst, Hears, Receives, TakesBackAt, most_in}

-- ---- one session is put in the place of another

free_begun : (b : Begun) → session.Free ≡ session.Begun b → ⊥
free_begun b e = absurd cc

begun_same : {b c : Begun} → session.Begun b ≡ session.Begun c → b ≡ c
begun_same e = cc

-- a session that is there afterwards is the one that was put, or was there before
at_put : (ss : List Session) (n : ℕ) (s : Session) (m : ℕ) (b : Begun) → session_at (slice_set ss n s) m ≡ session.Begun b
    → ((m ≡ n) × (s ≡ session.Begun b)) ⊎ ((m ≢ n) × (session_at ss m ≡ session.Begun b))
at_put ss n s m b e = pick (cases_eq m n) (cases_lt n (length ss)) where
  pick : ((m ≡ n) ⊎ (m ≡ n → ⊥)) → ((n < length ss) ⊎ (length ss ≤ n)) → ((m ≡ n) × (s ≡ session.Begun b)) ⊎ ((m ≢ n) × (session_at ss m ≡ session.Begun b))
  pick (inl same) (inl lt) = inl (same, sym (get_or-set_same ss n s session.Free lt) ∙ ap (λ (k : ℕ). session_at (slice_set ss n s) k) (sym same) ∙ e)
  pick (inl same) (inr le) = absurd (free_begun b (sym (get_or_past (slice_set ss n s) m session.Free (omega (arith, le, same, length-set ss n s))) ∙ e))
  pick (inr other) range = inr (other, sym (get_or-set_other ss n m s session.Free other) ∙ e)

-- what is to be known of a session that is put
record FitsIn (ss : List Session) (cs : List Presence) (n : ℕ) (b : Begun) : Type 0 where
  here : is_present (get_or cs b.client Out) ≡ true
  alone : (m : ℕ) (c : Begun) → m ≢ n → session_at ss m ≡ session.Begun c → c.client ≡ b.client → ⊥

put_keeps : (ss : List Session) (cs new : List Presence) (n : ℕ) (s : Session) → AreOwn ss cs
    → ((m : ℕ) (b : Begun) → m ≢ n → session_at ss m ≡ session.Begun b → is_present (get_or new b.client Out) ≡ true)
    → ((b : Begun) → s ≡ session.Begun b → FitsIn ss new n b) → AreOwn (slice_set ss n s) new
put_keeps ss cs new n s own others fits = record { here = here; apart = apart } where
  here : (m : ℕ) (b : Begun) → session_at (slice_set ss n s) m ≡ session.Begun b → is_present (get_or new b.client Out) ≡ true
  here m b e = elim (at_put ss n s m b e) [
    | inl p ↦ (fits b p.1).here
    | inr q ↦ others m b q.0 q.1
  ]

  apart : (m k : ℕ) (b c : Begun) → session_at (slice_set ss n s) m ≡ session.Begun b → session_at (slice_set ss n s) k ≡ session.Begun c → b.client ≡ c.client → m ≡ k
  apart m k b c e f same = elim (at_put ss n s m b e) [
    | inl p ↦ elim (at_put ss n s k c f) [
      | inl q ↦ p.0 ∙ sym q.0
      | inr q ↦ absurd ((fits b p.1).alone k c q.0 q.1 (sym same))
    ]
    | inr p ↦ elim (at_put ss n s k c f) [
      | inl q ↦ absurd ((fits c q.1).alone m b p.0 p.1 same)
      | inr q ↦ own.apart m k b c p.1 q.1 same
    ]
  ]

-- a session that hasn't begun is put
nothing_put : (ss : List Session) (cs : List Presence) (n : ℕ) (s : Session) → ((b : Begun) → s ≡ session.Begun b → ⊥) → AreOwn ss cs → AreOwn (slice_set ss n s) cs
nothing_put ss cs n s none own = put_keeps ss cs cs n s own (λ m b other e. own.here m b e) (λ b e. absurd (none b e))

-- a session stays, with its client
same_put : (ss : List Session) (cs : List Presence) (n : ℕ) (b now : Begun) → session_at ss n ≡ session.Begun b → now.client ≡ b.client → AreOwn ss cs → AreOwn (slice_set ss n (session.Begun now)) cs
same_put ss cs n b now was same own =
    put_keeps ss cs cs n (session.Begun now) own (λ m c other e. own.here m c e)
    (λ c e. let whose : c.client ≡ b.client = ap (λ (x : Begun). x.client) (sym (begun_same e)) ∙ same in
    record {
      here = ap (λ (k : ℕ). is_present (get_or cs k Out)) whose ∙ own.here n b was;
      alone = λ m d other there eq. other (own.apart m n d b there was (eq ∙ whose));
    })

faulted_put : (ss : List Session) (cs : List Presence) (n : ℕ) (s : Session) (f : SessionFault) → session_at ss n ≡ s → AreOwn ss cs → AreOwn (slice_set ss n (faulted s f)) cs
faulted_put ss cs n session.Free f was own = nothing_put ss cs n session.Free (λ b e. absurd cc) own
faulted_put ss cs n (session.Silent name) f was own = nothing_put ss cs n (session.Refused f) (λ b e. absurd cc) own
faulted_put ss cs n (session.Refused first) f was own = nothing_put ss cs n (session.Refused first) (λ b e. absurd cc) own
faulted_put ss cs n (session.Begun b) f was own = same_put ss cs n b _ was refl own

gone_put : (ss : List Session) (cs : List Presence) (n : ℕ) (s : Session) → session_at ss n ≡ s → AreOwn ss cs → AreOwn (slice_set ss n (gone s)) cs
gone_put ss cs n session.Free was own = nothing_put ss cs n session.Free (λ b e. absurd cc) own
gone_put ss cs n (session.Silent name) was own = nothing_put ss cs n session.Free (λ b e. absurd cc) own
gone_put ss cs n (session.Refused first) was own = nothing_put ss cs n session.Free (λ b e. absurd cc) own
gone_put ss cs n (session.Begun b) was own = same_put ss cs n b _ was refl own

-- ---- lends and releases leave all clients

release_clients : (c : ℕ) (slot : Slot) (d : DomainView) → (after_release c slot d).clients ≡ d.clients
release_clients c slot d = pick (is_of c (held_in d.machines slot)) where
  pick : (b : Bool) → (cond b (with_machines d (with_released slot d.machines)) d).clients ≡ d.clients
  pick true = refl
  pick false = refl

releases_clients : (c : ℕ) (ss : List ℕ) (d : DomainView) → (after_releases c ss d).clients ≡ d.clients
unfolding after_releases
releases_clients c [] d = refl
releases_clients c (s ∷ ss) d = releases_clients c ss (after_release c (slot_by s) d) ∙ release_clients c (slot_by s) d

answer_clients : (salt c : ℕ) (page : List ℕ) (answer : Result Loan LendFault) (old new : DomainView) → Answers salt c page answer old new → new.clients ≡ old.clients
answer_clients salt c page (Ok loan) old new a = ap (λ (d : DomainView). d.clients) a.lends.rest
answer_clients salt c page (Err fault) old new a = ap (λ (d : DomainView). d.clients) a.1

one_clients : (salt c quota : ℕ) (page : List ℕ) (lent : Lent) (old new : DomainView) → LendsOne salt c quota page lent old new → new.clients ≡ old.clients
one_clients salt c quota page lent old new l =
    elim (cases_lt (slots_of c old.machines) quota) [
      | inl lt ↦ let w = l.within lt in answer_clients salt c page w.answer old new w.answers
      | inr le ↦ ap (λ (d : DomainView). d.clients) (l.full le).1
    ]

lends_clients : (salt c quota : ℕ) (pages : List (List ℕ)) (loans : List Lent) (old new : DomainView) → LendsInTurn salt c quota pages loans old new → new.clients ≡ old.clients
unfolding LendsInTurn
lends_clients salt c quota [] [] old new l = ap (λ (d : DomainView). d.clients) l
lends_clients salt c quota (page ∷ pages) [] old new l = absurd l
lends_clients salt c quota [] (lent ∷ loans) old new l = absurd l
lends_clients salt c quota (page ∷ pages) (lent ∷ loans) old new l = lends_clients salt c quota pages loans l.0 new l.2 ∙ one_clients salt c quota page lent old l.0 l.1

-- ---- a packet

-- the host afterwards has these sessions and these clients
becomes : (new : HostView) (ss : List Session) (cs : List Presence) → new.sessions ≡ ss → new.domain.clients ≡ cs → AreOwn ss cs → HasOwn new
becomes new ss cs e f own = subst (λ (x : List Session). AreOwn x new.domain.clients) (sym e) (subst (λ (y : List Presence). AreOwn ss y) (sym f) own)

stays : (old new : HostView) → new ≡ old → HasOwn old → HasOwn new
stays old new e own = subst HasOwn (sym e) own

breaks : (n : ℕ) (s : Session) (f : SessionFault) (received : Received) (old new : HostView) → session_at old.sessions n ≡ s → HasOwn old → Breaks n s f received old new → HasOwn new
breaks n s f received old new was own b =
    becomes new (slice_set old.sessions n (faulted s f)) old.domain.clients (ap (λ (h : HostView). h.sessions) b.1) (ap (λ (h : HostView). h.domain.clients) b.1) (faulted_put old.sessions old.domain.clients n s f was own)

-- a client that is present isn't out
clash : (p : Presence) → is_present p ≡ true → is_out p ≡ true → ⊥
clash Out h f = absurd cc
clash In h f = absurd cc
clash Leaving h f = absurd cc

-- the client that enters was out, so it was no session's
enters : (ss : List Session) (cs : List Presence) (n c : ℕ) (now : Begun) → position is_out cs ≡ Some c → now.client ≡ c → AreOwn ss cs → AreOwn (slice_set ss n (session.Begun now)) (slice_set cs c In)
enters ss cs n c now found whose own = put_keeps ss cs (slice_set cs c In) n (session.Begun now) own others fits where
  out : (c < length cs) × (is_out (get_or cs c Out) ≡ true) × ((k : ℕ) → k < c → is_out (get_or cs k Out) ≡ false)
  out = position-Some is_out cs c Out found

  not_it : (b : Begun) → is_present (get_or cs b.client Out) ≡ true → b.client ≢ c
  not_it b here same = clash (get_or cs c Out) (subst (λ (k : ℕ). is_present (get_or cs k Out) ≡ true) same here) out.1

  others : (m : ℕ) (b : Begun) → m ≢ n → session_at ss m ≡ session.Begun b → is_present (get_or (slice_set cs c In) b.client Out) ≡ true
  others m b other e =
      let here = own.here m b e in
      ap is_present (get_or-set_other cs c b.client In Out (not_it b here)) ∙ here

  fits : (b : Begun) → session.Begun now ≡ session.Begun b → FitsIn ss (slice_set cs c In) n b
  fits b e =
      let is : b.client ≡ c = ap (λ (x : Begun). x.client) (sym (begun_same e)) ∙ whose in
      record {
        here = ap (λ (k : ℕ). is_present (get_or (slice_set cs c In) k Out)) is ∙ ap is_present (get_or-set_same cs c In Out out.0);
        alone = λ m d other there eq. not_it d (own.here m d there) (eq ∙ is);
      }

begins : (n : ℕ) (name : List ℕ) (o : Option ℕ) (received : Received) (old new : HostView) → session_at old.sessions n ≡ session.Silent name → next_client old.domain ≡ o
    → HasOwn old → Begins n name o received old new → HasOwn new
begins n name None received old new was found own b = breaks n (session.Silent name) fault.Clients received old new was own b
begins n name (Some c) received old new was found own b =
    becomes new (slice_set old.sessions n (session.Begun (new_session name c))) (slice_set old.domain.clients c In) (ap (λ (h : HostView). h.sessions) b.1) (ap (λ (h : HostView). h.domain.clients) b.1)
    (enters old.sessions old.domain.clients n c (new_session name c) found refl own)

-- a session that is taken up has its client under the new number alone
moved : (ss : List Session) (cs : List Presence) (n before : ℕ) (b now : Begun) → session_at ss before ≡ session.Begun b → now.client ≡ b.client → AreOwn ss cs
    → AreOwn (slice_set (slice_set ss before session.Free) n (session.Begun now)) cs
moved ss cs n before b now was whose own = put_keeps mid cs cs n (session.Begun now) freed (λ m c other e. freed.here m c e) fits where
  mid : List Session
  mid = slice_set ss before session.Free

  freed : AreOwn mid cs
  freed = nothing_put ss cs before session.Free (λ c e. free_begun c e) own

  fits : (c : Begun) → session.Begun now ≡ session.Begun c → FitsIn mid cs n c
  fits c e =
      let is : c.client ≡ b.client = ap (λ (x : Begun). x.client) (sym (begun_same e)) ∙ whose in
      record {
        here = ap (λ (k : ℕ). is_present (get_or cs k Out)) is ∙ own.here before b was;
        alone = λ m d other there eq. elim (at_put ss before session.Free m d there) [
          | inl p ↦ free_begun d p.1
          | inr q ↦ q.0 (own.apart m before d b q.1 was (eq ∙ is))
        ];
      }

begun_was : (s : Session) (b : Begun) → begun_of s ≡ Some b → s ≡ session.Begun b
begun_was session.Free b e = absurd cc
begun_was (session.Silent name) b e = absurd cc
begun_was (session.Refused fault) b e = absurd cc
begun_was (session.Begun c) b e = ap session.Begun (some_same e) where
  some_same : {x y : Begun} → Some x ≡ Some y → x ≡ y
  some_same e = cc

takes_up : (n before : ℕ) (o : Option Begun) (loans : ℕ) (received : Received) (old new : HostView) → begun_of (session_at old.sessions before) ≡ o → HasOwn old
    → TakesUp n before o loans received old new → HasOwn new
takes_up n before None loans received old new was own t = stays old new t.1 own
takes_up n before (Some b) loans received old new was own t =
    let lost : List ℕ = slots_in (lost_of b loans (last_at old.last before)) in
    becomes new (slice_set (slice_set old.sessions before session.Free) n (session.Begun (heard_with b loans))) old.domain.clients
    (ap (λ (h : HostView). h.sessions) t.now) (ap (λ (h : HostView). h.domain.clients) t.now ∙ releases_clients b.client lost old.domain)
    (moved old.sessions old.domain.clients n before b (heard_with b loans) (begun_was (session_at old.sessions before) b was) refl own)

greets : (n : ℕ) (name : List ℕ) (o : Option ℕ) (loans : ℕ) (received : Received) (old new : HostView) → session_at old.sessions n ≡ session.Silent name → HasOwn old
    → Greets n name o loans received old new → HasOwn new
greets n name None loans received old new was own g = begins n name (next_client old.domain) received old new was refl own g
greets n name (Some before) loans received old new was own g = takes_up n before (begun_of (session_at old.sessions before)) loans received old new refl own g

opens : (n : ℕ) (may : Process) (name : List ℕ) (m : ClientMessage) (received : Received) (old new : HostView) → session_at old.sessions n ≡ session.Silent name → HasOwn old
    → Opens n may name m received old new → HasOwn new
opens n may name (client.Hello wanted) received old new was own o = greets n name (wanted_in old.sessions may wanted) (loans_of wanted) received old new was own o
opens n may name (client.Ask questions) received old new was own o = breaks n (session.Silent name) fault.Early received old new was own o
opens n may name (client.Lend count) received old new was own o = breaks n (session.Silent name) fault.Early received old new was own o
opens n may name (client.Release slots) received old new was own o = breaks n (session.Silent name) fault.Early received old new was own o

-- a session goes on, and no client enters or leaves
goes_on : (n : ℕ) (b now : Begun) (old new : HostView) → session_at old.sessions n ≡ session.Begun b → now.client ≡ b.client → HasOwn old
    → new.sessions ≡ slice_set old.sessions n (session.Begun now) → new.domain.clients ≡ old.domain.clients → HasOwn new
goes_on n b now old new was whose own e f = becomes new (slice_set old.sessions n (session.Begun now)) old.domain.clients e f (same_put old.sessions old.domain.clients n b now was whose own)

lends_first : (n : ℕ) (b : Begun) (count most : ℕ) (pages : List (List ℕ)) (received : Received) (old new : HostView) → session_at old.sessions n ≡ session.Begun b → HasOwn old
    → LendsFirst n b count most pages received old new → HasOwn new
lends_first n b count most pages received old new was own l =
    elim (cases_lt (length pages) (offered count most)) [
      | inl short ↦ breaks n (session.Begun b) fault.Pages received old new was own (l.short short)
      | inr le ↦ elim (cases_lt MAX_IN_MESSAGE count) [
        | inl over ↦ breaks n (session.Begun b) fault.Pages received old new was own (l.many over)
        | inr few ↦
            let w = l.enough few le in
            goes_on n b (lent b) old new was refl own (ap (λ (h : HostView). h.sessions) w.now)
            (lends_clients old.salt b.client old.quota (take (offered count most) pages) w.lends.lent old.domain new.domain w.lends.lends)
      ]
    ]

talks : (n most : ℕ) (pages : List (List ℕ)) (b : Begun) (m : ClientMessage) (received : Received) (old new : HostView) → session_at old.sessions n ≡ session.Begun b → HasOwn old
    → Talks n most pages b m received old new → HasOwn new
talks n most pages b (client.Hello wanted) received old new was own t = breaks n (session.Begun b) fault.Again received old new was own t
talks n most pages b (client.Ask questions) received old new was own t = goes_on n b (heard b) old new was refl own (ap (λ (h : HostView). h.sessions) t.now) (ap (λ (h : HostView). h.domain.clients) t.now)
talks n most pages b (client.Lend count) received old new was own t = lends_first n b count most pages received old new was own t
talks n most pages b (client.Release slots) received old new was own t =
    goes_on n b (heard b) old new was refl own (ap (λ (h : HostView). h.sessions) t.now) (ap (λ (h : HostView). h.domain.clients) t.now ∙ releases_clients b.client slots.items old.domain)

steps : (n : ℕ) (may : Allowance) (pages : List (List ℕ)) (s : Session) (m : ClientMessage) (received : Received) (old new : HostView) → session_at old.sessions n ≡ s → HasOwn old
    → Steps n may pages s m received old new → HasOwn new
steps n may pages session.Free m received old new was own p = stays old new p.1 own
steps n may pages (session.Refused first) m received old new was own p = stays old new p.1 own
steps n may pages (session.Silent name) m received old new was own p = opens n may.process name m received old new was own p
steps n may pages (session.Begun b) m received old new was own p = talks n (most_in old b may.most may.process) pages b m received old new was own p

hears : (n : ℕ) (may : Allowance) (pages : List (List ℕ)) (s : Session) (r : Result ClientMessage MessageFault) (received : Received) (old new : HostView) → session_at old.sessions n ≡ s → HasOwn old
    → Hears n may pages s r received old new → HasOwn new
hears n may pages s (Ok m) received old new was own p = steps n may pages s m received old new was own p
hears n may pages s (Err f) received old new was own p = breaks n s (fault.Message f) received old new was own p

pub receive_keeps : (n : ℕ) (bytes : List ℕ) (pages : List (List ℕ)) (may : Allowance) (received : Received) (old new : HostView) → HasOwn old → Receives n bytes pages may received old new → HasOwn new
receive_keeps n bytes pages may received old new own p =
    elim (cases_Bool (takes (session_at old.sessions n))) [
      | inl took ↦ hears n may pages (session_at old.sessions n) (client_at bytes) received old new refl own (p.heard-if took)
      | inr idle ↦ stays old new (p.idle-if idle).1 own
    ]

pub take_back_keeps : (n : ℕ) (s : Session) (frames : List ℕ) (received : Received) (old new : HostView) → HasOwn old → TakesBackAt n s frames received old new → HasOwn new
take_back_keeps n session.Free frames received old new own t = stays old new t.1 own
take_back_keeps n (session.Silent name) frames received old new own t = stays old new t.1 own
take_back_keeps n (session.Refused fault) frames received old new own t = stays old new t.1 own
take_back_keeps n (session.Begun b) frames received old new own t =
    becomes new old.sessions old.domain.clients (ap (λ (h : HostView). h.sessions) t.now)
    (ap (λ (h : HostView). h.domain.clients) t.now ∙ releases_clients b.client (back_of frames (last_at old.last n)) old.domain) own

-- ---- connections

pub empty_has : (config : HostConfig) → HasOwn (empty_host config)
empty_has config = record { here = λ n b e. absurd (none n b e); apart = λ m n b c e f same. absurd (none m b e) } where
  count : ℕ
  count = config.domain.clients

  none : (n : ℕ) (b : Begun) → session_at (replicate count session.Free) n ≡ session.Begun b → ⊥
  none n b e = elim (cases_lt n count) [
    | inl lt ↦ free_begun b (sym (get_or-replicate count n session.Free session.Free lt) ∙ e)
    | inr le ↦ free_begun b (sym (get_or_past (replicate count session.Free) n session.Free (omega (arith, le, length-replicate count session.Free))) ∙ e)
  ]

connect_by : (name : List ℕ) (o : Option ℕ) (ss : List Session) (cs : List Presence) → AreOwn ss cs → AreOwn (connected name o ss) cs
connect_by name None ss cs own = own
connect_by name (Some n) ss cs own = nothing_put ss cs n (session.Silent name) (λ b e. absurd cc) own

pub connect_keeps : (name : List ℕ) (h : HostView) → HasOwn h → AreOwn (connected name (next_number h.sessions) h.sessions) h.domain.clients
connect_keeps name h own = connect_by name (next_number h.sessions) h.sessions h.domain.clients own

pub disconnect_keeps : (n : ℕ) (h : HostView) → HasOwn h → AreOwn (slice_set h.sessions n (gone (session_at h.sessions n))) h.domain.clients
disconnect_keeps n h own = gone_put h.sessions h.domain.clients n (session_at h.sessions n) refl own

-- ---- the end of a process

abbrev leaving_of : Begun → Begun
leaving_of b = record { name = b.name; client = b.client; messages = b.messages; loans = b.loans; link = link.Ended }

-- a session whose client leaves: it is free then, or its client is leaving
leaves_put : (ss : List Session) (cs : List Presence) (n count : ℕ) (b : Begun) (first : Option Slot) → session_at ss n ≡ session.Begun b → (first ≡ None → count ≡ 0) → AreOwn ss cs
    → AreOwn (slice_set ss n (ended b count)) (slice_set cs b.client (presence_of first))
leaves_put ss cs n count b first was none own = put_keeps ss cs (slice_set cs b.client (presence_of first)) n (ended b count) own others (λ c e. fits c (cases_Bool (eqb count 0)) e) where
  others : (m : ℕ) (c : Begun) → m ≢ n → session_at ss m ≡ session.Begun c → is_present (get_or (slice_set cs b.client (presence_of first)) c.client Out) ≡ true
  others m c other e =
      ap is_present (get_or-set_other cs b.client c.client (presence_of first) Out (λ same. other (own.apart m n c b e was same))) ∙ own.here m c e

  in_range : b.client < length cs
  in_range = elim (cases_lt b.client (length cs)) [
    | inl lt ↦ lt
    | inr le ↦ absurd (clash Out (sym (ap is_present (get_or_past cs b.client Out le)) ∙ own.here n b was) refl)
  ]

  leaving : (o : Option Slot) → (o ≡ None → count ≡ 0) → eqb count 0 ≡ false → is_present (presence_of o) ≡ true
  leaving None f e = absurd (false≢true (sym e ∙ ap (λ (k : ℕ). eqb k 0) (f refl)))
  leaving (Some slot) f e = refl

  fits : (c : Begun) → ((eqb count 0 ≡ true) ⊎ (eqb count 0 ≡ false)) → ended b count ≡ session.Begun c → FitsIn ss (slice_set cs b.client (presence_of first)) n c
  fits c (inl zero_) e = absurd (free_begun c (sym (ap (λ (x : Bool). cond x session.Free (session.Begun (leaving_of b))) zero_) ∙ e))
  fits c (inr some) e =
      let now : Begun = leaving_of b in
      let is : session.Begun now ≡ session.Begun c = sym (ap (λ (x : Bool). cond x session.Free (session.Begun now)) some) ∙ e in
      let whose : c.client ≡ b.client = ap (λ (x : Begun). x.client) (sym (begun_same is)) in
      record {
        here = ap (λ (k : ℕ). is_present (get_or (slice_set cs b.client (presence_of first)) k Out)) whose
            ∙ ap is_present (get_or-set_same cs b.client (presence_of first) Out in_range) ∙ leaving first none some;
        alone = λ m d other there eq. other (own.apart m n d b there was (eq ∙ whose));
      }

ends_begun : (n : ℕ) (b : Begun) (count : ℕ) (room after : List ℕ) (old new : HostView) → session_at old.sessions n ≡ session.Begun b → HasOwn old → EndsBegun n b count room after old new → HasOwn new
ends_begun n b count room after old new was own e = pick e.answer e.leaves (ap (λ (h : HostView). h.sessions) e.now) where
  pick : (answer : Option ℕ) → MatchOption answer (StaysOut b.client room after old.domain new.domain) (λ c. Leaves b.client c room after old.domain new.domain)
      → new.sessions ≡ slice_set old.sessions n (ended b (count_of answer)) → HasOwn new
  pick None l now = becomes new (slice_set old.sessions n session.Free) old.domain.clients now (ap (λ (d : DomainView). d.clients) l.now) (nothing_put old.sessions old.domain.clients n session.Free (λ c e. free_begun c e) own)
  pick (Some c) l now =
      becomes new (slice_set old.sessions n (ended b c)) (slice_set old.domain.clients b.client (presence_of (first_slot b.client old.domain.machines))) now (ap (λ (d : DomainView). d.clients) l.now)
      (leaves_put old.sessions old.domain.clients n c b (first_slot b.client old.domain.machines) was l.none.1 own)

ends_by : (n : ℕ) (s : Session) (result : Option ℕ) (room after : List ℕ) (old new : HostView) → session_at old.sessions n ≡ s → HasOwn old → Ends n s result room after old new → HasOwn new
ends_by n session.Free result room after old new was own e = stays old new e.2 own
ends_by n (session.Silent name) result room after old new was own e =
    becomes new (slice_set old.sessions n session.Free) old.domain.clients (ap (λ (h : HostView). h.sessions) e.2) (ap (λ (h : HostView). h.domain.clients) e.2) (nothing_put old.sessions old.domain.clients n session.Free (λ c e. free_begun c e) own)
ends_by n (session.Refused fault) result room after old new was own e =
    becomes new (slice_set old.sessions n session.Free) old.domain.clients (ap (λ (h : HostView). h.sessions) e.2) (ap (λ (h : HostView). h.domain.clients) e.2) (nothing_put old.sessions old.domain.clients n session.Free (λ c e. free_begun c e) own)
ends_by n (session.Begun b) None room after old new was own e = absurd e
ends_by n (session.Begun b) (Some count) room after old new was own e = ends_begun n b count room after old new was own e

pub end_keeps : (n : ℕ) (result : Option ℕ) (room after : List ℕ) (old new : HostView) → HasOwn old → Ends n (session_at old.sessions n) result room after old new → HasOwn new
end_keeps n result room after old new own e = ends_by n (session_at old.sessions n) result room after old new refl own e

pub end_empty_keeps : (n : ℕ) (result : Bool) (old new : HostView) → HasOwn old → EndsEmpty n (session_at old.sessions n) result old new → HasOwn new
end_empty_keeps n result old new own e = pick (session_slots old.domain.machines (session_at old.sessions n)) refl where
  pick : (count : ℕ) → session_slots old.domain.machines (session_at old.sessions n) ≡ count → HasOwn new
  pick zero z = let now = (e.empty z).1 in end_keeps n now.count now.room now.after old new own now.ends
  pick (suc k) z = stays old new (e.held (omega (arith, z))).1 own
