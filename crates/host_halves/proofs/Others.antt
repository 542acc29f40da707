-- What packets and ends of other sessions leave of a session.
use Rattle.std.proofs.Common.{◌≡◌, ◌≢◌, ◌∙◌, ◌⊎◌, inl, inr, ℕ, zero, suc, ◌<◌, ◌≤◌, Bool, true, false, List, [], length, take, Option, Some, None, Result, Ok, Err, refl, ap, sym, subst, arith}
use Rattle.std.specs.Prelude.{nat_eq, slice_set}
use Rattle.std.proofs.lemmas.Bool.{cases_Bool, cases_lt, eqb-true, eqb-false, eq-eqb, false≢true}
use Rattle.std.proofs.lemmas.List.{get_or-set_other}
use Rattle.host_messages.specs.declared.client.ClientMessage.{ClientMessage}
use Rattle.host_messages.specs.declared.client.ClientMessage.TheVariants as client
use Rattle.host_messages.specs.declared.fault.MessageFault.{MessageFault}
use Rattle.host_messages.specs.declared.item.Lent.{Lent}
use Rattle.host_messages.specs.declared.limits.TheConstants.{MAX_IN_MESSAGE}
use Rattle.host_messages.specs.Reading.{client_at}
use Rattle.lent_slots.specs.declared.holding.Holding.{Holding}
use Rattle.lent_slots.specs.Slots.{is_of}
use Rattle.share_domain.specs.declared.holding.Slot.{Slot}
use Rattle.share_domain.specs.Domains.{DomainView, held_in, next_client}
use Rattle.share_domain.specs.Numbers.{slot_by}
use Rattle.host_sessions.specs.declared.allowance.Allowance.{Allowance}
use Rattle.host_sessions.specs.declared.allowance.Process.{Process}
use Rattle.host_sessions.specs.declared.answer.Received.{Received}
use Rattle.host_sessions.specs.declared.session.SessionFault.{SessionFault}
use Rattle.host_sessions.specs.declared.session.SessionFault.TheVariants as fault
use Rattle.host_sessions.specs.declared.session.Begun.{Begun}
use Rattle.host_sessions.specs.declared.session.Session.{Session}
use Rattle.host_sessions.specs.declared.session.Session.TheVariants as session
use Rattle.host_sessions.specs.Ends.{Ends, EndsBegun, EndsEmpty, ended, count_of}
use Rattle.host_sessions.specs.Others.{IsNotOf, SparesOthers}
use Rattle.host_sessions.specs.Own.{AreOwn, HasOwn}
use Rattle.host_sessions.specs.Table as table
use Rattle.host_sessions.specs.Table.{session_at, wanted_in, loans_of, begun_of, faulted, Loans, no_loans, last_at, lost_of, session_slots}
use Rattle.host_sessions.specs.Turns.{offered, kept_of}
use Rattle.host_sessions.specs.Steps.{HostView, Breaks, Greets, Begins, Resumes, TakesUp, Opens, Talks, Steps, LendsFirst, Hears, Receives, TakesBackAt, most_in}
use Rattle.host_sessions.proofs.Apart.{receives_spare, take_back_spares}
use Rattle.host_sessions.proofs.Stay.{ends_spare}
use Rattle.host_sessions.proofs.Own.{receive_keeps, take_back_keeps}
use Rattle.session_laws.specs.World.{HostSide}
use Rattle.host_halves.specs.Halves.{frame_if, frame_for, IsHalf, HasHalf, takes_up, OthersKeepHalf, BacksKeepHalf, EndsKeepHalf, EmptiesKeepHalf}
use Rattle.host_halves.proofs.Held.{not_its}

-- ---- the session itself

record Elsewhere (k : ℕ) (old new : HostView) : Type 0 where
  sessions : session_at new.sessions k ≡ session_at old.sessions k
  last : last_at new.last k ≡ last_at old.last k

same_host : (k : ℕ) (old new : HostView) → new ≡ old → Elsewhere k old new
same_host k old new e = record { sessions = ap (λ (v : HostView). session_at v.sessions k) e; last = ap (λ (v : HostView). last_at v.last k) e }

other_session : (sessions : List Session) (n k : ℕ) (s : Session) → k ≢ n → session_at (slice_set sessions n s) k ≡ session_at sessions k
other_session sessions n k s ne = get_or-set_other sessions n k s session.Free ne

other_last : (last : List Loans) (n k : ℕ) (loans : Loans) → k ≢ n → last_at (slice_set last n loans) k ≡ last_at last k
other_last last n k loans ne = ap (λ (x : Loans). x.items) (get_or-set_other last n k loans no_loans ne)

-- one session was put, and no reply to Lend
puts : (n k : ℕ) (s : Session) (old new : HostView) → k ≢ n → new.sessions ≡ slice_set old.sessions n s → new.last ≡ old.last → Elsewhere k old new
puts n k s old new ne e f = record {
  sessions = ap (λ (x : List Session). session_at x k) e ∙ other_session old.sessions n k s ne;
  last = ap (λ (x : List Loans). last_at x k) f;
}

-- and a reply, too
puts_both : (n k : ℕ) (s : Session) (loans : Loans) (old new : HostView) → k ≢ n → new.sessions ≡ slice_set old.sessions n s → new.last ≡ slice_set old.last n loans → Elsewhere k old new
puts_both n k s loans old new ne e f = record {
  sessions = ap (λ (x : List Session). session_at x k) e ∙ other_session old.sessions n k s ne;
  last = ap (λ (x : List Loans). last_at x k) f ∙ other_last old.last n k loans ne;
}

breaks : (n k : ℕ) (s : Session) (f : SessionFault) (received : Received) (old new : HostView) → k ≢ n → Breaks n s f received old new → Elsewhere k old new
breaks n k s f received old new ne b = puts n k (faulted s f) old new ne (ap (λ (v : HostView). v.sessions) b.1) (ap (λ (v : HostView). v.last) b.1)

begins : (n k : ℕ) (name : List ℕ) (o : Option ℕ) (received : Received) (old new : HostView) → k ≢ n → Begins n name o received old new → Elsewhere k old new
begins n k name None received old new ne b = breaks n k (session.Silent name) fault.Clients received old new ne b
begins n k name (Some c) received old new ne b = puts_both n k _ (record { items = [] }) old new ne (ap (λ (v : HostView). v.sessions) b.1) (ap (λ (v : HostView). v.last) b.1)

resumes : (n k before : ℕ) (b : Begun) (loans : ℕ) (lost : List Lent) (received : Received) (old new : HostView) → k ≢ n → takes_up k received ≡ false → Resumes n before b loans lost received old new → Elsewhere k old new
resumes n k before b loans lost received old new ne not_it r =
    let apart : nat_eq before k ≡ false = sym (ap (λ (x : Received). takes_up k x) r.reply) ∙ not_it in
    let ne_before : k ≢ before = λ e. eqb-false before k apart (sym e) in
    record {
      sessions = ap (λ (v : HostView). session_at v.sessions k) r.now ∙ other_session (slice_set old.sessions before session.Free) n k _ ne ∙ other_session old.sessions before k session.Free ne_before;
      last = ap (λ (v : HostView). last_at v.last k) r.now ∙ other_last old.last n k (record { items = [] }) ne;
    }

takes : (n k before : ℕ) (o : Option Begun) (loans : ℕ) (received : Received) (old new : HostView) → k ≢ n → takes_up k received ≡ false → TakesUp n before o loans received old new → Elsewhere k old new
takes n k before None loans received old new ne not_it t = same_host k old new t.1
takes n k before (Some b) loans received old new ne not_it t = resumes n k before b loans (lost_of b loans (last_at old.last before)) received old new ne not_it t

greets : (n k : ℕ) (name : List ℕ) (o : Option ℕ) (loans : ℕ) (received : Received) (old new : HostView) → k ≢ n → takes_up k received ≡ false → Greets n name o loans received old new → Elsewhere k old new
greets n k name None loans received old new ne not_it g = begins n k name (next_client old.domain) received old new ne g
greets n k name (Some before) loans received old new ne not_it g = takes n k before (begun_of (session_at old.sessions before)) loans received old new ne not_it g

opens : (n k : ℕ) (may : Process) (name : List ℕ) (m : ClientMessage) (received : Received) (old new : HostView) → k ≢ n → takes_up k received ≡ false → Opens n may name m received old new → Elsewhere k old new
opens n k may name (client.Hello wanted) received old new ne not_it o = greets n k name (wanted_in old.sessions may wanted) (loans_of wanted) received old new ne not_it o
opens n k may name (client.Ask questions) received old new ne not_it o = breaks n k (session.Silent name) fault.Early received old new ne o
opens n k may name (client.Lend count) received old new ne not_it o = breaks n k (session.Silent name) fault.Early received old new ne o
opens n k may name (client.Release slots) received old new ne not_it o = breaks n k (session.Silent name) fault.Early received old new ne o

lends_first : (n k : ℕ) (b : Begun) (count most : ℕ) (pages : List (List ℕ)) (received : Received) (old new : HostView) → k ≢ n → LendsFirst n b count most pages received old new → Elsewhere k old new
lends_first n k b count most pages received old new ne l =
    elim (cases_lt (length pages) (offered count most)) [
      | inl short ↦ breaks n k (session.Begun b) fault.Pages received old new ne (l.short short)
      | inr le ↦ elim (cases_lt MAX_IN_MESSAGE count) [
        | inl over ↦ breaks n k (session.Begun b) fault.Pages received old new ne (l.many over)
        | inr few ↦ let w = l.enough few le in puts_both n k _ _ old new ne (ap (λ (v : HostView). v.sessions) w.now) (ap (λ (v : HostView). v.last) w.now)
      ]
    ]

talks : (n k most : ℕ) (pages : List (List ℕ)) (b : Begun) (m : ClientMessage) (received : Received) (old new : HostView) → k ≢ n → Talks n most pages b m received old new → Elsewhere k old new
talks n k most pages b (client.Hello wanted) received old new ne t = breaks n k (session.Begun b) fault.Again received old new ne t
talks n k most pages b (client.Ask questions) received old new ne t = puts n k _ old new ne (ap (λ (v : HostView). v.sessions) t.now) (ap (λ (v : HostView). v.last) t.now)
talks n k most pages b (client.Lend count) received old new ne t = lends_first n k b count most pages received old new ne t
talks n k most pages b (client.Release slots) received old new ne t = puts n k _ old new ne (ap (λ (v : HostView). v.sessions) t.now) (ap (λ (v : HostView). v.last) t.now)

steps : (n k : ℕ) (may : Allowance) (pages : List (List ℕ)) (s : Session) (m : ClientMessage) (received : Received) (old new : HostView) → k ≢ n → takes_up k received ≡ false → Steps n may pages s m received old new → Elsewhere k old new
steps n k may pages session.Free m received old new ne not_it p = same_host k old new p.1
steps n k may pages (session.Refused first) m received old new ne not_it p = same_host k old new p.1
steps n k may pages (session.Silent name) m received old new ne not_it p = opens n k may.process name m received old new ne not_it p
steps n k may pages (session.Begun b) m received old new ne not_it p = talks n k (most_in old b may.most may.process) pages b m received old new ne p

hears : (n k : ℕ) (may : Allowance) (pages : List (List ℕ)) (s : Session) (r : Result ClientMessage MessageFault) (received : Received) (old new : HostView) → k ≢ n → takes_up k received ≡ false → Hears n may pages s r received old new → Elsewhere k old new
hears n k may pages s (Ok m) received old new ne not_it p = steps n k may pages s m received old new ne not_it p
hears n k may pages s (Err f) received old new ne not_it p = breaks n k s (fault.Message f) received old new ne p

receives_elsewhere : (n k : ℕ) (bytes : List ℕ) (pages : List (List ℕ)) (may : Allowance) (received : Received) (old new : HostView) → k ≢ n → takes_up k received ≡ false → Receives n bytes pages may received old new → Elsewhere k old new
receives_elsewhere n k bytes pages may received old new ne not_it p =
    elim (cases_Bool (table.takes (session_at old.sessions n))) [
      | inl took ↦ hears n k may pages (session_at old.sessions n) (client_at bytes) received old new ne not_it (p.heard-if took)
      | inr idle ↦ same_host k old new (p.idle-if idle).1
    ]

-- ---- its slots

begun_same : {b c : Begun} → session.Begun b ≡ session.Begun c → b ≡ c
begun_same e = cc

-- a slot of this client isn't of a session that has another one
not_of_it : (b : Begun) (s : Session) → ((c : Begun) → s ≡ session.Begun c → c.client ≡ b.client → ⊥) → (held : Option Holding) → is_of b.client held ≡ true → IsNotOf s held
not_of_it b session.Free apart None e = absurd (false≢true e)
not_of_it b session.Free apart (Some h) e = tt
not_of_it b (session.Silent name) apart None e = absurd (false≢true e)
not_of_it b (session.Silent name) apart (Some h) e = tt
not_of_it b (session.Refused fault) apart None e = absurd (false≢true e)
not_of_it b (session.Refused fault) apart (Some h) e = tt
not_of_it b (session.Begun c) apart None e = absurd (false≢true e)
not_of_it b (session.Begun c) apart (Some h) e = elim (cases_Bool (nat_eq h.client c.client)) [
  | inl same ↦ absurd (apart c refl (sym (eqb-true h.client c.client same) ∙ eqb-true h.client b.client e))
  | inr other ↦ other
]

frame_stays : (b : Begun) (s : Session) (old new : DomainView) → ((c : Begun) → s ≡ session.Begun c → c.client ≡ b.client → ⊥) → SparesOthers s old new → (number : ℕ) → frame_for b.client new number ≡ frame_for b.client old number
frame_stays b s old new apart spares number = pick (cases_Bool (is_of b.client was)) (cases_Bool (is_of b.client is)) where
  slot : Slot
  slot = slot_by number

  was : Option Holding
  was = held_in old.machines slot

  is : Option Holding
  is = held_in new.machines slot

  whole : is ≡ was → frame_for b.client new number ≡ frame_for b.client old number
  whole e = ap (λ (n : ℕ). frame_if b.client n slot.machine is) spares.frames ∙ ap (λ (o : Option Holding). frame_if b.client old.frames slot.machine o) e

  pick : (is_of b.client was ≡ true) ⊎ (is_of b.client was ≡ false) → (is_of b.client is ≡ true) ⊎ (is_of b.client is ≡ false) → frame_for b.client new number ≡ frame_for b.client old number
  pick (inl its) now = whole (spares.stay slot (not_of_it b s apart was its))
  pick (inr none) (inl its) = whole (sym (spares.no_more slot (not_of_it b s apart is its)))
  pick (inr none) (inr neither) = not_its b.client new.frames slot.machine is neither ∙ sym (not_its b.client old.frames slot.machine was none)

-- ---- both

keeps : (k : ℕ) (b : Begun) (s : Session) (old new : HostView) (h : HostSide) → Elsewhere k old new → ((c : Begun) → s ≡ session.Begun c → c.client ≡ b.client → ⊥) → SparesOthers s old.domain new.domain → HasHalf k b old h → HasHalf k b new h
keeps k b s old new h there apart spares has = record {
  begun = there.sessions ∙ has.begun;
  half = record {
    name = has.half.name;
    loans = has.half.loans;
    last-is = has.half.last-is ∙ sym there.last;
    held = λ number. has.half.held number ∙ sym (frame_stays b s old.domain new.domain apart spares number);
  };
}

pub others_keep : OthersKeepHalf
others_keep n k bytes pages may received old new b h own ne not_it p has =
    let there : Elsewhere k old new = receives_elsewhere n k bytes pages may received old new ne not_it p in
    let own_then : HasOwn new = receive_keeps n bytes pages may received old new own p in
    keeps k b (session_at new.sessions n) old new h there
    (λ c e same. ne (own_then.apart k n b c (there.sessions ∙ has.begun) e (sym same)))
    (receives_spare n bytes pages may received old new p) has

-- ---- loans that are taken back

backs_elsewhere : (n k : ℕ) (s : Session) (frames : List ℕ) (received : Received) (old new : HostView) → k ≢ n → TakesBackAt n s frames received old new → Elsewhere k old new
backs_elsewhere n k session.Free frames received old new ne t = same_host k old new t.1
backs_elsewhere n k (session.Silent name) frames received old new ne t = same_host k old new t.1
backs_elsewhere n k (session.Refused fault) frames received old new ne t = same_host k old new t.1
backs_elsewhere n k (session.Begun b) frames received old new ne t = record {
  sessions = ap (λ (v : HostView). session_at v.sessions k) t.now;
  last = ap (λ (v : HostView). last_at v.last k) t.now ∙ other_last old.last n k (record { items = kept_of frames (last_at old.last n) }) ne;
}

pub backs_keep : BacksKeepHalf
backs_keep n k frames received old new b h own ne t has =
    let there : Elsewhere k old new = backs_elsewhere n k (session_at old.sessions n) frames received old new ne t in
    let own_then : HasOwn new = take_back_keeps n (session_at old.sessions n) frames received old new own t in
    keeps k b (session_at new.sessions n) old new h there
    (λ c e same. ne (own_then.apart k n b c (there.sessions ∙ has.begun) e (sym same)))
    (take_back_spares n frames received old new t) has

-- ---- ends

ends_elsewhere : (n k : ℕ) (s : Session) (result : Option ℕ) (room after : List ℕ) (old new : HostView) → k ≢ n → Ends n s result room after old new → Elsewhere k old new
ends_elsewhere n k session.Free result room after old new ne e = same_host k old new e.2
ends_elsewhere n k (session.Silent name) result room after old new ne e = puts n k session.Free old new ne (ap (λ (v : HostView). v.sessions) e.2) (ap (λ (v : HostView). v.last) e.2)
ends_elsewhere n k (session.Refused fault) result room after old new ne e = puts n k session.Free old new ne (ap (λ (v : HostView). v.sessions) e.2) (ap (λ (v : HostView). v.last) e.2)
ends_elsewhere n k (session.Begun b) None room after old new ne e = absurd e
ends_elsewhere n k (session.Begun b) (Some count) room after old new ne e = puts n k _ old new ne (ap (λ (v : HostView). v.sessions) e.now) (ap (λ (v : HostView). v.last) e.now)

pub ends_keep : EndsKeepHalf
ends_keep n k result room after old new b h own ne e has =
    keeps k b (session_at old.sessions n) old new h (ends_elsewhere n k (session_at old.sessions n) result room after old new ne e)
    (λ c there same. ne (own.apart k n b c has.begun there (sym same)))
    (ends_spare n (session_at old.sessions n) result room after old new e) has

pub empties_keep : EmptiesKeepHalf
empties_keep n k result old new b h own ne e has = pick (session_slots old.domain.machines (session_at old.sessions n)) refl where
  pick : (count : ℕ) → session_slots old.domain.machines (session_at old.sessions n) ≡ count → HasHalf k b new h
  pick zero z = let now = (e.empty z).1 in ends_keep n k now.count now.room now.after old new b h own ne now.ends has
  pick (suc m) z = subst (λ (v : HostView). HasHalf k b v h) (sym (e.held (omega (arith, z))).1) has
