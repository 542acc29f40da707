-- Slots that stay read the same bytes after a packet as before.
use Rattle.std.proofs.Common.{◌≡◌, ◌≢◌, ◌⊎◌, inl, inr, ℕ, ◌<◌, ◌≤◌, Bool, true, false, cond, List, [], ◌∷◌, length, take, Option, Some, None, Result, Ok, Err, refl, sym, ap, subst, ◌∙◌}
use Rattle.std.specs.Prelude.{slice_get, slice_set, IfOk, MatchOption}
use Rattle.std.proofs.lemmas.Bool.{cases_eq, cases_lt, cases_Bool}
use Rattle.std.proofs.lemmas.List.{get_or-set_same, set_past}
use Rattle.machine_frames.specs.FrameMap.{frame}
use Rattle.lent_slots.specs.declared.holding.Holding.{Holding}
use Rattle.lent_slots.specs.Slots.{MachineView, holding, is_of, lent_slots, released}
use Rattle.lent_slots.proofs.SlotLists.{set_other}
use Rattle.lent_slots.proofs.Bytes.{keeps_released}
use Rattle.host_messages.specs.declared.client.ClientMessage.{ClientMessage}
use Rattle.host_messages.specs.declared.client.ClientMessage.TheVariants as client
use Rattle.host_messages.specs.declared.fault.MessageFault.{MessageFault}
use Rattle.host_messages.specs.declared.item.Lent.{Lent}
use Rattle.host_messages.specs.declared.limits.TheConstants.{MAX_IN_MESSAGE}
use Rattle.host_messages.specs.Reading.{client_at}
use Rattle.share_domain.specs.declared.holding.Slot.{Slot}
use Rattle.share_domain.specs.declared.holding.Loan.{Loan}
use Rattle.share_domain.specs.declared.fault.LendFault.{LendFault}
use Rattle.share_domain.specs.Bytes.{BytesStay}
use Rattle.share_domain.specs.Domains.{DomainView, with_machines, machine_at, no_machine, held_in, with_released, after_release, LendsIn, next_client}
use Rattle.share_domain.specs.Leaving.{Leaves, StaysOut}
use Rattle.share_domain.specs.Numbers.{slot_by}
use Rattle.share_domain.specs.Totals.{slots_of}
use Rattle.share_domain.proofs.Bytes.{bytes_by_release, bytes_by_leave}
use Rattle.host_sessions.specs.declared.allowance.Allowance.{Allowance}
use Rattle.host_sessions.specs.declared.allowance.Process.{Process}
use Rattle.host_sessions.specs.declared.answer.Received.{Received}
use Rattle.host_sessions.specs.declared.session.SessionFault.{SessionFault}
use Rattle.host_sessions.specs.declared.session.SessionFault.TheVariants as fault
use Rattle.host_sessions.specs.declared.session.Begun.{Begun}
use Rattle.host_sessions.specs.declared.session.Session.{Session}
use Rattle.host_sessions.specs.declared.session.Session.TheVariants as session
use Rattle.host_sessions.specs.Ends.{Ends, EndsBegun}
use Rattle.host_sessions.specs.Others.{SparesOthers}
use Rattle.host_sessions.specs.Table.{takes, session_at, wanted_in, loans_of, begun_of, lost_of, last_at}
use Rattle.host_sessions.specs.Turns.{Answers, LendsOne, after_releases, slots_in, offered, back_of}
use Rattle.host_sessions.specs.Steps.{HostView, Breaks, Greets, Begins, Resumes, TakesUp, Opens, Talks, Steps, LendsFirst, Hears, Receives, TakesBackAt, most_in}
use Rattle.host_sessions.proofs.Apart.{same_domain, spares_begun}
use Rattle.host_sessions.proofs.Gained.{leave_gains}
use Rattle.host_sessions.proofs.Spared.{machine_other, free_held, leave_spares}

-- ---- lends: what is held stays held

pub record HeldStay (old new : DomainView) : Type 0 where
  pub held : (slot : Slot) (h : Holding) → held_in old.machines slot ≡ Some h → held_in new.machines slot ≡ Some h

pub same_held : (old new : DomainView) → new ≡ old → HeldStay old new
same_held old new e = record { held = λ slot h is. ap (λ (d : DomainView). held_in d.machines slot) e ∙ is }

pub held_then : (a b c : DomainView) → HeldStay a b → HeldStay b c → HeldStay a c
held_then a b c f g = record { held = λ slot h is. g.held slot h (f.held slot h is) }

lends_hold : (m client : ℕ) (page : List ℕ) (loan : Loan) (old new : DomainView) → LendsIn m client page loan old new → HeldStay old new
lends_hold m client page loan old new lends = record { held = λ slot h is. pick slot h is (cases_eq slot.machine m) } where
  pick : (slot : Slot) (h : Holding) → held_in old.machines slot ≡ Some h → ((slot.machine ≡ m) ⊎ (slot.machine ≡ m → ⊥)) → held_in new.machines slot ≡ Some h
  pick slot h is (inl same) =
      let now : (machine_at new.machines m).slots ≡ lent_slots client loan.slot.ppn lends.mpn (machine_at old.machines m).slots = ap (λ (v : MachineView). v.slots) lends.lends.now in
      let here : holding (machine_at old.machines m).slots slot.ppn ≡ Some h = ap (λ (k : ℕ). holding (machine_at old.machines k).slots slot.ppn) (sym same) ∙ is in
      let apart : slot.ppn ≢ loan.slot.ppn = λ e. none_some h (sym (ap (λ (k : ℕ). holding (machine_at old.machines m).slots k) e ∙ free_held (machine_at old.machines m).slots loan.slot.ppn lends.lends.was_free) ∙ here) in
      ap (λ (k : ℕ). holding (machine_at new.machines k).slots slot.ppn) same
      ∙ ap (λ (l : List (Option Holding)). holding l slot.ppn) now
      ∙ set_other (machine_at old.machines m).slots loan.slot.ppn slot.ppn _ apart ∙ here
    where
      none_some : (x : Holding) → None ≡ Some x → ⊥
      none_some x e = absurd cc
  pick slot h is (inr other) =
      ap (λ (d : DomainView). holding (machine_at d.machines slot.machine).slots slot.ppn) lends.rest
      ∙ ap (λ (v : MachineView). holding v.slots slot.ppn) (machine_other old.machines m slot.machine (machine_at new.machines m) other) ∙ is

answer_holds : (salt client : ℕ) (page : List ℕ) (answer : Result Loan LendFault) (old new : DomainView) → Answers salt client page answer old new → HeldStay old new
answer_holds salt client page (Ok loan) old new a = lends_hold loan.slot.machine client page loan old new a.lends
answer_holds salt client page (Err fault) old new a = same_held old new a.1

pub one_holds : (salt client quota : ℕ) (page : List ℕ) (lent : Lent) (old new : DomainView) → LendsOne salt client quota page lent old new → HeldStay old new
one_holds salt client quota page lent old new l =
    elim (cases_lt (slots_of client old.machines) quota) [
      | inl lt ↦ let w = l.within lt in answer_holds salt client page w.answer old new w.answers
      | inr le ↦ same_held old new (l.full le).1
    ]

-- ---- bytes

pub same_bytes : (old new : DomainView) → new.machines ≡ old.machines → BytesStay old new
same_bytes old new e = record { stay = λ slot h was is. ap (λ (ms : List MachineView). frame (machine_at ms slot.machine).frames h.frame) e }

pub bytes_then : (a b c : DomainView) → HeldStay a b → BytesStay a b → BytesStay b c → BytesStay a c
bytes_then a b c held p q = record { stay = λ slot h was is. q.stay slot h (held.held slot h was) is ∙ p.stay slot h was (held.held slot h was) }

pub answer_bytes : (salt client : ℕ) (page : List ℕ) (answer : Result Loan LendFault) (old new : DomainView) → Answers salt client page answer old new
    → IfOk answer (λ _. BytesStay old new) → BytesStay old new
answer_bytes salt client page (Ok loan) old new a b = b
answer_bytes salt client page (Err fault) old new a b = same_bytes old new (ap (λ (d : DomainView). d.machines) a.1)

-- ---- releases: what is held then was held before

record HeldBefore (old new : DomainView) : Type 0 where
  was : (slot : Slot) (h : Holding) → held_in new.machines slot ≡ Some h → held_in old.machines slot ≡ Some h

released_before : (freed : Slot) (ms : List MachineView) (slot : Slot) (h : Holding) → held_in (with_released freed ms) slot ≡ Some h → held_in ms slot ≡ Some h
released_before freed ms slot h is = pick (cases_eq slot.machine freed.machine) (cases_lt freed.machine (length ms)) where
  new : MachineView
  new = released freed.ppn (machine_at ms freed.machine)

  pick : ((slot.machine ≡ freed.machine) ⊎ (slot.machine ≡ freed.machine → ⊥)) → ((freed.machine < length ms) ⊎ (length ms ≤ freed.machine)) → held_in ms slot ≡ Some h
  pick (inr other) range = sym (ap (λ (v : MachineView). holding v.slots slot.ppn) (machine_other ms freed.machine slot.machine new other)) ∙ is
  pick (inl same) (inr past) = sym (ap (λ (l : List MachineView). holding (machine_at l slot.machine).slots slot.ppn) (set_past ms freed.machine new past)) ∙ is
  pick (inl same) (inl lt) =
      let now : holding new.slots slot.ppn ≡ Some h =
      sym (ap (λ (v : MachineView). holding v.slots slot.ppn) (get_or-set_same ms freed.machine new no_machine lt))
      ∙ sym (ap (λ (k : ℕ). holding (machine_at (with_released freed ms) k).slots slot.ppn) same) ∙ is in
      ap (λ (k : ℕ). holding (machine_at ms k).slots slot.ppn) same ∙ (keeps_released freed.ppn (machine_at ms freed.machine)).was slot.ppn h now

release_before : (client : ℕ) (freed : Slot) (d : DomainView) → HeldBefore d (after_release client freed d)
release_before client freed d = pick (is_of client (held_in d.machines freed)) where
  pick : (b : Bool) → HeldBefore d (cond b (with_machines d (with_released freed d.machines)) d)
  pick true = record { was = released_before freed d.machines }
  pick false = record { was = λ slot h is. is }

releases_before : (client : ℕ) (ss : List ℕ) (d : DomainView) → HeldBefore d (after_releases client ss d)
unfolding after_releases
releases_before client [] d = record { was = λ slot h is. is }
releases_before client (s ∷ ss) d = record {
  was = λ slot h is. (release_before client (slot_by s) d).was slot h ((releases_before client ss (after_release client (slot_by s) d)).was slot h is);
}

pub releases_bytes : (client : ℕ) (ss : List ℕ) (d : DomainView) → BytesStay d (after_releases client ss d)
unfolding after_releases
releases_bytes client [] d = same_bytes d d refl
releases_bytes client (s ∷ ss) d =
    let mid : DomainView = after_release client (slot_by s) d in
    let one : BytesStay d mid = bytes_by_release client (slot_by s) d mid refl in
    let rest : BytesStay mid (after_releases client ss mid) = releases_bytes client ss mid in
    record { stay = λ slot h was is. let between : held_in mid.machines slot ≡ Some h = (releases_before client ss mid).was slot h is in rest.stay slot h between is ∙ one.stay slot h was between }

-- ---- a packet

same_host : (old new : HostView) → new.domain.machines ≡ old.domain.machines → BytesStay old.domain new.domain
same_host old new e = same_bytes old.domain new.domain e

released_host : (client : ℕ) (ss : List ℕ) (old new : HostView) → new.domain ≡ after_releases client ss old.domain → BytesStay old.domain new.domain
released_host client ss old new e = subst (λ (d : DomainView). BytesStay old.domain d) (sym e) (releases_bytes client ss old.domain)

breaks : (n : ℕ) (t : Session) (f : SessionFault) (received : Received) (old new : HostView) → Breaks n t f received old new → BytesStay old.domain new.domain
breaks n t f received old new b = same_host old new (ap (λ (h : HostView). h.domain.machines) b.1)

begins : (n : ℕ) (name : List ℕ) (o : Option ℕ) (received : Received) (old new : HostView) → Begins n name o received old new → BytesStay old.domain new.domain
begins n name None received old new b = breaks n (session.Silent name) fault.Clients received old new b
begins n name (Some c) received old new b = same_host old new (ap (λ (h : HostView). h.domain.machines) b.1)

takes_up : (n before : ℕ) (o : Option Begun) (loans : ℕ) (received : Received) (old new : HostView) → TakesUp n before o loans received old new → BytesStay old.domain new.domain
takes_up n before None loans received old new t = same_host old new (ap (λ (h : HostView). h.domain.machines) t.1)
takes_up n before (Some b) loans received old new t = released_host b.client (slots_in (lost_of b loans (last_at old.last before))) old new (ap (λ (h : HostView). h.domain) t.now)

greets : (n : ℕ) (name : List ℕ) (o : Option ℕ) (loans : ℕ) (received : Received) (old new : HostView) → Greets n name o loans received old new → BytesStay old.domain new.domain
greets n name None loans received old new g = begins n name (next_client old.domain) received old new g
greets n name (Some before) loans received old new g = takes_up n before (begun_of (session_at old.sessions before)) loans received old new g

opens : (n : ℕ) (may : Process) (name : List ℕ) (m : ClientMessage) (received : Received) (old new : HostView) → Opens n may name m received old new → BytesStay old.domain new.domain
opens n may name (client.Hello wanted) received old new o = greets n name (wanted_in old.sessions may wanted) (loans_of wanted) received old new o
opens n may name (client.Ask questions) received old new o = breaks n (session.Silent name) fault.Early received old new o
opens n may name (client.Lend count) received old new o = breaks n (session.Silent name) fault.Early received old new o
opens n may name (client.Release slots) received old new o = breaks n (session.Silent name) fault.Early received old new o

lends_first : (n : ℕ) (b : Begun) (count most : ℕ) (pages : List (List ℕ)) (received : Received) (old new : HostView) → LendsFirst n b count most pages received old new → BytesStay old.domain new.domain
lends_first n b count most pages received old new l =
    elim (cases_lt (length pages) (offered count most)) [
      | inl short ↦ breaks n (session.Begun b) fault.Pages received old new (l.short short)
      | inr le ↦ elim (cases_lt MAX_IN_MESSAGE count) [
        | inl over ↦ breaks n (session.Begun b) fault.Pages received old new (l.many over)
        | inr few ↦ (l.enough few le).bytes
      ]
    ]

talks : (n most : ℕ) (pages : List (List ℕ)) (b : Begun) (m : ClientMessage) (received : Received) (old new : HostView) → Talks n most pages b m received old new → BytesStay old.domain new.domain
talks n most pages b (client.Hello wanted) received old new t = breaks n (session.Begun b) fault.Again received old new t
talks n most pages b (client.Ask questions) received old new t = same_host old new (ap (λ (h : HostView). h.domain.machines) t.now)
talks n most pages b (client.Lend count) received old new t = lends_first n b count most pages received old new t
talks n most pages b (client.Release slots) received old new t = released_host b.client slots.items old new (ap (λ (h : HostView). h.domain) t.now)

steps : (n : ℕ) (may : Allowance) (pages : List (List ℕ)) (s : Session) (m : ClientMessage) (received : Received) (old new : HostView) → Steps n may pages s m received old new → BytesStay old.domain new.domain
steps n may pages session.Free m received old new p = same_host old new (ap (λ (h : HostView). h.domain.machines) p.1)
steps n may pages (session.Refused first) m received old new p = same_host old new (ap (λ (h : HostView). h.domain.machines) p.1)
steps n may pages (session.Silent name) m received old new p = opens n may.process name m received old new p
steps n may pages (session.Begun b) m received old new p = talks n (most_in old b may.most may.process) pages b m received old new p

hears : (n : ℕ) (may : Allowance) (pages : List (List ℕ)) (s : Session) (r : Result ClientMessage MessageFault) (received : Received) (old new : HostView) → Hears n may pages s r received old new → BytesStay old.domain new.domain
hears n may pages s (Ok m) received old new p = steps n may pages s m received old new p
hears n may pages s (Err f) received old new p = breaks n s (fault.Message f) received old new p

pub receives_bytes : (n : ℕ) (bytes : List ℕ) (pages : List (List ℕ)) (may : Allowance) (received : Received) (old new : HostView) → Receives n bytes pages may received old new → BytesStay old.domain new.domain
receives_bytes n bytes pages may received old new p =
    elim (cases_Bool (takes (session_at old.sessions n))) [
      | inl took ↦ hears n may pages (session_at old.sessions n) (client_at bytes) received old new (p.heard-if took)
      | inr idle ↦ same_host old new (ap (λ (h : HostView). h.domain.machines) (p.idle-if idle).1)
    ]

pub take_back_bytes : (n : ℕ) (s : Session) (frames : List ℕ) (received : Received) (old new : HostView) → TakesBackAt n s frames received old new → BytesStay old.domain new.domain
take_back_bytes n session.Free frames received old new t = same_host old new (ap (λ (h : HostView). h.domain.machines) t.1)
take_back_bytes n (session.Silent name) frames received old new t = same_host old new (ap (λ (h : HostView). h.domain.machines) t.1)
take_back_bytes n (session.Refused fault) frames received old new t = same_host old new (ap (λ (h : HostView). h.domain.machines) t.1)
take_back_bytes n (session.Begun b) frames received old new t = released_host b.client (back_of frames (last_at old.last n)) old new (ap (λ (h : HostView). h.domain) t.now)

-- ---- the end of a process

left_bytes : (client : ℕ) (answer : Option ℕ) (room after : List ℕ) (old new : DomainView)
    → MatchOption answer (StaysOut client room after old new) (λ c. Leaves client c room after old new) → BytesStay old new
left_bytes client None room after old new l = same_bytes old new (ap (λ (d : DomainView). d.machines) l.now)
left_bytes client (Some c) room after old new l = bytes_by_leave client c room after old new l

pub ends_bytes : (n : ℕ) (s : Session) (result : Option ℕ) (room after : List ℕ) (old new : HostView) → Ends n s result room after old new → BytesStay old.domain new.domain
ends_bytes n session.Free result room after old new e = same_host old new (ap (λ (h : HostView). h.domain.machines) e.2)
ends_bytes n (session.Silent name) result room after old new e = same_host old new (ap (λ (h : HostView). h.domain.machines) e.2)
ends_bytes n (session.Refused fault) result room after old new e = same_host old new (ap (λ (h : HostView). h.domain.machines) e.2)
ends_bytes n (session.Begun b) None room after old new e = absurd e
ends_bytes n (session.Begun b) (Some count) room after old new e = left_bytes b.client e.answer room after old.domain new.domain e.leaves

left_others : (b : Begun) (answer : Option ℕ) (room after : List ℕ) (old new : DomainView)
    → MatchOption answer (StaysOut b.client room after old new) (λ c. Leaves b.client c room after old new) → SparesOthers (session.Begun b) old new
left_others b None room after old new l = same_domain (session.Begun b) old new l.now
left_others b (Some c) room after old new l =
    spares_begun b (session.Begun b) old new refl (ap (λ (d : DomainView). d.frames) l.now) (leave_spares b.client c room after old new l) (leave_gains b.client c room after old new l)

pub ends_spare : (n : ℕ) (s : Session) (result : Option ℕ) (room after : List ℕ) (old new : HostView) → Ends n s result room after old new → SparesOthers s old.domain new.domain
ends_spare n session.Free result room after old new e = same_domain session.Free old.domain new.domain (ap (λ (h : HostView). h.domain) e.2)
ends_spare n (session.Silent name) result room after old new e = same_domain (session.Silent name) old.domain new.domain (ap (λ (h : HostView). h.domain) e.2)
ends_spare n (session.Refused fault) result room after old new e = same_domain (session.Refused fault) old.domain new.domain (ap (λ (h : HostView). h.domain) e.2)
ends_spare n (session.Begun b) None room after old new e = absurd e
ends_spare n (session.Begun b) (Some count) room after old new e = left_others b e.answer room after old.domain new.domain e.leaves
