-- What a packet of a session leaves of the slots of every client that doesn't have the session afterwards.
use Rattle.std.proofs.Common.{◌≡◌, ℕ, ◌<◌, ◌≤◌, List, [], length, take, Option, Some, None, Result, Ok, Err, inl, inr, refl, sym, ap, subst, ◌∙◌, true, false, Bool, cond, ◌∷◌, arith}
use Rattle.std.specs.Prelude.{slice_set}
use Rattle.std.proofs.lemmas.Bool.{cases_lt, cases_Bool, false≢true}
use Rattle.std.proofs.lemmas.List.{get_or-set_same, get_or_past, length-set}
use Rattle.host_messages.specs.declared.client.ClientMessage.{ClientMessage}
use Rattle.host_messages.specs.declared.client.ClientMessage.TheVariants as client
use Rattle.host_messages.specs.declared.fault.MessageFault.{MessageFault}
use Rattle.host_messages.specs.declared.limits.TheConstants.{MAX_IN_MESSAGE}
use Rattle.host_messages.specs.Reading.{client_at}
use Rattle.lent_slots.specs.Slots.{is_of}
use Rattle.share_domain.specs.declared.holding.Slot.{Slot}
use Rattle.share_domain.specs.declared.holding.Loan.{Loan}
use Rattle.share_domain.specs.declared.fault.LendFault.{LendFault}
use Rattle.share_domain.specs.Domains.{DomainView, next_client, held_in, with_machines, with_released, after_release}
use Rattle.share_domain.specs.Numbers.{slot_by}
use Rattle.share_domain.specs.Totals.{slots_of}
use Rattle.lent_slots.specs.Slots.{MachineView}
use Rattle.host_sessions.specs.declared.allowance.Allowance.{Allowance}
use Rattle.host_sessions.specs.declared.allowance.Process.{Process}
use Rattle.host_sessions.specs.declared.answer.Received.{Received}
use Rattle.host_sessions.specs.declared.session.SessionFault.{SessionFault}
use Rattle.host_sessions.specs.declared.session.SessionFault.TheVariants as fault
use Rattle.host_sessions.specs.declared.session.Begun.{Begun}
use Rattle.host_sessions.specs.declared.session.Session.{Session}
use Rattle.host_sessions.specs.declared.session.Session.TheVariants as session
use Rattle.host_sessions.specs.Table.{takes, session_at, wanted_in, loans_of, begun_of, heard, heard_with, lent, lost_of, last_at}
use Rattle.host_messages.specs.declared.item.Lent.{Lent}
use Rattle.host_sessions.specs.Turns.{after_releases, Answers, LendsOne, LendsInTurn, slots_in, offered, back_of}
use Rattle.host_sessions.specs.Steps.{HostView, Breaks, Greets, Begins, Resumes, TakesUp, Opens, Talks, Steps, LendsFirst, Releases, Hears, Receives, TakesBackAt, most_in}
use Rattle.host_sessions.specs.Others.{Spares, Stays, SparesOthers}
use Rattle.host_sessions.proofs.Spared.{releases_spare, lends_spare}
use Rattle.host_sessions.proofs.Gained.{releases_gain, lends_gain}

-- no slot at all changed
no_slot : (s : Session) (a b : DomainView) → b.machines ≡ a.machines → Stays s a b
no_slot session.Free a b e slot is = ap (λ (ms : List MachineView). held_in ms slot) e
no_slot (session.Silent name) a b e slot is = ap (λ (ms : List MachineView). held_in ms slot) e
no_slot (session.Refused fault) a b e slot is = ap (λ (ms : List MachineView). held_in ms slot) e
no_slot (session.Begun c) a b e slot is = ap (λ (ms : List MachineView). held_in ms slot) e

pub same_machines : (s : Session) (old new : DomainView) → new.frames ≡ old.frames → new.machines ≡ old.machines → SparesOthers s old new
same_machines s old new f e = record { frames = f; stay = no_slot s old new e; no_more = no_slot s new old (sym e) }

pub same_domain : (s : Session) (old new : DomainView) → new ≡ old → SparesOthers s old new
same_domain s old new e = same_machines s old new (ap (λ (d : DomainView). d.frames) e) (ap (λ (d : DomainView). d.machines) e)

breaks : (s : Session) (n : ℕ) (t : Session) (f : SessionFault) (received : Received) (old new : HostView) → Breaks n t f received old new → SparesOthers s old.domain new.domain
breaks s n t f received old new b = same_domain s old.domain new.domain (ap (λ (h : HostView). h.domain) b.1)

-- the session that was put in its place
put_there : (sessions : List Session) (n : ℕ) (s : Session) → n < length sessions → session_at (slice_set sessions n s) n ≡ s
put_there sessions n s lt = get_or-set_same sessions n s session.Free lt

-- of this client's session other clients' slots stay
pub spares_begun : (b : Begun) (s : Session) (old new : DomainView) → s ≡ session.Begun b → new.frames ≡ old.frames → Spares b.client old new → Spares b.client new old → SparesOthers s old new
spares_begun b s old new e f p q = record {
  frames = f;
  stay = subst (λ (x : Session). Stays x old new) (sym e) p;
  no_more = subst (λ (x : Session). Stays x new old) (sym e) q;
}

-- ---- the frames of a domain stay

release_frames : (c : ℕ) (slot : Slot) (d : DomainView) → (after_release c slot d).frames ≡ d.frames
release_frames c slot d = pick (is_of c (held_in d.machines slot)) where
  pick : (b : Bool) → (cond b (with_machines d (with_released slot d.machines)) d).frames ≡ d.frames
  pick true = refl
  pick false = refl

releases_frames : (c : ℕ) (ss : List ℕ) (d : DomainView) → (after_releases c ss d).frames ≡ d.frames
unfolding after_releases
releases_frames c [] d = refl
releases_frames c (s ∷ ss) d = releases_frames c ss (after_release c (slot_by s) d) ∙ release_frames c (slot_by s) d

answer_frames : (salt c : ℕ) (page : List ℕ) (answer : Result Loan LendFault) (old new : DomainView) → Answers salt c page answer old new → new.frames ≡ old.frames
answer_frames salt c page (Ok loan) old new a = ap (λ (d : DomainView). d.frames) a.lends.rest
answer_frames salt c page (Err fault) old new a = ap (λ (d : DomainView). d.frames) a.1

one_frames : (salt c quota : ℕ) (page : List ℕ) (lent : Lent) (old new : DomainView) → LendsOne salt c quota page lent old new → new.frames ≡ old.frames
one_frames salt c quota page lent old new l =
    elim (cases_lt (slots_of c old.machines) quota) [
      | inl lt ↦ let w = l.within lt in answer_frames salt c page w.answer old new w.answers
      | inr le ↦ ap (λ (d : DomainView). d.frames) (l.full le).1
    ]

lends_frames : (salt c quota : ℕ) (pages : List (List ℕ)) (loans : List Lent) (old new : DomainView) → LendsInTurn salt c quota pages loans old new → new.frames ≡ old.frames
unfolding LendsInTurn
lends_frames salt c quota [] [] old new l = ap (λ (d : DomainView). d.frames) l
lends_frames salt c quota (page ∷ pages) [] old new l = absurd l
lends_frames salt c quota [] (lent ∷ loans) old new l = absurd l
lends_frames salt c quota (page ∷ pages) (lent ∷ loans) old new l = lends_frames salt c quota pages loans l.0 new l.2 ∙ one_frames salt c quota page lent old l.0 l.1

-- ---- a packet

-- slots of this session's client were released
released_in : (b : Begun) (s : Session) (ss : List ℕ) (old new : DomainView) → s ≡ session.Begun b → new ≡ after_releases b.client ss old → SparesOthers s old new
released_in b s ss old new e now =
    subst (λ (d : DomainView). SparesOthers s old d) (sym now)
    (spares_begun b s old (after_releases b.client ss old) e (releases_frames b.client ss old) (releases_spare b.client ss old) (releases_gain b.client ss old))

resumes : (n before : ℕ) (b : Begun) (loans : ℕ) (lost : List Lent) (received : Received) (old new : HostView) → n < length old.sessions
    → Resumes n before b loans lost received old new → SparesOthers (session_at new.sessions n) old.domain new.domain
resumes n before b loans lost received old new lt r =
    let sessions = slice_set old.sessions before session.Free in
    let now : Begun = heard_with b loans in
    let there : session_at new.sessions n ≡ session.Begun now = ap (λ (h : HostView). session_at h.sessions n) r.now ∙ put_there sessions n (session.Begun now) (omega (arith, lt, length-set old.sessions before session.Free)) in
    released_in now (session_at new.sessions n) (slots_in lost) old.domain new.domain there (ap (λ (h : HostView). h.domain) r.now)

takes_up : (n before : ℕ) (o : Option Begun) (loans : ℕ) (received : Received) (old new : HostView) → n < length old.sessions
    → TakesUp n before o loans received old new → SparesOthers (session_at new.sessions n) old.domain new.domain
takes_up n before None loans received old new lt t = same_domain (session_at new.sessions n) old.domain new.domain (ap (λ (h : HostView). h.domain) t.1)
takes_up n before (Some b) loans received old new lt t = resumes n before b loans (lost_of b loans (last_at old.last before)) received old new lt t

begins : (s : Session) (n : ℕ) (name : List ℕ) (o : Option ℕ) (received : Received) (old new : HostView) → Begins n name o received old new → SparesOthers s old.domain new.domain
begins s n name None received old new b = breaks s n (session.Silent name) fault.Clients received old new b
begins s n name (Some c) received old new b = same_machines s old.domain new.domain (ap (λ (h : HostView). h.domain.frames) b.1) (ap (λ (h : HostView). h.domain.machines) b.1)

greets : (n : ℕ) (name : List ℕ) (o : Option ℕ) (loans : ℕ) (received : Received) (old new : HostView) → n < length old.sessions
    → Greets n name o loans received old new → SparesOthers (session_at new.sessions n) old.domain new.domain
greets n name None loans received old new lt g = begins (session_at new.sessions n) n name (next_client old.domain) received old new g
greets n name (Some before) loans received old new lt g = takes_up n before (begun_of (session_at old.sessions before)) loans received old new lt g

opens : (n : ℕ) (may : Process) (name : List ℕ) (m : ClientMessage) (received : Received) (old new : HostView) → n < length old.sessions
    → Opens n may name m received old new → SparesOthers (session_at new.sessions n) old.domain new.domain
opens n may name (client.Hello wanted) received old new lt o = greets n name (wanted_in old.sessions may wanted) (loans_of wanted) received old new lt o
opens n may name (client.Ask questions) received old new lt o = breaks (session_at new.sessions n) n (session.Silent name) fault.Early received old new o
opens n may name (client.Lend count) received old new lt o = breaks (session_at new.sessions n) n (session.Silent name) fault.Early received old new o
opens n may name (client.Release slots) received old new lt o = breaks (session_at new.sessions n) n (session.Silent name) fault.Early received old new o

lends_first : (n : ℕ) (b : Begun) (count most : ℕ) (pages : List (List ℕ)) (received : Received) (old new : HostView) → n < length old.sessions
    → LendsFirst n b count most pages received old new → SparesOthers (session_at new.sessions n) old.domain new.domain
lends_first n b count most pages received old new lt l =
    elim (cases_lt (length pages) (offered count most)) [
      | inl short ↦ breaks (session_at new.sessions n) n (session.Begun b) fault.Pages received old new (l.short short)
      | inr le ↦ elim (cases_lt MAX_IN_MESSAGE count) [
        | inl over ↦ breaks (session_at new.sessions n) n (session.Begun b) fault.Pages received old new (l.many over)
        | inr few ↦
            let w = l.enough few le in
            let now : Begun = lent b in
            let there : session_at new.sessions n ≡ session.Begun now = ap (λ (h : HostView). session_at h.sessions n) w.now ∙ put_there old.sessions n (session.Begun now) lt in
            let first : List (List ℕ) = take (offered count most) pages in
            let loans = w.lends.lent in
            let turns = w.lends.lends in
            spares_begun now (session_at new.sessions n) old.domain new.domain there (lends_frames old.salt b.client old.quota first loans old.domain new.domain turns) (lends_spare old.salt b.client old.quota first loans old.domain new.domain turns) (lends_gain old.salt b.client old.quota first loans old.domain new.domain turns)
      ]
    ]

releases : (n : ℕ) (b : Begun) (slots : List ℕ) (received : Received) (old new : HostView) → n < length old.sessions
    → Releases n b slots received old new → SparesOthers (session_at new.sessions n) old.domain new.domain
releases n b slots received old new lt t =
    let now : Begun = heard b in
    let there : session_at new.sessions n ≡ session.Begun now = ap (λ (h : HostView). session_at h.sessions n) t.now ∙ put_there old.sessions n (session.Begun now) lt in
    released_in now (session_at new.sessions n) slots old.domain new.domain there (ap (λ (h : HostView). h.domain) t.now)

talks : (n most : ℕ) (pages : List (List ℕ)) (b : Begun) (m : ClientMessage) (received : Received) (old new : HostView) → n < length old.sessions
    → Talks n most pages b m received old new → SparesOthers (session_at new.sessions n) old.domain new.domain
talks n most pages b (client.Hello wanted) received old new lt t = breaks (session_at new.sessions n) n (session.Begun b) fault.Again received old new t
talks n most pages b (client.Ask questions) received old new lt t = same_domain (session_at new.sessions n) old.domain new.domain (ap (λ (h : HostView). h.domain) t.now)
talks n most pages b (client.Lend count) received old new lt t = lends_first n b count most pages received old new lt t
talks n most pages b (client.Release slots) received old new lt t = releases n b slots.items received old new lt t

steps : (n : ℕ) (may : Allowance) (pages : List (List ℕ)) (s : Session) (m : ClientMessage) (received : Received) (old new : HostView) → n < length old.sessions
    → Steps n may pages s m received old new → SparesOthers (session_at new.sessions n) old.domain new.domain
steps n may pages session.Free m received old new lt p = same_domain (session_at new.sessions n) old.domain new.domain (ap (λ (h : HostView). h.domain) p.1)
steps n may pages (session.Refused first) m received old new lt p = same_domain (session_at new.sessions n) old.domain new.domain (ap (λ (h : HostView). h.domain) p.1)
steps n may pages (session.Silent name) m received old new lt p = opens n may.process name m received old new lt p
steps n may pages (session.Begun b) m received old new lt p = talks n (most_in old b may.most may.process) pages b m received old new lt p

hears : (n : ℕ) (may : Allowance) (pages : List (List ℕ)) (s : Session) (r : Result ClientMessage MessageFault) (received : Received) (old new : HostView) → n < length old.sessions
    → Hears n may pages s r received old new → SparesOthers (session_at new.sessions n) old.domain new.domain
hears n may pages s (Ok m) received old new lt p = steps n may pages s m received old new lt p
hears n may pages s (Err f) received old new lt p = breaks (session_at new.sessions n) n s (fault.Message f) received old new p

-- a session that takes messages is there
is_there : (sessions : List Session) (n : ℕ) → takes (session_at sessions n) ≡ true → n < length sessions
is_there sessions n e =
    elim (cases_lt n (length sessions)) [
      | inl lt ↦ lt
      | inr le ↦ absurd (free_takes (session_at sessions n) (get_or_past sessions n session.Free le) e)
    ]
  where
    free_takes : (s : Session) → s ≡ session.Free → takes s ≡ true → ⊥
    free_takes s f t = false≢true (subst (λ (x : Session). takes x ≡ true) f t)

pub receives_spare : (n : ℕ) (bytes : List ℕ) (pages : List (List ℕ)) (may : Allowance) (received : Received) (old new : HostView)
    → Receives n bytes pages may received old new → SparesOthers (session_at new.sessions n) old.domain new.domain
receives_spare n bytes pages may received old new p =
    elim (cases_Bool (takes (session_at old.sessions n))) [
      | inl took ↦ hears n may pages (session_at old.sessions n) (client_at bytes) received old new (is_there old.sessions n took) (p.heard-if took)
      | inr idle ↦ same_domain (session_at new.sessions n) old.domain new.domain (ap (λ (h : HostView). h.domain) (p.idle-if idle).1)
    ]

pub take_back_spares : (n : ℕ) (frames : List ℕ) (received : Received) (old new : HostView)
    → TakesBackAt n (session_at old.sessions n) frames received old new → SparesOthers (session_at new.sessions n) old.domain new.domain
take_back_spares n frames received old new = taken (session_at old.sessions n) refl where
  taken : (s : Session) → session_at old.sessions n ≡ s → TakesBackAt n s frames received old new → SparesOthers (session_at new.sessions n) old.domain new.domain
  taken session.Free was t = same_domain (session_at new.sessions n) old.domain new.domain (ap (λ (h : HostView). h.domain) t.1)
  taken (session.Silent name) was t = same_domain (session_at new.sessions n) old.domain new.domain (ap (λ (h : HostView). h.domain) t.1)
  taken (session.Refused fault) was t = same_domain (session_at new.sessions n) old.domain new.domain (ap (λ (h : HostView). h.domain) t.1)
  taken (session.Begun b) was t =
      released_in b (session_at new.sessions n) (back_of frames (last_at old.last n)) old.domain new.domain
      (ap (λ (h : HostView). session_at h.sessions n) t.now ∙ was) (ap (λ (h : HostView). h.domain) t.now)
