-- The client's half of a session, and what each call does to it.
use Rattle.std.specs.Prelude.{ℕ, ◌+◌, ◌/◌, ◌%◌, ◌^◌, Bool, true, false, not, ◌&&◌, ◌||◌, ◌==◌, nat_le, nat_lt, if◌then◌else◌, List, [], ◌++◌, length, take, drop, Option, Some, None}
use Rattle.std.specs.List.{list_all}
use Rattle.std.specs.Str.{bytes_eq}
use Rattle.host_messages.specs.declared.client.Wanted.{Wanted}
use Rattle.host_messages.specs.declared.item.Lent.{Lent}
use Rattle.host_messages.specs.declared.limits.TheConstants.{MAX_IN_MESSAGE}
use Rattle.client_session.specs.declared.link.Link.{Link}
use Rattle.client_session.specs.declared.link.Link.TheVariants as link
use Rattle.client_session.specs.declared.link.Welcomed.{Welcomed}
use Rattle.client_session.specs.declared.link.Welcomed.TheVariants as came
use Rattle.client_session.specs.declared.reply.TheConstants.{MAX_SLOT_MACHINES, MAX_SLOT_PAGES, NO_FRAME}
use Rattle.client_session.specs.declared.session.TheConstants.{MAX_UNHEARD}

-- The session's name, once the client knows it. How many replies to Lend were counted in it. The slots that were given up and that the host
-- may not have heard of; the first `said` of them were said on this connection. What the connection is at. Whether it isn't known what a
-- lend has given.
pub record SessionView : Type 0 where
  pub name : Option (List ℕ)
  pub loans : ℕ
  pub unheard : List ℕ
  pub said : ℕ
  pub link : Link
  pub unknown : Bool

abbrev pub nobody : SessionView
nobody = record { name = None; loans = 0; unheard = []; said = 0; link = link.Apart; unknown = false }

-- ---- what is open

abbrev pub is_greeting : Link → Bool
is_greeting link.Apart = false
is_greeting link.Greeting = true
is_greeting link.Talking = false
is_greeting (link.Asked n) = false
is_greeting (link.Lending n) = false

abbrev pub is_talking : Link → Bool
is_talking link.Apart = false
is_talking link.Greeting = false
is_talking link.Talking = true
is_talking (link.Asked n) = false
is_talking (link.Lending n) = false

abbrev pub is_lending : Link → Bool
is_lending link.Apart = false
is_lending link.Greeting = false
is_lending link.Talking = false
is_lending (link.Asked n) = false
is_lending (link.Lending n) = true

-- so many questions are open, and a lend of so many pages
abbrev pub is_asked : ℕ → Link → Bool
is_asked count link.Apart = false
is_asked count link.Greeting = false
is_asked count link.Talking = false
is_asked count (link.Asked n) = n == count
is_asked count (link.Lending n) = false

abbrev pub is_lent : ℕ → Link → Bool
is_lent count link.Apart = false
is_lent count link.Greeting = false
is_lent count link.Talking = false
is_lent count (link.Asked n) = false
is_lent count (link.Lending n) = n == count

-- ---- connections

-- the connection has ended: what is open is lost, and all slots that were given up are to be said again
abbrev pub parted : SessionView → SessionView
parted v = record { name = v.name; loans = v.loans; unheard = v.unheard; said = 0; link = link.Apart; unknown = v.unknown || is_lending v.link }

-- a new connection
abbrev pub connected : SessionView → SessionView
connected v = record { name = v.name; loans = v.loans; unheard = v.unheard; said = 0; link = link.Greeting; unknown = v.unknown || is_lending v.link }

-- the session that a new connection wants to take up
abbrev pub wanted_as : Option (List ℕ) → ℕ → Option Wanted
wanted_as None loans = None
wanted_as (Some name) loans = Some (record { name = name; loans = loans })

abbrev pub wanted_of : SessionView → Option Wanted
wanted_of v = wanted_as v.name v.loans

abbrev pub is_named : List ℕ → Option (List ℕ) → Bool
is_named name None = false
is_named name (Some own) = bytes_eq own name

-- The session was taken up: a lend whose reply was lost has given nothing.
abbrev pub taken_up : SessionView → SessionView
taken_up v = record { name = v.name; loans = v.loans; unheard = v.unheard; said = 0; link = link.Talking; unknown = false }

-- another session, of which nothing has happened
abbrev pub begun : List ℕ → SessionView
begun name = record { name = Some name; loans = 0; unheard = []; said = 0; link = link.Talking; unknown = false }

-- Welcome to a session with this name came
abbrev pub welcomed_as : List ℕ → SessionView → Welcomed
welcomed_as name v = if not (is_greeting v.link) then came.Unasked else if is_named name v.name then came.TakenUp else came.Begun

abbrev pub welcomed : List ℕ → SessionView → SessionView
welcomed name v = if not (is_greeting v.link) then v else if is_named name v.name then taken_up v else begun name

-- ---- questions and lends

-- at another thing on its connection
abbrev pub linked : SessionView → Link → SessionView
linked v l = record { name = v.name; loans = v.loans; unheard = v.unheard; said = v.said; link = l; unknown = v.unknown }

-- nothing is open, and all releases were said
abbrev pub may_ask : SessionView → Bool
may_ask v = is_talking v.link && (v.said == length v.unheard)

abbrev pub may_lend : ℕ → SessionView → Bool
may_lend count v = may_ask v && nat_le count MAX_IN_MESSAGE

abbrev pub asked : ℕ → SessionView → SessionView
asked count v = if may_ask v then linked v (link.Asked count) else v

abbrev pub lending : ℕ → SessionView → SessionView
lending count v = if may_lend count v then linked v (link.Lending count) else v

-- A reply came: the host has heard of the releases that were said before.
abbrev pub confirmed : SessionView → SessionView
confirmed v = record { name = v.name; loans = v.loans; unheard = drop v.said v.unheard; said = 0; link = link.Talking; unknown = v.unknown }

-- answers came, so many
abbrev pub is_answer : ℕ → SessionView → Bool
is_answer count v = is_asked count v.link

abbrev pub answered : ℕ → SessionView → SessionView
answered count v = if is_answer count v then confirmed v else v

-- a number can be a slot's
abbrev pub is_slot : ℕ → Bool
is_slot slot = nat_lt (slot / 4294967296) MAX_SLOT_MACHINES && nat_lt (slot % 4294967296) MAX_SLOT_PAGES

-- a loan names one of so many frames and a slot, or the page wasn't lent
abbrev pub is_right : ℕ → Lent → Bool
is_right frames lent = (lent.frame == NO_FRAME) || (nat_lt lent.frame frames && is_slot lent.slot)

abbrev pub are_right : ℕ → List Lent → Bool
are_right frames loans = list_all (is_right frames) loans

-- Loans came, of a host with so many frames. They are counted if they reply to the lend that is open.
abbrev pub are_loans : ℕ → List Lent → SessionView → Bool
are_loans frames loans v = is_lent (length loans) v.link && are_right frames loans

-- one reply to Lend more
abbrev pub with_loan : SessionView → SessionView
with_loan v = record { name = v.name; loans = (v.loans + 1) % 2 ^ 64; unheard = v.unheard; said = v.said; link = v.link; unknown = v.unknown }

abbrev pub counted : ℕ → List Lent → SessionView → SessionView
counted frames loans v = if are_loans frames loans v then with_loan (confirmed v) else v

-- ---- releases

-- no lend is open, and there is room for more slots
abbrev pub may_give_up : List ℕ → SessionView → Bool
may_give_up slots v = not (is_lending v.link) && nat_le (length v.unheard + length slots) MAX_UNHEARD

abbrev pub with_unheard : List ℕ → SessionView → SessionView
with_unheard slots v = record { name = v.name; loans = v.loans; unheard = slots; said = v.said; link = v.link; unknown = v.unknown }

-- slots were given up
abbrev pub given_up : List ℕ → SessionView → SessionView
given_up slots v = if may_give_up slots v then with_unheard (v.unheard ++ slots) v else v

-- the slots of the release that is said next
abbrev pub due : SessionView → List ℕ
due v = if is_talking v.link then take MAX_IN_MESSAGE (drop v.said v.unheard) else []

abbrev pub said_more : SessionView → SessionView
said_more v = record { name = v.name; loans = v.loans; unheard = v.unheard; said = v.said + length (due v); link = v.link; unknown = v.unknown }
