-- The session whose numbers are kept.
use Rattle.std.specs.Prelude.{ℕ, Bool, ◌==◌, nat_le, if◌then◌else◌, List, length, take, Option, Some, None}
use Rattle.client_session.specs.Sessions.{SessionView}
use Rattle.client_session.specs.declared.kept.KeptSession.{KeptSession}
use Rattle.client_session.specs.declared.link.Link.{Link}
use Rattle.client_session.specs.declared.link.Link.TheVariants as link

-- how a session is connected, by its number; by any other, it isn't
abbrev pub link_by : ℕ → ℕ → Link
link_by number n =
    if number == 1 then link.Greeting else (if number == 2 then link.Talking else (if number == 3 then link.Asked n
    else (if number == 4 then link.Lending n else link.Apart)))

abbrev pub link_number : Link → ℕ
link_number link.Apart = 0
link_number link.Greeting = 1
link_number link.Talking = 2
link_number (link.Asked n) = 3
link_number (link.Lending n) = 4

-- how many questions or pages are open
abbrev pub open_of : Link → ℕ
open_of link.Apart = 0
open_of link.Greeting = 0
open_of link.Talking = 0
open_of (link.Asked n) = n
open_of (link.Lending n) = n

abbrev pub name_by : Bool → List ℕ → Option (List ℕ)
name_by has_name name = if has_name then Some name else None

-- the slots that the host may not have heard of; a count beyond the places counts as all
abbrev pub unheard_of : KeptSession → List ℕ
unheard_of k = take k.count k.unheard

abbrev pub said_within : ℕ → ℕ → ℕ
said_within said count = if nat_le said count then said else count

abbrev pub session_of : KeptSession → SessionView
session_of k = record {
  name = name_by k.has_name k.name;
  loans = k.loans;
  unheard = unheard_of k;
  said = said_within k.said (length (unheard_of k));
  link = link_by k.link k.open;
  unknown = k.unknown;
}
