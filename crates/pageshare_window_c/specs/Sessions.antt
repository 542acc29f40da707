-- What C gets of a session.
use Rattle.std.specs.Prelude.{ℕ, List, ◌++◌, length, drop, Option, Some, None}
use Rattle.host_messages.specs.declared.client.Wanted.{Wanted}
use Rattle.client_session.specs.declared.link.Welcomed.{Welcomed}
use Rattle.client_session.specs.declared.link.Welcomed.TheVariants as came

-- the name and the count of replies that a connection says first, if it wants to take a session up; else what was there stays
abbrev pub name_after : List ℕ → Option Wanted → List ℕ
name_after old None = old
name_after old (Some wanted) = wanted.name

abbrev pub loans_after : ℕ → Option Wanted → ℕ
loans_after old None = old
loans_after old (Some wanted) = wanted.loans

-- what came of a welcome, as a number
abbrev pub welcomed_number : Welcomed → ℕ
welcomed_number came.Unasked = 0
welcomed_number came.TakenUp = 1
welcomed_number came.Begun = 2

-- places with these at their front
abbrev pub put_front : List ℕ → List ℕ → List ℕ
put_front xs room = xs ++ drop (length xs) room
