-- The program's status for each end of a command.
use Rattle.std.specs.Prelude.{ℕ, Bool, true, false, Result, Ok, Err}
use Rattle.command_terms.specs.declared.ends.CommandEnd.{CommandEnd}
use Rattle.command_terms.specs.declared.ends.CommandEnd.TheVariants.{Done, Fault, WrongWords}

abbrev pub status_of : CommandEnd → ℕ
status_of Done = 0
status_of Fault = 1
status_of WrongWords = 2

-- the end of work that was done, or at fault
abbrev pub end_of : {T E : Type 0} → Result T E → CommandEnd
end_of (Ok done) = Done
end_of (Err fault) = Fault

-- the end of a command whose words ask for no work: they ask for help or the version, or are a mistake
abbrev pub end_of_words : Bool → CommandEnd
end_of_words false = Done
end_of_words true = WrongWords
