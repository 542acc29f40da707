use Rattle.host_halves.proofs.quiet_law.Goals as goal

pub returns-clause-asks : goal.returns-clause-asks
returns-clause-asks c = λ b last d h is. record { name = is.name; loans = is.loans; last-is = is.last-is; held = is.held }

pub returns-clause-links : goal.returns-clause-links
returns-clause-links c = λ b link last d h is. record { name = is.name; loans = is.loans; last-is = is.last-is; held = is.held }
