use Rattle.page_model.proofs.Placed.{places_hold_requests, places_hold_answers, all_are_placed, places_rise}
use Rattle.page_model.proofs.laws.places_law.Goals as goal

pub returns-clause-asked : goal.returns-clause-asked
returns-clause-asked c = places_hold_requests c.args.entries.now c.args.guest

pub returns-clause-answers : goal.returns-clause-answers
returns-clause-answers c = places_hold_answers c.args.entries.now c.args.guest

pub returns-clause-all : goal.returns-clause-all
returns-clause-all c = all_are_placed c.args.entries.now c.args.guest

pub returns-clause-rise : goal.returns-clause-rise
returns-clause-rise c = places_rise c.args.entries.now c.args.guest
