use Rattle.page_model.proofs.Schedules.{taken_sent, taken_asked, given_places, got_given, closes_last, got_before_sent}
use Rattle.page_model.proofs.laws.schedule_law.Goals as goal

pub returns-clause-taken : goal.returns-clause-taken
returns-clause-taken c = taken_sent c.args.events.now

pub returns-clause-journal : goal.returns-clause-journal
returns-clause-journal c = taken_asked c.args.events.now

pub returns-clause-given : goal.returns-clause-given
returns-clause-given c = given_places c.args.events.now

pub returns-clause-got : goal.returns-clause-got
returns-clause-got c = got_given c.args.events.now

pub returns-clause-closed : goal.returns-clause-closed
returns-clause-closed c = closes_last c.args.events.now

pub returns-clause-order : goal.returns-clause-order
returns-clause-order c = got_before_sent c.args.events.now
