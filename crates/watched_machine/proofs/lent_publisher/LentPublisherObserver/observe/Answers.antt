use Rattle.watched_machine.specs.Lists.{published}
use Rattle.watched_machine.proofs.Publishing.{last_within}
use Rattle.watched_machine.proofs.lent_publisher.LentPublisherObserver.observe.Goals as goal

pub publish-requires : goal.publish-requires
publish-requires g c = record { not_older = last_within c.args.report.entries (published c.args.self.publisher.now) c.requires }
