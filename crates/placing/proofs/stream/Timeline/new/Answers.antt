use Rattle.placing.proofs.Telling.{stamps_tell, labels_tell, placed_where_made}
use Rattle.placing.proofs.Rightly.{places_rightly}
use Rattle.placing.proofs.stream.Timeline.new.Goals as goal

pub returns-clause-stamps : goal.returns-clause-stamps
returns-clause-stamps c = stamps_tell

pub returns-clause-labels : goal.returns-clause-labels
returns-clause-labels c = labels_tell

pub returns-clause-last_news : goal.returns-clause-last_news
returns-clause-last_news c = placed_where_made

pub returns-clause-rightly : goal.returns-clause-rightly
returns-clause-rightly c = places_rightly
