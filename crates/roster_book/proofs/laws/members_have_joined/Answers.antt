use Rattle.roster_book.proofs.StandingLemmas.{joined, members_rise, some_joined}
use Rattle.roster_book.proofs.laws.members_have_joined.Goals as goal

pub returns : goal.returns
returns c = record { joined = joined; rise = members_rise; some = some_joined }
