use Rattle.proud_words.proofs.One.{crew_seats, one_asked, rounds_in_limits}
use Rattle.proud_words.proofs.request.one_request.Goals as goal

pub returns : goal.returns
returns c = record { one = one_asked c.one_grid.ensures; rounds = rounds_in_limits; seats = crew_seats }
