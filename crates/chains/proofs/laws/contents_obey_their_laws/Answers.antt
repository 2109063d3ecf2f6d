use Rattle.chains.proofs.Neighbours.{contents_laws}
use Rattle.chains.proofs.laws.contents_obey_their_laws.Goals as goal

pub returns : goal.returns
returns g c = contents_laws g.met.K.Key.order
