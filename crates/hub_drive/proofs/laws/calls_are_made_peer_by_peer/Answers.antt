use Rattle.hub_drive.proofs.Peerwise.{all_made}
use Rattle.hub_drive.proofs.laws.calls_are_made_peer_by_peer.Goals as goal

pub returns : goal.returns
returns c = all_made
