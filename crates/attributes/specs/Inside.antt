-- Where the parts of a request lie in a packet of n bytes. Assumes nothing.
use Rattle.std.specs.Prelude.{ℕ, ◌+◌, ◌<◌, ◌≤◌, length}
use Rattle.attributes.specs.Requests.{Asked, identity, challenge, ChallengeParts}

pub record ChallengeInside (n : ℕ) (c : ChallengeParts) : Type 0 where
  pub autn : c.autn.at < n
  pub mac : c.mac.at + 20 ≤ n
  pub network : c.network.place < n
  pub kdfs : c.kdfs.place < n
  pub few : length c.kdfs.values ≤ 8

abbrev pub Inside : ℕ → Asked → Type 0
Inside n (identity i) = i.at < n
Inside n (challenge c) = ChallengeInside n c
