-- What a `Subscription` stands for. Assumes nothing.
use Rattle.std.specs.Prelude.{ℕ, List}
use Rattle.keys.specs.Octets.{octets}
use Rattle.method.specs.declared.subscription.Subscription.{Subscription}

pub record Subscriber : Type 0 where
  pub supi : List ℕ
  pub snn : List ℕ
  pub most : ℕ

abbrev pub subscriber : Subscription → Subscriber
subscriber s = record { supi = octets s.supi; snn = octets s.network; most = s.most }
