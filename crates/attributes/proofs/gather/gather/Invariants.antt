use Rattle.std.proofs.Common.{◌≡◌, ◌-◌, length, IsOk}
use Rattle.nas.specs.Outcomes.{then}
use Rattle.attributes.specs.Reading.{unread}
use Rattle.attributes.specs.Requests.{added_all, gathered, nothing}
use Rattle.attributes.proofs.gather.gather.Given as goal

abbrev pub invariant-loop-attribute : goal.invariant-loop-attribute
invariant-loop-attribute l =
    record {
      whole : IsOk (unread l.attributes);
      settled : then (unread l.attributes) (λ k. added_all (gathered l.found) k) ≡ then (unread l.initial.attributes) (λ k. added_all nothing k);
    }

abbrev pub decreases-loop-attribute : goal.decreases-loop-attribute
decreases-loop-attribute l = length l.attributes.bytes.now - l.attributes.at
