use Rattle.std.proofs.Common.{◌≡◌, ◌-◌, length}
use Rattle.std.specs.Option.{option_map}
use Rattle.nas.specs.Walk.{parts_from}
use Rattle.nas.proofs.Walks.{pick}
use Rattle.nas.proofs.reader.Reader.find.Given as goal

abbrev pub invariant-loop-part : goal.invariant-loop-part
invariant-loop-part g l =
    let t = g.T.Readable in
    pick (t.is_of l.kind) (option_map t.meaning l.found) (parts_from t.part_at t.end_at l.rest.bytes.now l.rest.at)
    ≡ pick (t.is_of l.kind) (option_map t.meaning l.initial.found) (parts_from t.part_at t.end_at l.initial.rest.bytes.now l.initial.rest.at)

abbrev pub decreases-loop-part : goal.decreases-loop-part
decreases-loop-part g l = length l.rest.bytes.now - l.rest.at
