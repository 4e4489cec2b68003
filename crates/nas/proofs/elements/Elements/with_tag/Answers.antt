use Rattle.nas.proofs.Within.{search_inside}
use Rattle.nas.proofs.elements.Elements.with_tag.Goals as goal

pub returns-clause-inside : goal.returns-clause-inside
returns-clause-inside c = search_inside c.args.tag c.args.self.now.bytes.now c.args.self.now.at _ c.find.ensures
