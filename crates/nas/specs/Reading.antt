-- What the reader of elements has still to give. Assumes nothing.
use Rattle.std.specs.Prelude.{List, Result}
use Rattle.nas.specs.declared.element.Element.{Element}
use Rattle.nas.specs.declared.fault.ElementFault.{ElementFault}
use Rattle.nas.specs.declared.reader.Reader.{Reader}
use Rattle.nas.specs.Elements.{Elem, elements}

abbrev pub unread : Reader Element → Result (List Elem) ElementFault
unread r = elements r.bytes.now r.at
