-- What the reader of attributes has still to give. Assumes nothing.
use Rattle.std.specs.Prelude.{List, Result}
use Rattle.nas.specs.declared.reader.Reader.{Reader}
use Rattle.attributes.specs.declared.attribute.Attribute.{Attribute}
use Rattle.attributes.specs.declared.fault.AttributeFault.{AttributeFault}
use Rattle.attributes.specs.Attributes.{Attr, attributes_from}

abbrev pub unread : Reader Attribute → Result (List Attr) AttributeFault
unread r = attributes_from r.bytes.now r.at
