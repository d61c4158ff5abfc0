-- What a clause says of a type at the front of some bytes: its tree.
use Rattle.stream.specs.Types.{Ty}
use Rattle.stream.specs.TypeFiles.{type_of}
use Rattle.reading.specs.declared.fronts.TypeFront.{TypeFront}

abbrev pub front_tree : TypeFront → Ty
front_tree f = type_of f.bytes.now
